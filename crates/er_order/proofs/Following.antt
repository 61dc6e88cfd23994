-- What is kept of a word follows from what was kept, by the clock of the accessing thread.
use Rattle.std.proofs.Common.{◌≡◌, ℕ, zero, suc, ◌<◌, ◌≤◌, Bool, true, false, ◌&&◌, ◌||◌, ◌==◌, not, cond, nat_le, List, [], ◌∷◌, filter, map, slice_get, Option, Some, None, refl, ap, ap₂, sym, ◌∙◌, arith}
use Rattle.std.proofs.lemmas.Bool.{le-leb, lt-leb, eq-eqb, eqb-true, or_left, or_right, and_parts}
use Rattle.std.specs.List.{list_any}
use Rattle.er_event.specs.Lockset.{has}
use Rattle.er_event.specs.declared.addresses.PageRange.{PageRange}
use Rattle.er_event.specs.declared.steps.Kind.{Kind}
use Rattle.er_event.specs.declared.steps.Kind.TheVariants.{Read as reading, Write as writing}
use Rattle.er_model.specs.Search.{some_below, every_below, greatest_below}
use Rattle.er_model.specs.Words.{Mark, Counted, Reused, Shown, Nothing, Reading, reuses, counts, thread_of, writes, era, counted_from, is_writing, is_within}
use Rattle.er_model.specs.Holdings.{holdings_at}
use Rattle.er_model.specs.Answers.{reading_of}
use Rattle.er_model.specs.Following.{marked}
use Rattle.er_model.proofs.Search.{some_below-none}
use Rattle.er_model.proofs.AnswersLemmas.{reading-step}
use Rattle.er_model.proofs.Words.{era-kept, era-reused, era-below}
use Rattle.er_event.specs.declared.steps.Step.{Step}
use Rattle.er_order.specs.Order.{Acts, Local, happens_before}
use Rattle.er_order.specs.Clocks.{Epoch, OfThread, clocks_at, own_count}
use Rattle.er_order.specs.Races.{Order, is_apart, is_race, had_race, is_reported, last_write, past_write, latest_from, latest_reads}
use Rattle.er_order.specs.Following.{Seen, fresh, epoch_of, write_epoch, kept, is_unordered, write_is_unordered, races_with, seen_by, kept_by, kept_moved}
use Rattle.er_order.proofs.Order.{happens_before-chain}
use Rattle.er_order.proofs.Searches.{greatest-Some, greatest-none}
use Rattle.er_order.proofs.StepLemmas.{Agree, decided}
use Rattle.er_order.proofs.RaceLemmas.{not-reused, latest-in, latest-empty, race-finds}

pub or_none : (b : Bool) → (b || false) ≡ b
or_none true = refl
or_none false = refl

and_nots : (a b : Bool) → (not a && not b) ≡ not (a || b)
and_nots true b = refl
and_nots false b = refl

and_false : (b : Bool) → (b && false) ≡ false
and_false true = refl
and_false false = refl

every-not : (n : ℕ) (p : ℕ → Bool) → every_below n (λ j. not (p j)) ≡ not (some_below n p)
unfolding every_below some_below
every-not zero p = refl
every-not (suc n) p = rw (every-not n p) (and_nots (some_below n p) (p n))

-- a step of each search
module _ (order : Order) (r : Reading) (w n : ℕ) (stays : reuses (r n) w ≡ false) where
  pub had-step : had_race order r w (suc n) ≡ (had_race order r w n || (counts (r n) w && is_race order r w n))
  unfolding had_race some_below
  had-step = rw (era-kept r w n stays) (rw (le-leb (era r w n) n (era-below r w n)) refl)

  pub write-step : last_write r w (suc n) ≡ cond (counts (r n) w && writes (r n)) (Some n) (last_write r w n)
  unfolding last_write greatest_below
  write-step = rw (era-kept r w n stays) (rw (le-leb (era r w n) n (era-below r w n)) refl)

  past_low : (o : Option ℕ) → last_write r w n ≡ o → past_write (era r w n) o ≤ n
  unfolding last_write
  past_low None is = era-below r w n
  past_low (Some v) is = let found = greatest-Some n v (λ k. counted_from r w (era r w n) k && writes (r k)) is in omega (arith, found.0)

  start_stays : (counts (r n) w && writes (r n)) ≡ false → latest_reads order r w (suc n) ≡ latest_from order r w (past_write (era r w n) (last_write r w n)) (suc n)
  unfolding latest_reads
  start_stays quiet = rw (era-kept r w n stays, write-step) (rw quiet refl)

  from_other : (s : ℕ) → counts (r n) w ≡ false → latest_from order r w s (suc n) ≡ latest_from order r w s n
  unfolding latest_from
  from_other s quiet = rw (quiet, and_false (nat_le s n)) refl

  from_read : (s : ℕ) → s ≤ n → counts (r n) w ≡ true → writes (r n) ≡ false → latest_from order r w s (suc n) ≡ n ∷ filter (λ j. not (order j n)) (latest_from order r w s n)
  unfolding latest_from
  from_read s low counted read = rw (counted, read, le-leb s n low) refl

  pub latest_other : counts (r n) w ≡ false → latest_reads order r w (suc n) ≡ latest_reads order r w n
  unfolding latest_reads
  latest_other quiet = start_stays (rw quiet refl) ∙ from_other (past_write (era r w n) (last_write r w n)) quiet

  pub latest_read : counts (r n) w ≡ true → writes (r n) ≡ false → latest_reads order r w (suc n) ≡ n ∷ filter (λ j. not (order j n)) (latest_reads order r w n)
  unfolding latest_reads
  latest_read counted read = start_stays (rw (counted, read) refl) ∙ from_read (past_write (era r w n) (last_write r w n)) (past_low (last_write r w n) refl) counted read

  pub latest_write : counts (r n) w ≡ true → writes (r n) ≡ true → latest_reads order r w (suc n) ≡ []
  unfolding latest_reads
  latest_write counted wrote =
      rw (era-kept r w n stays, write-step) (rw (counted, wrote) (latest-empty order r w (suc n) (suc n) (omega arith)))

  pub reported-had : is_reported order r w n ≡ (is_race order r w n && not (had_race order r w n))
  unfolding is_reported had_race
  reported-had = rw (era-kept r w n stays) (ap (λ b. is_race order r w n && b) (every-not n (λ j. counted_from r w (era r w n) j && is_race order r w j)))

-- a reuse takes all away
module _ (order : Order) (r : Reading) (w n : ℕ) (reused : reuses (r n) w ≡ true) where
  pub had_reused : had_race order r w (suc n) ≡ false
  unfolding had_race
  had_reused = rw (era-reused r w n reused) (some_below-none (suc n) (λ k. counted_from r w (suc n) k && is_race order r w k) (λ k l. rw (lt-leb (suc n) k l) refl))

  pub write_reused : last_write r w (suc n) ≡ None
  unfolding last_write
  write_reused = rw (era-reused r w n reused) (greatest-none (suc n) (λ k. counted_from r w (suc n) k && writes (r k)) (λ k l. rw (lt-leb (suc n) k l) refl))

  pub latest_reused : latest_reads order r w (suc n) ≡ []
  unfolding latest_reads
  latest_reused = rw (era-reused r w n reused, write_reused) (latest-empty order r w (suc n) (suc n) (omega arith))

-- tests through a map
module _ {X : Type 0} (p : ℕ → Bool) (q : X → Bool) (f : ℕ → X) where
  pub any-mapped : (xs : List ℕ) → ((j : ℕ) → has xs j ≡ true → p j ≡ q (f j)) → list_any p xs ≡ list_any q (map f xs)
  any-mapped [] h = refl
  any-mapped (x ∷ xs) h =
      ap₂ (λ a b. a || b) (h x (or_left (x == x) (has xs x) (eq-eqb x x refl))) (any-mapped xs (λ j member. h j (or_right (x == j) (has xs j) member)))

  filter_one : (b : Bool) (x : ℕ) (xs : List ℕ) → p x ≡ b → q (f x) ≡ b → map f (filter p xs) ≡ filter q (map f xs) →
      map f (cond (p x) (x ∷ filter p xs) (filter p xs)) ≡ cond (q (f x)) (f x ∷ filter q (map f xs)) (filter q (map f xs))
  filter_one true x xs one two rest = rw (one, two) (ap (λ ys. f x ∷ ys) rest)
  filter_one false x xs one two rest = rw (one, two) rest

  pub filter-mapped : (xs : List ℕ) → ((j : ℕ) → has xs j ≡ true → p j ≡ q (f j)) → map f (filter p xs) ≡ filter q (map f xs)
  filter-mapped [] h = refl
  filter-mapped (x ∷ xs) h =
      filter_one (p x) x xs refl (sym (h x (or_left (x == x) (has xs x) (eq-eqb x x refl)))) (filter-mapped xs (λ j member. h j (or_right (x == j) (has xs j) member)))

module _ (acts : Acts) (r : Reading) (agree : Agree acts r) (w k : ℕ) where
  abbrev writes_kept : ℕ → Option Epoch
  writes_kept n = write_epoch acts r (last_write r w n)

  abbrev reads_kept : ℕ → List Epoch
  reads_kept n = map (epoch_of acts r) (latest_reads (happens_before acts) r w n)

  module _ (t : ℕ) (kind : Kind) (cover : List ℕ) (is : r k ≡ Counted t kind w cover) where
    abbrev clock : ℕ → ℕ
    clock = clocks_at acts k (OfThread t)

    counted : counts (r k) w ≡ true
    unfolding counts
    counted = rw is (eq-eqb w w refl)

    stays : reuses (r k) w ≡ false
    stays = not-reused (r k) w counted

    wrote : writes (r k) ≡ is_writing kind
    unfolding writes
    wrote = rw is refl

    threads : thread_of (r k) ≡ t
    unfolding thread_of
    threads = rw is refl

    acted : acts k ≡ Some (record { thread = t; sync = Local })
    acted = agree k w counted ∙ rw threads refl

    known : (j : ℕ) → j < k → counts (r j) w ≡ true → not (happens_before acts j k) ≡ is_unordered clock (epoch_of acts r j)
    known j below at_j = ap not (decided acts r agree w k j t below at_j acted)

    write_known : (o : Option ℕ) → last_write r w k ≡ o → is_apart (happens_before acts) o k ≡ write_is_unordered clock (write_epoch acts r o)
    unfolding last_write
    write_known None at = refl
    write_known (Some v) at =
        let found = greatest-Some k v (λ i. counted_from r w (era r w k) i && writes (r i)) at in
        let parts = and_parts (counted_from r w (era r w k) v) (writes (r v)) found.1 in
        known v found.0 (and_parts (nat_le (era r w k) v) (counts (r v) w) parts.0).1

    read_known : (j : ℕ) → has (latest_reads (happens_before acts) r w k) j ≡ true → not (happens_before acts j k) ≡ is_unordered clock (epoch_of acts r j)
    unfolding latest_reads
    read_known j member =
        let found = latest-in (happens_before acts) r w (past_write (era r w k) (last_write r w k)) k j member in
        known j found.0 (and_parts (nat_le (past_write (era r w k) (last_write r w k)) j) (counts (r j) w) found.1).1

    -- by the clock
    race-clock : had_race (happens_before acts) r w k ≡ false → is_race (happens_before acts) r w k ≡ races_with clock (writes_kept k) (reads_kept k) kind
    race-clock none =
        race-finds (happens_before acts) r w (happens_before-chain acts) k counted none
        ∙ rw (write_known (last_write r w k) refl, wrote, any-mapped (λ j. not (happens_before acts j k)) (is_unordered clock) (epoch_of acts r) (latest_reads (happens_before acts) r w k) read_known) refl

    next_kind : (some : Kind) → kind ≡ some → Seen (writes_kept (suc k)) (reads_kept (suc k)) ≡ seen_by clock (writes_kept k) (reads_kept k) t kind
    unfolding own_count
    next_kind reading same =
        let read : writes (r k) ≡ false = wrote ∙ ap is_writing same in
        rw (write-step (happens_before acts) r w k stays, latest_read (happens_before acts) r w k stays counted read, counted, read, same, threads)
        (ap (λ xs. Seen (writes_kept k) ((t, clock t) ∷ xs)) (filter-mapped (λ j. not (happens_before acts j k)) (is_unordered clock) (epoch_of acts r) (latest_reads (happens_before acts) r w k) read_known))
    next_kind writing same =
        let write : writes (r k) ≡ true = wrote ∙ ap is_writing same in
        rw (write-step (happens_before acts) r w k stays, latest_write (happens_before acts) r w k stays counted write, counted, write, same, threads) refl

    next_seen : (b : Bool) → had_race (happens_before acts) r w k ≡ false → is_race (happens_before acts) r w k ≡ b →
        kept acts r w (suc k) ≡ kept_by clock (Seen (writes_kept k) (reads_kept k)) t kind
    unfolding kept
    next_seen true none race =
        let found : races_with clock (writes_kept k) (reads_kept k) kind ≡ true = sym (race-clock none) ∙ race in
        rw (had-step (happens_before acts) r w k stays, none, counted, race, found) refl
    next_seen false none race =
        let found : races_with clock (writes_kept k) (reads_kept k) kind ≡ false = sym (race-clock none) ∙ race in
        rw (had-step (happens_before acts) r w k stays, none, counted, race, found) (next_kind kind refl)

    next_had : (b : Bool) → had_race (happens_before acts) r w k ≡ b → kept acts r w (suc k) ≡ kept_by clock (kept acts r w k) t kind
    unfolding kept
    next_had true had = rw (had-step (happens_before acts) r w k stays, had) refl
    next_had false none = rw none (next_seen (is_race (happens_before acts) r w k) none refl)

    pub access-kept : kept acts r w (suc k) ≡ kept_by clock (kept acts r w k) t kind
    access-kept = next_had (had_race (happens_before acts) r w k) refl

  -- a position that isn't the word's
  untouched : reuses (r k) w ≡ false → counts (r k) w ≡ false → kept acts r w (suc k) ≡ kept acts r w k
  unfolding kept
  untouched stays quiet =
      rw (had-step (happens_before acts) r w k stays, write-step (happens_before acts) r w k stays, latest_other (happens_before acts) r w k stays quiet)
      (rw (quiet, or_none (had_race (happens_before acts) r w k)) refl)

  renewed : reuses (r k) w ≡ true → kept acts r w (suc k) ≡ fresh
  unfolding kept
  renewed reused = rw (had_reused (happens_before acts) r w k reused, write_reused (happens_before acts) r w k reused, latest_reused (happens_before acts) r w k reused) refl

  moved_access : (t word : ℕ) (kind : Kind) (cover : List ℕ) (b : Bool) → r k ≡ Counted t kind word cover → (word == w) ≡ b →
      kept acts r w (suc k) ≡ cond b (kept_by (clocks_at acts k (OfThread t)) (kept acts r w k) t kind) (kept acts r w k)
  unfolding reuses counts
  moved_access t word kind cover false is other = untouched (rw is refl) (rw is other)
  moved_access t word kind cover true is same = access-kept t kind cover (is ∙ ap (λ v. Counted t kind v cover) (eqb-true word w same))

  moved_reuse : (range : PageRange) (b : Bool) → r k ≡ Reused range → is_within w range ≡ b → kept acts r w (suc k) ≡ cond b fresh (kept acts r w k)
  unfolding reuses counts
  moved_reuse range false is outside = untouched (rw is outside) (rw is refl)
  moved_reuse range true is within = renewed (rw is within)

  moved_mark : (mark : Mark) → r k ≡ mark → kept acts r w (suc k) ≡ kept_moved (clocks_at acts k (OfThread (thread_of mark))) (kept acts r w k) w mark
  unfolding reuses counts thread_of
  moved_mark (Counted t kind word cover) is = moved_access t word kind cover (word == w) is refl
  moved_mark (Reused range) is = moved_reuse range (is_within w range) is refl
  moved_mark (Shown word) is = untouched (rw is refl) (rw is refl)
  moved_mark Nothing is = untouched (rw is refl) (rw is refl)

  pub kept-follows : kept acts r w (suc k) ≡ kept_moved (clocks_at acts k (OfThread (thread_of (r k)))) (kept acts r w k) w (r k)
  kept-follows = moved_mark (r k) refl

pub kept-none : (acts : Acts) (r : Reading) (w : ℕ) → kept acts r w zero ≡ fresh
unfolding kept had_race some_below last_write greatest_below latest_reads latest_from
kept-none acts r w = refl

-- a list of steps
module _ (steps : List Step) (k : ℕ) (s : Step) (is : slice_get steps k ≡ Some s) where
  -- its place in the reading
  pub mark-step : reading_of steps k ≡ marked (holdings_at steps s.thread k) s.thread s.event
  mark-step = reading-step steps k s is
