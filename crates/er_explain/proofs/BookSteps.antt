-- How a word's book at one point follows from its book at the point before.
use Rattle.std.proofs.Common.{◌≡◌, ℕ, suc, ◌<◌, Bool, true, false, ◌&&◌, not, cond, ◌==◌, List, [], ◌∷◌, map, Option, Some, None, refl, sym, ◌∙◌, ap, arith}
use Rattle.std.proofs.lemmas.Bool.{le-leb, lt-leb, eq-eqb, eqb-true}
use Rattle.er_event.specs.declared.addresses.PageRange.{PageRange}
use Rattle.er_event.specs.declared.steps.Kind.{Kind}
use Rattle.er_event.specs.Lockset.{has}
use Rattle.er_model.specs.Explanations.{first_write, first_uncovered}
use Rattle.er_model.specs.Search.{least_below, or_next}
use Rattle.er_model.specs.Words.{Mark, Counted, Reused, Shown, Nothing, Reading, reuses, counts, thread_of, writes, is_writing, is_within, cover_of, era, counted_from, first, join}
use Rattle.er_model.proofs.Search.{least_below-none}
use Rattle.er_model.proofs.Words.{first-reused, first-step, first-kept, era-kept, era-below, join-below, counted-join-None}
use Rattle.er_explain.specs.declared.book.Pair.{Pair}
use Rattle.er_explain.specs.Book.{Untouched, Joined}
use Rattle.er_explain.specs.Books.{or_this, pair_after, book_accessed, book_after, book_at}

-- the searches from a joining go on by one position
module _ (r : Reading) (w n j : ℕ) (below : j < n) where
  write-step : first_write r w (suc n) j ≡ or_next (first_write r w n j) (counts (r n) w && writes (r n)) n
  unfolding first_write least_below
  write-step = rw (le-leb j n (omega arith)) refl

  uncovered-step : (l : ℕ) → first_uncovered r w (suc n) j l ≡ or_next (first_uncovered r w n j l) (counts (r n) w && not (has (cover_of (r n)) l)) n
  unfolding first_uncovered least_below
  uncovered-step l = rw (le-leb (suc j) n (omega arith)) refl

-- and begin with it
write-start : (r : Reading) (w n : ℕ) → first_write r w (suc n) n ≡ or_next None (counts (r n) w && writes (r n)) n
unfolding first_write least_below
write-start r w n =
    rw (least_below-none n (λ i. counted_from r w n i && writes (r i)) (λ k l. rw (lt-leb n k l) refl), le-leb n n (omega arith)) refl

uncovered-start : (r : Reading) (w n l : ℕ) → first_uncovered r w (suc n) n l ≡ None
unfolding first_uncovered
uncovered-start r w n l =
    least_below-none (suc n) (λ i. counted_from r w (suc n) i && not (has (cover_of (r i)) l)) (λ k b. rw (lt-leb (suc n) k b) refl)

map-same : (f g : ℕ → Pair ℕ) (xs : List ℕ) → ((x : ℕ) → f x ≡ g x) → map f xs ≡ map g xs
map-same f g [] h = refl
map-same f g (x ∷ xs) h = rw (h x, map-same f g xs h) refl

map-twice : (f : ℕ → Pair ℕ) (g : Pair ℕ → Pair ℕ) (xs : List ℕ) → map g (map f xs) ≡ map (λ x. g (f x)) xs
map-twice f g [] = refl
map-twice f g (x ∷ xs) = rw (map-twice f g xs) refl

or_next-false : (o : Option ℕ) (n : ℕ) → or_next o false n ≡ o
or_next-false None n = refl
or_next-false (Some k) n = refl

or-same : (o : Option ℕ) (test : Bool) (n : ℕ) → or_next o test n ≡ or_this o test n
or-same None test n = refl
or-same (Some k) test n = refl

-- the lock's pair at a point
abbrev pair_at : Reading → ℕ → ℕ → ℕ → ℕ → Pair ℕ
pair_at r w n j l = record { lock = l; at = first_uncovered r w n j l }

-- where the word isn't reused, a second thread joins by an access that isn't the first one's thread's
join-step : (r : Reading) (w n : ℕ) → reuses (r n) w ≡ false → (f : ℕ) → first r w n ≡ Some f →
    join r w (suc n) ≡ or_next (join r w n) (counts (r n) w && not (thread_of (r f) == thread_of (r n))) n
unfolding join least_below
join-step r w n kept f is =
    rw (first-kept r w n kept f is, is)
    (rw (era-kept r w n kept) (rw (le-leb (era r w n) n (era-below r w n)) refl))

-- a word that the position doesn't touch keeps its book
module _ (r : Reading) (w n : ℕ) (kept : reuses (r n) w ≡ false) (quiet : counts (r n) w ≡ false) where
  quiet-first : (o : Option ℕ) → first r w n ≡ o → first r w (suc n) ≡ o
  quiet-first o is = first-step r w n kept ∙ rw (quiet, is) (or_next-false o n)

  quiet-join : (f : ℕ) (o : Option ℕ) → first r w n ≡ Some f → join r w n ≡ o → join r w (suc n) ≡ o
  quiet-join f o is here = join-step r w n kept f is ∙ rw (quiet, here) (or_next-false o n)

  quiet-pair : (j : ℕ) → j < n → (l : ℕ) → pair_at r w (suc n) j l ≡ pair_at r w n j l
  quiet-pair j below l = ap (λ (o : Option ℕ). record { lock = l; at = o }) (uncovered-step r w n j below l ∙ rw quiet (or_next-false (first_uncovered r w n j l) n))

  quiet-by : (f j : Option ℕ) → first r w n ≡ f → join r w n ≡ j → book_at r w (suc n) ≡ book_at r w n
  unfolding book_at
  quiet-by None j is here = rw (quiet-first None is, is) refl
  quiet-by (Some f) None is here = rw (quiet-first (Some f) is, quiet-join f None is here, is, here) refl
  quiet-by (Some f) (Some j) is here =
      let below : j < n = join-below r w n f j is here in
      let same_write : first_write r w (suc n) j ≡ first_write r w n j = write-step r w n j below ∙ rw quiet (or_next-false (first_write r w n j) n) in
      let same_pairs : map (pair_at r w (suc n) j) (cover_of (r j)) ≡ map (pair_at r w n j) (cover_of (r j)) =
      map-same (pair_at r w (suc n) j) (pair_at r w n j) (cover_of (r j)) (quiet-pair j below) in
      rw (quiet-first (Some f) is, quiet-join f (Some j) is here, is, here)
      (λ i. Joined (record { first = f; join = j; write = same_write i; pairs = same_pairs i }))

  pub quiet-book : book_at r w (suc n) ≡ book_at r w n
  quiet-book = quiet-by (first r w n) (join r w n) refl refl

-- a reuse empties it
pub reused-book : (r : Reading) (w n : ℕ) → reuses (r n) w ≡ true → book_at r w (suc n) ≡ Untouched
unfolding book_at
reused-book r w n reused = rw (first-reused r w n reused) refl

counts-own : (t w : ℕ) (kind : Kind) (cover : List ℕ) (m : Mark) → m ≡ Counted t kind w cover → (counts m w ≡ true) × (reuses m w ≡ false) × (writes m ≡ is_writing kind) × (cover_of m ≡ cover) × (thread_of m ≡ t)
unfolding counts reuses writes cover_of thread_of
counts-own t w kind cover m is = rw is (eq-eqb w w refl, refl, refl, refl, refl)

-- an access that counts on the word
module _ (r : Reading) (w n t : ℕ) (kind : Kind) (cover : List ℕ) (own : r n ≡ Counted t kind w cover) where
  counted : counts (r n) w ≡ true
  counted = (counts-own t w kind cover (r n) own).0

  kept : reuses (r n) w ≡ false
  kept = (counts-own t w kind cover (r n) own).1

  wrote : writes (r n) ≡ is_writing kind
  wrote = (counts-own t w kind cover (r n) own).2

  covers : cover_of (r n) ≡ cover
  covers = (counts-own t w kind cover (r n) own).3

  thread : thread_of (r n) ≡ t
  thread = (counts-own t w kind cover (r n) own).4

  from-None : first r w n ≡ None → book_at r w (suc n) ≡ book_accessed (book_at r w n) n t kind cover
  unfolding book_at
  from-None is =
      let now : first r w (suc n) ≡ Some n = first-step r w n kept ∙ rw (is, counted) refl in
      rw (now, counted-join-None r w n kept counted is, is, thread) refl

  -- the word's owner again, or a thread that joins
  from-owner : (f : ℕ) (b : Bool) → (thread_of (r f) == t) ≡ b → first r w n ≡ Some f → join r w n ≡ None → book_at r w (suc n) ≡ book_accessed (book_at r w n) n t kind cover
  unfolding book_at
  from-owner f true same is none =
      let still : join r w (suc n) ≡ None = join-step r w n kept f is ∙ rw (none, counted, thread, same) refl in
      rw (first-kept r w n kept f is, still, is, none, same) refl
  from-owner f false other is none =
      let now : join r w (suc n) ≡ Some n = join-step r w n kept f is ∙ rw (none, counted, thread, other) refl in
      let same_write : first_write r w (suc n) n ≡ or_this None (is_writing kind) n = write-start r w n ∙ rw (counted, wrote) refl in
      let same_pairs : map (pair_at r w (suc n) n) (cover_of (r n)) ≡ map (λ l. record { lock = l; at = None }) cover =
      map-same (pair_at r w (suc n) n) (λ l. record { lock = l; at = None }) (cover_of (r n)) (λ l i. record { lock = l; at = uncovered-start r w n l i })
      ∙ ap (λ (ls : List ℕ). map (λ l. record { lock = l; at = None }) ls) covers in
      rw (first-kept r w n kept f is, now, is, none, other)
      (λ i. Joined (record { first = f; join = n; write = same_write i; pairs = same_pairs i }))

  from-joined : (f j : ℕ) → first r w n ≡ Some f → join r w n ≡ Some j → book_at r w (suc n) ≡ book_accessed (book_at r w n) n t kind cover
  unfolding book_at
  from-joined f j is here =
      let below : j < n = join-below r w n f j is here in
      let still : join r w (suc n) ≡ Some j = join-step r w n kept f is ∙ rw here refl in
      let same_write : first_write r w (suc n) j ≡ or_this (first_write r w n j) (is_writing kind) n = write-step r w n j below ∙ rw (counted, wrote) (or-same (first_write r w n j) (is_writing kind) n) in
      let same_pairs : map (pair_at r w (suc n) j) (cover_of (r j)) ≡ map (pair_after n cover) (map (pair_at r w n j) (cover_of (r j))) =
      map-same (pair_at r w (suc n) j) (λ l. pair_after n cover (pair_at r w n j l)) (cover_of (r j))
      (λ l. ap (λ (o : Option ℕ). record { lock = l; at = o }) (uncovered-step r w n j below l ∙ rw (counted, covers) (or-same (first_uncovered r w n j l) (not (has cover l)) n)))
      ∙ sym (map-twice (pair_at r w n j) (pair_after n cover) (cover_of (r j))) in
      rw (first-kept r w n kept f is, still, is, here)
      (λ i. Joined (record { first = f; join = j; write = same_write i; pairs = same_pairs i }))

  by : (f j : Option ℕ) → first r w n ≡ f → join r w n ≡ j → book_at r w (suc n) ≡ book_accessed (book_at r w n) n t kind cover
  by None j is here = from-None is
  by (Some f) None is here = from-owner f (thread_of (r f) == t) refl is here
  by (Some f) (Some j) is here = from-joined f j is here

  pub counted-book : book_at r w (suc n) ≡ book_accessed (book_at r w n) n t kind cover
  counted-book = by (first r w n) (join r w n) refl refl

-- each mark
access-book : (r : Reading) (w n t word : ℕ) (kind : Kind) (cover : List ℕ) (b : Bool) → r n ≡ Counted t kind word cover → (word == w) ≡ b → book_at r w (suc n) ≡ cond b (book_accessed (book_at r w n) n t kind cover) (book_at r w n)
unfolding reuses counts
access-book r w n t word kind cover true is same = counted-book r w n t kind cover (rw (eqb-true word w same) at is)
access-book r w n t word kind cover false is other = quiet-book r w n (rw is refl) (rw is other)

reuse-book : (r : Reading) (w n : ℕ) (range : PageRange) (b : Bool) → r n ≡ Reused range → is_within w range ≡ b → book_at r w (suc n) ≡ cond b Untouched (book_at r w n)
unfolding reuses counts
reuse-book r w n range true is within = reused-book r w n (rw is within)
reuse-book r w n range false is without = quiet-book r w n (rw is without) (rw is refl)

mark-book : (r : Reading) (w n : ℕ) (m : Mark) → r n ≡ m → book_at r w (suc n) ≡ book_after (book_at r w n) w n m
unfolding reuses counts
mark-book r w n (Counted t kind word cover) is = access-book r w n t word kind cover (word == w) is refl
mark-book r w n (Reused range) is = reuse-book r w n range (is_within w range) is refl
mark-book r w n (Shown word) is = quiet-book r w n (rw is refl) (rw is refl)
mark-book r w n Nothing is = quiet-book r w n (rw is refl) (rw is refl)

-- a word's book follows its steps
pub book-step : (r : Reading) (w n : ℕ) → book_at r w (suc n) ≡ book_after (book_at r w n) w n (r n)
book-step r w n = mark-book r w n (r n) refl

pub book-start : (r : Reading) (w : ℕ) → book_at r w 0 ≡ Untouched
unfolding book_at first least_below
book-start r w = refl
