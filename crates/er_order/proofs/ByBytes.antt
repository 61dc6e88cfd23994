-- Races by bytes: pairs with a common byte, whole words, and the search from an era's end.
use Rattle.std.proofs.Common.{◌≡◌, ℕ, zero, suc, ◌<◌, ◌≤◌, Bool, true, false, ◌&&◌, ◌||◌, not, cond, nat_le, is_some, List, [], ◌∷◌, slice_get, Option, Some, None, refl, ap, ◌∙◌, arith, ⊎_elim, ◌⊎◌}
use Rattle.std.proofs.Math.Path.{fun_ext}
use Rattle.std.proofs.lemmas.Bool.{le-leb, leb-true, or_left, and_parts, and_from, not-true, not_from_false, false_from_ne_true}
use Rattle.std.specs.List.{find}
use Rattle.er_event.specs.declared.addresses.PageRange.{PageRange}
use Rattle.er_event.specs.declared.steps.Event.{Event}
use Rattle.er_event.specs.declared.steps.Event.TheVariants.{Acquire, Release, Access, Reuse, IgnoreOn, IgnoreOff, Show, Level, Sync}
use Rattle.er_event.specs.declared.steps.Reply.TheVariants.{Done, Quiet, Race, Ignored}
use Rattle.er_event.specs.declared.steps.Step.{Step}
use Rattle.er_model.specs.Search.{some_below, greatest_below, least_below}
use Rattle.er_model.specs.Words.{Reading, reuses, counts, writes, era, counted_from, is_within}
use Rattle.er_model.specs.Threads.{is_ignoring, refusal, accepted}
use Rattle.er_model.specs.Answers.{answer_unless, reading_of}
use Rattle.er_model.proofs.Meaning.{some_below-found, some_below-from}
use Rattle.er_model.proofs.Words.{era-kept, era-reused, era-below}
use Rattle.er_order.specs.Order.{acts_of, happens_before}
use Rattle.er_order.specs.Races.{Order, conflicts, is_race, had_race, is_reported, last_use, is_in_use, word_in_use, reuse_reply, order_reply, order_answer, order_answer_to}
use Rattle.er_order.specs.Reasons.{last_unordered, use_of, unordered_by, unordered_in, unordered_with}
use Rattle.er_order.specs.ByBytes.{Touched, whole, meet, by_bytes, is_in_use_by_bytes, word_in_use_by_bytes, reply_by_bytes, answer_to_by_bytes, answer_by_bytes, unordered_by_bytes_of, unordered_by_bytes_in, unordered_by_bytes, accesses_from, accesses}
use Rattle.er_order.specs.declared.bytes.Bytes.{Bytes}
use Rattle.er_order.proofs.Following.{or_none}
use Rattle.er_order.proofs.RaceFacts.{more-unordered}
use Rattle.er_order.proofs.RaceLemmas.{not-reused}
use Rattle.er_order.proofs.Searches.{greatest-agree}

-- neither of two holds
pub or_neither : (a b : Bool) → (a || b) ≡ false → (a ≡ false) × (b ≡ false)
or_neither true b e = cc
or_neither false b e = (refl, e)

not_false : (b : Bool) → not b ≡ false → b ≡ true
not_false true e = refl
not_false false e = cc

module _ (touched : Touched) (order : Order) where
  by_bytes-apart : (j k : ℕ) → by_bytes touched order j k ≡ false → (order j k ≡ false) × (meet (touched j) (touched k) ≡ true)
  unfolding by_bytes
  by_bytes-apart j k e = let both = or_neither (order j k) (not (meet (touched j) (touched k))) e in (both.0, not_false (meet (touched j) (touched k)) both.1)

  by_bytes-from : (j k : ℕ) → order j k ≡ false → meet (touched j) (touched k) ≡ true → by_bytes touched order j k ≡ false
  unfolding by_bytes
  by_bytes-from j k apart common = rw (apart, common) refl

  within_bytes : (j k : ℕ) → order j k ≡ true → by_bytes touched order j k ≡ true
  unfolding by_bytes
  within_bytes j k before = or_left (order j k) (not (meet (touched j) (touched k))) before

  module _ (r : Reading) (w k : ℕ) where
    pub bytes-race : is_race (by_bytes touched order) r w k ≡ true
        → (j : ℕ) × (j < k) × (conflicts r w j k ≡ true) × (meet (touched j) (touched k) ≡ true) × (order j k ≡ false)
    unfolding is_race
    bytes-race e =
        let found = some_below-found k (λ j. conflicts r w j k && not (by_bytes touched order j k)) e in
        let parts = and_parts (conflicts r w found.0 k) (not (by_bytes touched order found.0 k)) found.2 in
        let apart = by_bytes-apart found.0 k (not-true (by_bytes touched order found.0 k) parts.1) in
        (found.0, found.1, parts.0, apart.1, apart.0)

    pub bytes-pair : (j : ℕ) → j < k → conflicts r w j k ≡ true → meet (touched j) (touched k) ≡ true → order j k ≡ false → is_race (by_bytes touched order) r w k ≡ true
    unfolding is_race
    bytes-pair j below conflict common apart =
        some_below-from k (λ i. conflicts r w i k && not (by_bytes touched order i k)) j below
        (and_from (conflicts r w j k) (not (by_bytes touched order j k)) conflict (not_from_false (by_bytes touched order j k) (by_bytes-from j k apart common)))

    pub bytes-fewer : is_race (by_bytes touched order) r w k ≡ true → is_race order r w k ≡ true
    bytes-fewer e = more-unordered order (by_bytes touched order) r w k within_bytes e

-- bytes in common
pub meet-byte : (a b : Bytes) → a.first ≤ a.last → b.first ≤ b.last → meet a b ≡ true → (i : ℕ) × (a.first ≤ i) × (i ≤ a.last) × (b.first ≤ i) × (i ≤ b.last)
meet-byte a b own_a own_b e =
    let parts = and_parts (nat_le a.first b.last) (nat_le b.first a.last) e in
    let one = leb-true a.first b.last parts.0 in
    let two = leb-true b.first a.last parts.1 in
    ⊎_elim (λ low. (b.first, low, two, omega arith, own_b)) (λ high. (a.first, omega arith, own_a, high, one)) (sides a.first b.first)
  where
    sides : (x y : ℕ) → (x ≤ y) ⊎ (y ≤ x)
    sides x y = grind arith

pub byte-meet : (a b : Bytes) (i : ℕ) → a.first ≤ i → i ≤ a.last → b.first ≤ i → i ≤ b.last → meet a b ≡ true
byte-meet a b i low_a high_a low_b high_b =
    and_from (nat_le a.first b.last) (nat_le b.first a.last) (le-leb a.first b.last (omega arith)) (le-leb b.first a.last (omega arith))

-- where all accesses touch whole words
module _ (touched : Touched) (all : (j : ℕ) → touched j ≡ whole) where
  pub whole-order : (order : Order) → by_bytes touched order ≡ order
  unfolding by_bytes
  whole-order order = fun_ext (λ j. fun_ext (λ k. rw (all j, all k) (or_none (order j k))))

  module _ (steps : List Step) (k : ℕ) where
    abbrev hb : Order
    hb = happens_before (acts_of steps)

    whole_use : (w : ℕ) → is_in_use_by_bytes touched hb (reading_of steps) w k ≡ is_in_use hb (reading_of steps) w k
    unfolding is_in_use_by_bytes is_in_use
    whole_use w = ap (λ (o : Order). is_some (last_use hb (reading_of steps) w k) && not (had_race o (reading_of steps) w k)) (whole-order hb)

    whole_word : (range : PageRange) → word_in_use_by_bytes touched hb (reading_of steps) k range ≡ word_in_use hb (reading_of steps) k range
    unfolding word_in_use_by_bytes word_in_use
    whole_word range = ap (λ (test : ℕ → Bool). least_below (suc range.hi) test) (fun_ext (λ w. ap (λ b. is_within w range && b) (whole_use w)))

    whole_reply : (t : ℕ) (e : Event) → reply_by_bytes touched steps k t e ≡ order_reply steps k t e
    unfolding reply_by_bytes order_reply
    whole_reply t (Access kind w site) = ap (λ (o : Order). cond (is_ignoring (accepted steps k) t) Ignored (cond (is_reported o (reading_of steps) w k) Race Quiet)) (whole-order hb)
    whole_reply t (Reuse range) = ap (λ o. cond (is_ignoring (accepted steps k) t) Done (reuse_reply o)) (whole_word range)
    whole_reply t (Acquire l m) = refl
    whole_reply t (Release l m) = refl
    whole_reply t IgnoreOn = refl
    whole_reply t IgnoreOff = refl
    whole_reply t (Show w) = refl
    whole_reply t (Level n) = refl
    whole_reply t (Sync sync) = refl

    whole_answer : (o : Option Step) → answer_to_by_bytes touched steps k o ≡ order_answer_to steps k o
    whole_answer None = refl
    whole_answer (Some s) = ap (answer_unless (refusal (accepted steps k) s.thread s.event)) (whole_reply s.thread s.event)

    pub whole-answers : answer_by_bytes touched steps k ≡ order_answer steps k
    unfolding answer_by_bytes order_answer
    whole-answers = whole_answer (slice_get steps k)

    whole_event : (e : Event) → unordered_by_bytes_of touched steps k e ≡ unordered_by steps k e
    whole_event (Access kind w site) = ap (λ (o : Order). last_unordered o (reading_of steps) w k) (whole-order hb)
    whole_event (Reuse range) = ap (use_of steps k) (whole_word range)
    whole_event (Acquire l m) = refl
    whole_event (Release l m) = refl
    whole_event IgnoreOn = refl
    whole_event IgnoreOff = refl
    whole_event (Show w) = refl
    whole_event (Level n) = refl
    whole_event (Sync sync) = refl

    whole_in : (o : Option Step) → unordered_by_bytes_in touched steps k o ≡ unordered_in steps k o
    whole_in None = refl
    whole_in (Some s) = whole_event s.event

    pub whole-named : unordered_by_bytes touched steps k ≡ unordered_with steps k
    unfolding unordered_by_bytes unordered_with
    whole-named = whole_in (slice_get steps k)

-- a search below a point passes exactly if the greatest one finds something
pub some-greatest : (n : ℕ) (p : ℕ → Bool) → some_below n p ≡ is_some (greatest_below n p)
unfolding some_below greatest_below
some-greatest zero p = refl
some-greatest (suc n) p = by (p n) (some_below n p) (greatest_below n p) (some-greatest n p)
  where
    by : (here some : Bool) (o : Option ℕ) → some ≡ is_some o → (some || here) ≡ is_some (cond here (Some n) o)
    by true true o same = refl
    by true false o same = refl
    by false some o same = or_none some ∙ same

module _ (r : Reading) (w : ℕ) where
  -- a search among counted accesses goes through their list
  pub search-listed : (start n : ℕ) (test : ℕ → Bool) → greatest_below n (λ j. counted_from r w start j && test j) ≡ find test (accesses_from r w start n)
  unfolding greatest_below accesses_from
  search-listed start zero test = refl
  search-listed start (suc n) test = by (counted_from r w start n) (search-listed start n test)
    where
      by : (b : Bool) → greatest_below n (λ j. counted_from r w start j && test j) ≡ find test (accesses_from r w start n)
          → cond (b && test n) (Some n) (greatest_below n (λ j. counted_from r w start j && test j)) ≡ find test (cond b (n ∷ accesses_from r w start n) (accesses_from r w start n))
      by true rest = ap (λ o. cond (test n) (Some n) o) rest
      by false rest = rest

  module _ (order : Order) (k : ℕ) where
    pub use-listed : last_use order r w k ≡ find (λ j. not (order j k)) (accesses r w k)
    unfolding last_use accesses
    use-listed = search-listed (era r w k) k (λ j. not (order j k))

    pub race-listed : is_race order r w k ≡ is_some (last_unordered order r w k)
    unfolding is_race last_unordered
    race-listed = some-greatest k (λ j. conflicts r w j k && not (order j k))

    module _ (touched : Touched) (here : counts (r k) w ≡ true) where
      abbrev passes : ℕ → Bool
      passes j = (writes (r j) || writes (r k)) && (meet (touched j) (touched k) && not (order j k))

      same_test : (a b c d : Bool) → ((a && (true && b)) && not (c || not d)) ≡ (a && (b && (d && not c)))
      same_test true true true true = refl
      same_test true true true false = refl
      same_test true true false true = refl
      same_test true true false false = refl
      same_test true false c d = refl
      same_test false b c d = refl

      pub unordered-listed : last_unordered (by_bytes touched order) r w k ≡ find passes (accesses r w k)
      unfolding last_unordered accesses conflicts by_bytes
      unordered-listed =
          greatest-agree k (λ j. (counted_from r w (era r w (suc k)) j && (counts (r k) w && (writes (r j) || writes (r k)))) && not (order j k || not (meet (touched j) (touched k))))
          (λ j. counted_from r w (era r w k) j && passes j)
          (λ j below. rw (era-kept r w k (not-reused (r k) w here), here) (same_test (counted_from r w (era r w k) j) (writes (r j) || writes (r k)) (order j k) (meet (touched j) (touched k))))
          ∙ search-listed (era r w k) k passes

  -- nothing is counted before its start
  none_before : (start n : ℕ) → n ≤ start → accesses_from r w start n ≡ []
  unfolding accesses_from
  none_before start zero low = refl
  none_before start (suc n) low =
      rw (false_from_ne_true (nat_le start n) (λ e. let above = leb-true start n e in absurd (omega arith)))
      (none_before start n (omega arith))

  module _ (n : ℕ) where
    one_more : (start : ℕ) → start ≤ n → (b : Bool) → counts (r n) w ≡ b → accesses_from r w start (suc n) ≡ cond b (n ∷ accesses_from r w start n) (accesses_from r w start n)
    unfolding accesses_from
    one_more start low b is = rw (le-leb start n low, is) refl

    kept_start : reuses (r n) w ≡ false → (b : Bool) → counts (r n) w ≡ b → accesses r w (suc n) ≡ cond b (n ∷ accesses r w n) (accesses r w n)
    unfolding accesses
    kept_start stays b is = ap (λ start. accesses_from r w start (suc n)) (era-kept r w n stays) ∙ one_more (era r w n) (era-below r w n) b is

    pub listed-access : counts (r n) w ≡ true → accesses r w (suc n) ≡ n ∷ accesses r w n
    listed-access here = kept_start (not-reused (r n) w here) true here

    pub listed-reuse : reuses (r n) w ≡ true → accesses r w (suc n) ≡ []
    unfolding accesses
    listed-reuse reused = rw (era-reused r w n reused) (none_before (suc n) (suc n) (omega arith))

    pub listed-other : counts (r n) w ≡ false → reuses (r n) w ≡ false → accesses r w (suc n) ≡ accesses r w n
    listed-other quiet stays = kept_start stays false quiet
