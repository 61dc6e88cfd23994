-- What handles lead to, one handle at a time.
use Rattle.std.proofs.Common.{◌≡◌, ◌∙◌, ℕ, ◌+◌, ◌<◌, List, [], ◌∷◌, ◌++◌, take, drop, get_or, length, slice_set, refl, sym, ap, subst, arith, inr, zero, suc, Bool, false}
use Rattle.std.proofs.lemmas.List.{map-append, take-append-drop, append_assoc, take-map, map_more, map-set, take_more_set, drop-set-lt, length-map, drop_more}
use Rattle.std.proofs.lemmas.Grind.{drop_more_same}
use Rattle.std.specs.Prelude.{Option, Some, None, Result, Ok, Err, IfOk, IfErr, IfSome, IfNone, IsErrAnd, slice_get, ◌==◌}
use Rattle.er_journal.specs.Entries.{Entry}
use Rattle.er_settle.proofs.ListLemmas.{take_next}
use Rattle.er_settle.specs.Faults.{IsFirst}
use Rattle.er_settle.specs.Seats.{SeatList}
use Rattle.er_settle.specs.declared.unsettled.Unsettled.{Unsettled}
use Rattle.eraser_c.specs.Owned.{Value}
use Rattle.eraser_c.specs.Settlements.{IsOneRun, IsTold, all_behind, all_kept, behind, each_in, journal_in, seat_in, status_of_fault, with_first}
use Rattle.eraser_c.specs.declared.handle.Handle.{Handle}
use Rattle.eraser_c.specs.declared.status.Status.{Status}

first-more : {A : Type 0} (r : Result A Status) (rest grown : Result (List A) Status) (xs : List A) (x : A) → with_first r rest ≡ Ok xs
    → ((ys : List A) → rest ≡ Ok ys → grown ≡ Ok (ys ++ x ∷ [])) → with_first r grown ≡ Ok (xs ++ x ∷ [])
first-more (Err why) rest grown xs x is more = cc
first-more (Ok y) (Err why) grown xs x is more = cc
first-more (Ok y) (Ok ys) grown xs x is more = let all : y ∷ ys ≡ xs = cc in rw (more ys refl, ← all) refl

first-stop : {A : Type 0} (r : Result A Status) (rest stopped : Result (List A) Status) (xs : List A) (why : Status) → with_first r rest ≡ Ok xs
    → ((ys : List A) → rest ≡ Ok ys → stopped ≡ Err why) → with_first r stopped ≡ Err why
first-stop (Err w) rest stopped xs why is stop = cc
first-stop (Ok y) (Err w) stopped xs why is stop = cc
first-stop (Ok y) (Ok ys) stopped xs why is stop = rw (stop ys refl) refl

module _ {A : Type 0} (of : Option Value → Result A Status) where
  -- one more has what is wanted
  each-more : (vs : List (Option Value)) (xs : List A) (v : Option Value) (x : A) → each_in of vs ≡ Ok xs → of v ≡ Ok x → each_in of (vs ++ v ∷ []) ≡ Ok (xs ++ x ∷ [])
  unfolding each_in
  each-more [] xs v x all one = let none : [] ≡ xs = cc in rw (one, ← none) refl
  each-more (w ∷ vs) xs v x all one = first-more (of w) (each_in of vs) (each_in of (vs ++ v ∷ [])) xs x all (λ ys rest. each-more vs ys v x rest one)

  -- one doesn't have it
  each-wrong : (vs rest : List (Option Value)) (xs : List A) (v : Option Value) (why : Status) → each_in of vs ≡ Ok xs → of v ≡ Err why → each_in of (vs ++ v ∷ rest) ≡ Err why
  unfolding each_in
  each-wrong [] rest xs v why all one = rw one refl
  each-wrong (w ∷ vs) rest xs v why all one = first-stop (of w) (each_in of vs) (each_in of (vs ++ v ∷ rest)) xs why all (λ ys before. each-wrong vs rest ys v why before one)

  module _ {B : Type 0} (value : B → Value) (boxes : List (Option B)) (i : ℕ) (b : Option B) (here : slice_get boxes i ≡ Some b) (xs : List A) where
    -- the same of what is behind boxes
    pub each-next : (now : List A) (x : A) → each_in of (all_behind value (take i boxes)) ≡ Ok xs → of (behind value b) ≡ Ok x → now ≡ xs ++ x ∷ []
        → each_in of (all_behind value (take (i + 1) boxes)) ≡ Ok now
    each-next now x all one grown =
        rw (grown, take_next boxes i b here, map-append (behind value) (take i boxes) (b ∷ [])) (each-more (all_behind value (take i boxes)) xs (behind value b) x all one)

    pub each-stop : (why : Status) → each_in of (all_behind value (take i boxes)) ≡ Ok xs → of (behind value b) ≡ Err why → each_in of (all_behind value boxes) ≡ Err why
    each-stop why all one =
        let whole : boxes ≡ take i boxes ++ b ∷ drop (i + 1) boxes =
        sym (take-append-drop (i + 1) boxes) ∙ (ap (λ front. front ++ drop (i + 1) boxes) (take_next boxes i b here) ∙ append_assoc (take i boxes) (b ∷ []) (drop (i + 1) boxes)) in
        ap (λ all. each_in of (all_behind value all)) whole
        ∙ (ap (each_in of) (map-append (behind value) (take i boxes) (b ∷ drop (i + 1) boxes))
        ∙ each-wrong (all_behind value (take i boxes)) (all_behind value (drop (i + 1) boxes)) xs (behind value b) why all one)

-- a list of no handles
pub each-none : {A : Type 0} (of : Option Value → Result A Status) (xs : List A) → xs ≡ [] → each_in of [] ≡ Ok xs
unfolding each_in
each-none of xs none = rw none refl

-- an error that is handed on
pub told_err : {T : Type 0} (r : Result T Status) (why : Status) (P : Status → Type 0) → IsErrAnd r (λ e. e ≡ why) → P why → IfErr r P
told_err (Ok v) why P is met = tt
told_err (Err e) why P is met = subst P (sym is) met

abbrev kept_of : Handle → Option Value
kept_of handle = handle.kept_box.kept

-- what is behind a box is what the handle led to
pub behind_of : {B : Type 0} (value : B → Value) (b : Option B) (kept : Option Value) → IfSome b (λ boxed. kept ≡ Some (value boxed)) → IfNone b (kept ≡ None) → behind value b ≡ kept
behind_of value None kept some none = sym none
behind_of value (Some boxed) kept some none = sym some

module _ (handles old : List Handle) (i : ℕ) (was : Handle) (same : length handles ≡ length old) (within : i < length old) (rest : drop i handles ≡ drop i old) where
  -- one handle more is taken
  pub take-next : {B : Type 0} (value : B → Value) (taken now : List (Option B)) (b : Option B) → was ≡ get_or handles i was → behind value b ≡ was.kept_box.kept
      → all_behind value taken ≡ take i (all_kept old) → now ≡ taken ++ b ∷ [] → all_behind value now ≡ take (i + 1) (all_kept old)
  take-next value taken now b read is so_far grown =
      let both : get_or handles i was ∷ drop (i + 1) handles ≡ get_or old i was ∷ drop (i + 1) old =
      sym (drop_more handles i was (omega (arith, same, within))) ∙ (rest ∙ drop_more old i was within) in
      let stood : was ≡ get_or old i was = cc in
      ap (all_behind value) grown
      ∙ (map-append (behind value) taken (b ∷ [])
      ∙ (ap (λ front. front ++ behind value b ∷ []) so_far
      ∙ (ap (λ kept. take i (all_kept old) ++ kept ∷ []) (is ∙ ap kept_of stood)
      ∙ (ap (λ front. front ++ kept_of (get_or old i was) ∷ []) (take-map kept_of i old)
      ∙ (sym (map_more kept_of old i was within) ∙ sym (take-map kept_of (i + 1) old))))))

  -- and the others are as they were
  pub rest-next : (x : Handle) → drop (i + 1) (slice_set handles i x) ≡ drop (i + 1) old
  rest-next x = drop-set-lt (i + 1) handles i x (omega arith) ∙ drop_more_same handles old i rest

-- one handle more leads to what was taken
pub put-next : {B : Type 0} (value : B → Value) (handles : List Handle) (at : ℕ) (h : Handle) (yielded : List (Option B)) (b : Option B) → at < length handles
    → h.kept_box.kept ≡ behind value b → take at (all_kept handles) ≡ all_behind value yielded
    → take (at + 1) (all_kept (slice_set handles at h)) ≡ all_behind value (yielded ++ b ∷ [])
put-next value handles at h yielded b within is so_far =
    ap (take (at + 1)) (map-set kept_of handles at h)
    ∙ (take_more_set (all_kept handles) at (kept_of h) (omega (arith, within, length-map handles kept_of))
    ∙ (ap (λ front. front ++ kept_of h ∷ []) so_far
    ∙ (ap (λ kept. all_behind value yielded ++ kept ∷ []) is ∙ sym (map-append (behind value) yielded (b ∷ [])))))

-- a settlement of what all handles have
pub all-settled : (name opened : ℕ) (shards seats : List (Option Value)) (journals given : List (List Entry)) (lists handed : List SeatList) (result : Result ℕ Status)
    → each_in (journal_in name) shards ≡ Ok journals → given ≡ journals → each_in seat_in seats ≡ Ok lists → handed ≡ lists → 0 < length given
    → IfOk result (λ count. IsOneRun name opened handed given count)
    → IfErr result (λ why. (fault : Unsettled) × ((why ≡ status_of_fault fault) × IsFirst name opened handed given fault)) → IsTold name opened shards seats result
all-settled name opened shards seats journals [] lists handed result all is each same some run err = absurd (omega (arith, some))
all-settled name opened shards seats journals (g ∷ gs) lists handed (Ok count) all is each same some run err = inr (rw (all, each, ← is, ← same) run)
all-settled name opened shards seats journals (g ∷ gs) lists handed (Err why) all is each same some run err = inr (rw (all, each, ← is, ← same) err)

pub not-zero : (n : ℕ) (b : Bool) → b ≡ (n == 0) → b ≡ false → 0 < n
not-zero zero b is false_ = cc
not-zero (suc n) b is false_ = omega arith

-- a settlement of what was taken is one of what the handles led to
pub told-of : (name opened : ℕ) (shards seats given handed : List (Option Value)) (result : Result ℕ Status) → IsTold name opened given handed result → given ≡ shards → handed ≡ seats
    → IsTold name opened shards seats result
told-of name opened shards seats given handed result told is same = rw (← is, ← same) told
