-- What may be stored of reads after one more: the list may leave out what the reader's clock covers, and what a later read of the same thread replaces.
use Rattle.std.proofs.Common.{◌≡◌, ◌∙◌, ℕ, zero, suc, ◌≤◌, ◌<◌, ◌+◌, Bool, true, false, ◌&&◌, ◌||◌, not, nat_eq, cond, List, [], ◌∷◌, ◌++◌, filter, length, get_or, take, reverse, slice_set, Option, Some, None, refl, sym, ap, ap₂, subst, arith}
use Rattle.std.specs.Option.{option_or}
use Rattle.std.proofs.lemmas.Bool.{eqb-true, le-leb, leb-true}
use Rattle.std.proofs.lemmas.List.{reverse-append, reverse-reverse, take_more}
use Rattle.std.proofs.lemmas.List.Folds.{find-append}
use Rattle.er_event.specs.declared.steps.Kind.{Kind}
use Rattle.er_event.specs.declared.steps.Kind.TheVariants.{Read as reading, Write as writing}
use Rattle.er_order.specs.Clocks.{Epoch, covers}
use Rattle.er_order.specs.Following.{is_unordered}
use Rattle.er_order.specs.Keeping.{first_apart, IsNoted}
use Rattle.er_order.proofs.Keeping.{behind-read, covered-later, noted-filter}
use Rattle.er_epochs.specs.declared.reads.Tagged.{Tagged}
use Rattle.er_epochs.specs.Epochs.{Latest, Stored, Accesses, Told, pair_of, is_apart, some_apart, is_replaced, stored_by, latest_by, reads_of, with_reads, IsStoredBy}

module _ {A : Type 0} where
  -- what the definitions make of it may be stored
  pub stored_exactly : (clock : ℕ → ℕ) (before after : Stored A) (x : Tagged A) (kind : Kind) → after ≡ stored_by clock before x kind → IsStoredBy clock before x kind after
  stored_exactly clock before after x writing is = is
  stored_exactly clock before after x reading is = (x ∷ filter (is_apart clock) (reads_of before), is ∙ same before, noted-filter pair_of clock (reads_of before) x)
    where
      by_race : (b : Bool) (latest : Latest A) → cond b Told (Accesses latest) ≡ with_reads (cond b Told (Accesses latest)) latest.reads
      by_race true latest = refl
      by_race false latest = refl

      same : (k : Stored A) → stored_by clock k x reading ≡ with_reads (stored_by clock k x reading) (x ∷ filter (is_apart clock) (reads_of k))
      same Told = refl
      same (Accesses latest) = by_race (some_apart clock latest.write || false) (latest_by clock latest x reading)

  filter-push : (p : Tagged A → Bool) (xs : List (Tagged A)) (x : Tagged A) → filter p (xs ++ x ∷ []) ≡ filter p xs ++ filter p (x ∷ [])
  filter-push p [] x = refl
  filter-push p (y ∷ xs) x = by (p y) (filter-push p xs x)
    where
      by : (b : Bool) → filter p (xs ++ x ∷ []) ≡ filter p xs ++ filter p (x ∷ [])
          → cond b (y ∷ filter p (xs ++ x ∷ [])) (filter p (xs ++ x ∷ [])) ≡ cond b (y ∷ filter p xs) (filter p xs) ++ filter p (x ∷ [])
      by true rest = ap (λ ys. y ∷ ys) rest
      by false rest = rest

  filter-turned : (p : Tagged A → Bool) (xs : List (Tagged A)) → reverse (filter p xs) ≡ filter p (reverse xs)
  filter-turned p [] = refl
  filter-turned p (x ∷ xs) =
      by (p x) (filter-turned p xs) ∙ sym (ap (filter p) (reverse-append (x ∷ []) xs) ∙ filter-push p (reverse xs) x)
    where
      by : (b : Bool) → reverse (filter p xs) ≡ filter p (reverse xs) → reverse (cond b (x ∷ filter p xs) (filter p xs)) ≡ filter p (reverse xs) ++ cond b (x ∷ []) []
      by true rest = reverse-append (x ∷ []) (filter p xs) ∙ ap (λ ys. ys ++ x ∷ []) rest
      by false rest = rest ∙ sym (append_none (filter p (reverse xs)))
        where
          append_none : (ys : List (Tagged A)) → ys ++ [] ≡ ys
          append_none [] = refl
          append_none (y ∷ ys) = ap (λ rest. y ∷ rest) (append_none ys)

  turned-push : (xs : List (Tagged A)) (x : Tagged A) → reverse (xs ++ x ∷ []) ≡ x ∷ reverse xs
  turned-push xs x = reverse-append xs (x ∷ [])

  module _ (clock : ℕ → ℕ) (reads : List (Tagged A)) (x : Tagged A) where
    -- those that the clock doesn't cover
    pub noted_few : (was after : List (Tagged A)) → reads ≡ was → after ≡ filter (is_apart clock) reads ++ x ∷ [] → IsNoted pair_of clock (reverse was) x (reverse after)
    noted_few was after same is = rw (← same, is, turned-push (filter (is_apart clock) reads) x, filter-turned (is_apart clock) reads) (noted-filter pair_of clock (reverse reads) x)

    -- or such that a clock that has all of this one finds the same among them
    pub noted_many : (turned left after : List (Tagged A)) → turned ≡ reverse reads → ((later : ℕ → ℕ) → ((u : ℕ) → clock u ≤ later u) → first_apart pair_of later left ≡ first_apart pair_of later turned)
        → after ≡ reverse left ++ x ∷ [] → IsNoted pair_of clock (reverse reads) x (reverse after)
    noted_many turned left after is_turned same is =
        rw (is, turned-push (reverse left) x, reverse-reverse left)
        (record { noted = λ later knows. behind-read pair_of later x left (reverse reads) (λ covered. same later (knows covered) ∙ ap (first_apart pair_of later) is_turned) })

  -- the read in the place of the last one, which is of the same epoch
  pub noted_over : (clock : ℕ → ℕ) (first : List (Tagged A)) (last x : Tagged A) (before after : List (Tagged A)) → pair_of last ≡ pair_of x → before ≡ first ++ last ∷ [] → after ≡ first ++ x ∷ []
      → IsNoted pair_of clock (reverse before) x (reverse after)
  noted_over clock first last x before after own was is = rw (was, is, turned-push first last, turned-push first x)
      (record {
        noted = λ later knows. behind-read pair_of later x (reverse first) (last ∷ reverse first)
            (λ covered. rw (ap (covers later) own ∙ covered) refl);
      })

-- the last item, and another one in its place
pub last_over : {X : Type 0} (xs : List X) (n : ℕ) (x y : X) → length xs ≡ suc n → (first : List X) × (xs ≡ first ++ get_or xs n x ∷ []) × (slice_set xs n y ≡ first ++ y ∷ [])
last_over [] n x y long = absurd (omega (arith, long))
last_over (z ∷ []) zero x y long = ([], refl, refl)
last_over (z ∷ []) (suc n) x y long = absurd (omega (arith, long))
last_over (z ∷ w ∷ xs) zero x y long = absurd (omega (arith, long))
last_over (z ∷ w ∷ xs) (suc n) x y long =
    let rest = last_over (w ∷ xs) n x y (omega (arith, long)) in
    (z ∷ rest.0, ap (λ ys. z ∷ ys) rest.1, ap (λ ys. z ∷ ys) rest.2)

or_none : {X : Type 0} (o p : Option X) → option_or o p ≡ None → (o ≡ None) × (p ≡ None)
or_none None p none = (refl, none)
or_none (Some x) p none = cc

-- of the reads so far these are left, and these are the last counts of their threads
pub record Leaves {A : Type 0} (clock : ℕ → ℕ) (before left : List (Tagged A)) (counts : ℕ → Option ℕ) : Type 0 where
  pub found : (later : ℕ → ℕ) → ((u : ℕ) → clock u ≤ later u) → first_apart pair_of later left ≡ first_apart pair_of later before
  pub known : (t n : ℕ) → counts t ≡ Some n → (later : ℕ → ℕ) → first_apart pair_of later left ≡ None → is_unordered later (t, n) ≡ false

module _ {A : Type 0} (clock : ℕ → ℕ) (before left : List (Tagged A)) (counts : ℕ → Option ℕ) (x : Tagged A) (so_far : Leaves clock before left counts) where
  more : (xs : List (Tagged A)) (later : ℕ → ℕ) → first_apart pair_of later (xs ++ x ∷ []) ≡ option_or (first_apart pair_of later xs) (cond (is_apart later x) (Some x) None)
  more xs later = find-append (λ read. is_unordered later (pair_of read)) xs (x ∷ [])

  -- one more is left
  pub leaves_put : (all now : List (Tagged A)) (after : ℕ → Option ℕ) (key : ℕ) → all ≡ before ++ x ∷ [] → now ≡ left ++ x ∷ [] → key ≡ x.epoch.thread
      → ((q : ℕ) → after q ≡ cond (nat_eq key q) (Some x.epoch.count) (counts q)) → Leaves clock all now after
  leaves_put all now after key next pushed same put = rw (next, pushed) (record {
    found = λ later has_all. more left later ∙ ap (λ o. option_or o (cond (is_apart later x) (Some x) None)) (so_far.found later has_all) ∙ sym (more before later);
    known = λ t n is later none.
        let parts = or_none (first_apart pair_of later left) (cond (is_apart later x) (Some x) None) (sym (more left later) ∙ none) in
        by t n later (nat_eq key t) refl is parts.0 (covered later (is_apart later x) refl parts.1);
  })
    where
      covered : (later : ℕ → ℕ) (b : Bool) → is_apart later x ≡ b → cond (is_apart later x) (Some x) None ≡ None → is_apart later x ≡ false
      covered later true is none = let clash : Some x ≡ None = ap (λ b. cond b (Some x) None) (sym is) ∙ none in cc
      covered later false is none = is

      by : (t n : ℕ) (later : ℕ → ℕ) (b : Bool) → nat_eq key t ≡ b → after t ≡ Some n → first_apart pair_of later left ≡ None → is_apart later x ≡ false → is_unordered later (t, n) ≡ false
      by t n later true here is none own =
          let count : Some x.epoch.count ≡ Some n = sym (put t ∙ ap (λ (b : Bool). cond b (Some x.epoch.count) (counts t)) here) ∙ is in
          let value : x.epoch.count ≡ n = cc in
          subst (λ (e : Epoch). is_unordered later e ≡ false) (ap₂ {C = Epoch} (λ a b. (a, b)) (sym same ∙ eqb-true key t here) value) own
      by t n later false there is none own = so_far.known t n (sym (put t ∙ ap (λ (b : Bool). cond b (Some x.epoch.count) (counts t)) there) ∙ is) later none

  -- or it is of no use
  pub leaves_out : (is_unordered clock (pair_of x) && not (is_replaced (counts x.epoch.thread) x.epoch.count)) ≡ false → (all : List (Tagged A)) → all ≡ before ++ x ∷ [] → Leaves clock all left counts
  leaves_out useless all next = rw next (record {
    found = λ later has_all. by later has_all (first_apart pair_of later left) refl ∙ ap (λ o. option_or o (cond (is_apart later x) (Some x) None)) (so_far.found later has_all) ∙ sym (more before later);
    known = so_far.known;
  })
    where
      replaced_by : (later : ℕ → ℕ) (o : Option ℕ) → counts x.epoch.thread ≡ o → is_replaced o x.epoch.count ≡ true → first_apart pair_of later left ≡ None → is_apart later x ≡ false
      replaced_by later None is replaced none = cc
      replaced_by later (Some n) is replaced none = lower later n (leb-true x.epoch.count n replaced) (so_far.known x.epoch.thread n is later none)
        where
          lower : (later : ℕ → ℕ) (n : ℕ) → x.epoch.count ≤ n → is_unordered later (x.epoch.thread, n) ≡ false → is_apart later x ≡ false
          lower later n low known = ap not (le-leb x.epoch.count (later x.epoch.thread) (omega (arith, low, high)))
            where
              not_covered : (b : Bool) → not b ≡ false → b ≡ true
              not_covered true e = refl
              not_covered false e = cc

              high : n ≤ later x.epoch.thread
              high = leb-true n (later x.epoch.thread) (not_covered (covers later (x.epoch.thread, n)) known)

      useless_by : (later : ℕ → ℕ) → ((u : ℕ) → clock u ≤ later u) → (b : Bool) → is_unordered clock (pair_of x) ≡ b → first_apart pair_of later left ≡ None → is_apart later x ≡ false
      useless_by later has_all false covered none = covered-later (pair_of {A = A}) clock later has_all (pair_of x) covered
      useless_by later has_all true apart none = replaced_by later (counts x.epoch.thread) refl (not_false (is_replaced (counts x.epoch.thread) x.epoch.count) (sym (ap (λ b. b && not (is_replaced (counts x.epoch.thread) x.epoch.count)) apart) ∙ useless)) none
        where
          not_false : (b : Bool) → not b ≡ false → b ≡ true
          not_false true e = refl
          not_false false e = cc

      by : (later : ℕ → ℕ) → ((u : ℕ) → clock u ≤ later u) → (o : Option (Tagged A)) → first_apart pair_of later left ≡ o
          → first_apart pair_of later left ≡ option_or (first_apart pair_of later left) (cond (is_apart later x) (Some x) None)
      by later has_all (Some y) is = is ∙ sym (ap (λ o. option_or o (cond (is_apart later x) (Some x) None)) is)
      by later has_all None is =
          is ∙ sym (ap (λ o. option_or o (cond (is_apart later x) (Some x) None)) is ∙ ap (λ b. cond b (Some x) None) (useless_by later has_all (is_unordered clock (pair_of x)) refl is))

-- the items so far, and the next one
pub item_next : {X : Type 0} (xs : List X) (k : ℕ) (x : X) → k < length xs → x ≡ get_or xs k x → take (k + 1) xs ≡ take k xs ++ x ∷ []
item_next xs k x within is = take_more xs k x within ∙ ap (λ y. take k xs ++ y ∷ []) (sym is)
