-- Reads that are alike go on to such reads.
use Rattle.std.proofs.Common.{◌≡◌, ℕ, suc, ◌-◌, ◌≤◌, Bool, true, false, ◌||◌, not, cond, List, [], ◌∷◌, ◌++◌, filter, length, is_some, Some, refl, sym, ap, subst, append_assoc, arith}
use Rattle.std.proofs.lemmas.Bool.{le-leb, leb-true}
use Rattle.std.specs.List.{list_any, find}
use Rattle.er_event.proofs.Lists.{length_push}
use Rattle.er_event.specs.declared.steps.Step.{Step}
use Rattle.er_order.specs.Order.{acts_of}
use Rattle.er_order.specs.Clocks.{Epoch, OfThread, clocks_at, own_count, covers}
use Rattle.er_order.specs.Following.{is_unordered}
use Rattle.er_order.specs.Keeping.{first_apart, IsNoted}
use Rattle.er_order.proofs.ClockFlows.{behind, behind-sum, knows_all}
use Rattle.er_order.proofs.StepLemmas.{clocks-front}

pub not_covered : (b : Bool) → not b ≡ false → b ≡ true
not_covered true e = refl
not_covered false e = cc

-- a list has one that passes exactly if a search finds one
pub any-found : {E : Type 0} (test : E → Bool) (xs : List E) → list_any test xs ≡ is_some (find test xs)
any-found test [] = refl
any-found test (x ∷ xs) = by (test x) refl (any-found test xs)
  where
    by : (b : Bool) → test x ≡ b → list_any test xs ≡ is_some (find test xs) → (test x || list_any test xs) ≡ is_some (cond (test x) (Some x) (find test xs))
    by true e rest = rw e refl
    by false e rest = rw e rest

module _ {E : Type 0} (epoch : E → Epoch) where
  module _ (clock later : ℕ → ℕ) (has_all : (u : ℕ) → clock u ≤ later u) where
    -- what the clock covers, the later one does
    pub covered-later : (e : Epoch) → is_unordered clock e ≡ false → is_unordered later e ≡ false
    covered-later e covered =
        let low : e.1 ≤ clock e.0 = leb-true e.1 (clock e.0) (not_covered (covers clock e) covered) in
        ap not (le-leb e.1 (later e.0) (let more = has_all e.0 in omega (arith, low, more)))

    -- so a search by the later one finds none of these
    drop_covered : (xs : List E) → first_apart epoch later (filter (λ x. is_unordered clock (epoch x)) xs) ≡ first_apart epoch later xs
    drop_covered [] = refl
    drop_covered (x ∷ xs) = by (is_unordered clock (epoch x)) refl (drop_covered xs)
      where
        by : (b : Bool) → is_unordered clock (epoch x) ≡ b → first_apart epoch later (filter (λ y. is_unordered clock (epoch y)) xs) ≡ first_apart epoch later xs
            → first_apart epoch later (cond (is_unordered clock (epoch x)) (x ∷ filter (λ y. is_unordered clock (epoch y)) xs) (filter (λ y. is_unordered clock (epoch y)) xs))
            ≡ cond (is_unordered later (epoch x)) (Some x) (first_apart epoch later xs)
        by true apart rest = rw apart (ap (λ o. cond (is_unordered later (epoch x)) (Some x) o) rest)
        by false covered rest = rw (covered, covered-later (epoch x) covered) rest

  -- behind a read by which a clock is judged, two lists need to be alike only for a clock that covers it
  pub behind-read : (later : ℕ → ℕ) (x : E) (xs ys : List E) → (covers later (epoch x) ≡ true → first_apart epoch later xs ≡ first_apart epoch later ys)
      → first_apart epoch later (x ∷ xs) ≡ first_apart epoch later (x ∷ ys)
  behind-read later x xs ys same = by (is_unordered later (epoch x)) refl
    where
      by : (b : Bool) → is_unordered later (epoch x) ≡ b
          → cond (is_unordered later (epoch x)) (Some x) (first_apart epoch later xs) ≡ cond (is_unordered later (epoch x)) (Some x) (first_apart epoch later ys)
      by true apart = rw apart refl
      by false covered = rw covered (same (not_covered (covers later (epoch x)) covered))

  -- those that the reader's clock covers may go
  pub noted-filter : (clock : ℕ → ℕ) (before : List E) (x : E) → IsNoted epoch clock before x (x ∷ filter (λ y. is_unordered clock (epoch y)) before)
  noted-filter clock before x = record {
    noted = λ later knows. behind-read later x (filter (λ y. is_unordered clock (epoch y)) before) before (λ covered. drop_covered clock later (knows covered) before);
  }

module _ (steps : List Step) (t : ℕ) where
  abbrev clock : ℕ → ℕ
  clock = clocks_at (acts_of steps) (length steps) (OfThread t)

-- the list grows
module _ (steps : List Step) (s : Step) where
  abbrev grown : List Step
  grown = steps ++ s ∷ []

  pub longer : length grown ≡ suc (length steps)
  longer = length_push steps s

  -- a thread that knows an epoch of what a thread does now knows what that one does
  pub own_then : (t : ℕ) (more : List Step) (n u : ℕ) → length grown ≤ n → clock steps t t ≤ clocks_at (acts_of (grown ++ more)) n (OfThread u) t → (v : ℕ) → clock steps t v ≤ clocks_at (acts_of (grown ++ more)) n (OfThread u) v
  unfolding own_count
  own_then t more n u past low v =
      let later : steps ++ (s ∷ more) ≡ grown ++ more = sym (append_assoc steps (s ∷ []) more) in
      let front = clocks-front steps (s ∷ more) (length steps) (omega arith) in
      let at : behind (n - length steps) (length steps) ≡ n = behind-sum (n - length steps) (length steps) n (omega (arith, longer, past)) in
      subst (λ (all : List Step). clock steps t t ≤ clocks_at (acts_of all) n (OfThread u) t → (v : ℕ) → clock steps t v ≤ clocks_at (acts_of all) n (OfThread u) v) later
      (subst (λ (m : ℕ). clock steps t t ≤ clocks_at (acts_of (steps ++ (s ∷ more))) m (OfThread u) t → (v : ℕ) → clock steps t v ≤ clocks_at (acts_of (steps ++ (s ∷ more))) m (OfThread u) v) at
      (subst (λ (c : ℕ → ℕ). c t ≤ clocks_at (acts_of (steps ++ (s ∷ more))) (behind (n - length steps) (length steps)) (OfThread u) t → (v : ℕ) → c v ≤ clocks_at (acts_of (steps ++ (s ∷ more))) (behind (n - length steps) (length steps)) (OfThread u) v)
      (ap (λ clocks. clocks (OfThread t)) front)
      (knows_all (acts_of (steps ++ (s ∷ more))) (length steps) t (n - length steps) (OfThread u))))
      low v
