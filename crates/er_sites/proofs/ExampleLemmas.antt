-- A site has an example exactly if it has races, and the first race of the lines so far stays the first.
use Rattle.std.proofs.Common.{◌≡◌, ◌∙◌, ◌+◌, ◌<◌, ℕ, suc, Bool, true, false, cond, List, [], ◌∷◌, ◌++◌, length, take, get_or, count_by, Option, Some, None, refl, sym, subst, ap, arith}
use Rattle.std.specs.List.{position, position_from}
use Rattle.std.proofs.lemmas.Iterator.Adapters.{position_from-zero}
use Rattle.std.proofs.lemmas.List.{length-take-le, take_more}
use Rattle.std.proofs.lemmas.List.Sums.{sum_by-cons}
use Rattle.er_event.specs.declared.steps.Kind.TheVariants as kind
use Rattle.er_report.specs.declared.report.Line.{Line}
use Rattle.er_report.specs.declared.report.Line.TheVariants.{Race, Reused, Refused, Shown}
use Rattle.er_sites.specs.Inner.Rows.{or_first}
use Rattle.er_sites.specs.Table.{is_at, races_at, reads_at, reuses_at, writes_at}

-- a race is a read, a write or a reuse at its site
one_race : (s : ℕ) (line : Line) → cond (reads_at s line) 1 0 + cond (writes_at s line) 1 0 + cond (reuses_at s line) 1 0 ≡ cond (is_at s line) 1 0
one_race s (Race kind.Read thread site number word details) = omega arith
one_race s (Race kind.Write thread site number word details) = omega arith
one_race s (Reused thread site number range details) = omega arith
one_race s (Refused refusal step number) = refl
one_race s (Shown number word state) = refl

counted : {X : Type 0} (p : X → Bool) (x : X) (xs : List X) → count_by p (x ∷ xs) ≡ cond (p x) 1 0 + count_by p xs
counted p x xs = sum_by-cons (λ y. cond (p y) 1 0) x xs

added : (a b c d x y v z p q r s : ℕ) → p ≡ a + x → q ≡ b + y → r ≡ c + v → s ≡ d + z → a + b + c ≡ d → x + y + v ≡ z → p + q + r ≡ s
added a b c d x y v z p q r s first second third fourth one more = omega arith

-- so the races at a site are those lines
pub races_are : (s : ℕ) (lines : List Line) → races_at lines s ≡ count_by (is_at s) lines
races_are s [] = refl
races_are s (line ∷ lines) =
    added (cond (reads_at s line) 1 0) (cond (writes_at s line) 1 0) (cond (reuses_at s line) 1 0) (cond (is_at s line) 1 0) (count_by (reads_at s) lines) (count_by (writes_at s) lines) (count_by (reuses_at s) lines)
    (count_by (is_at s) lines) _ _ _ _ (counted (reads_at s) line lines) (counted (writes_at s) line lines) (counted (reuses_at s) line lines) (counted (is_at s) line lines) (one_race s line) (races_are s lines)

module _ {X : Type 0} (p : X → Bool) where
  none_from : (i : ℕ) (xs : List X) → position_from p i xs ≡ None → count_by p xs ≡ 0
  none_from i [] none = refl
  none_from i (x ∷ xs) none = counted p x xs ∙ by (p x) none (none_from (i + 1) xs)
    where
      by : (b : Bool) → cond b (Some i) (position_from p (i + 1) xs) ≡ None → (position_from p (i + 1) xs ≡ None → count_by p xs ≡ 0) → cond b 1 0 + count_by p xs ≡ 0
      by true none rest = absurd (cc)
      by false none rest = omega (arith, rest none)

  some_from : (i k : ℕ) (xs : List X) → position_from p i xs ≡ Some k → 0 < count_by p xs
  some_from i k [] some = absurd (cc)
  some_from i k (x ∷ xs) some = subst (λ (n : ℕ). 0 < n) (sym (counted p x xs)) (by (p x) some (some_from (i + 1) k xs))
    where
      by : (b : Bool) → cond b (Some i) (position_from p (i + 1) xs) ≡ Some k → (position_from p (i + 1) xs ≡ Some k → 0 < count_by p xs) → 0 < cond b 1 0 + count_by p xs
      by true some rest = omega arith
      by false some rest = omega (arith, rest some)

  pub position_none : (xs : List X) → position p xs ≡ None → count_by p xs ≡ 0
  position_none xs none = none_from 0 xs (sym (position_from-zero p xs) ∙ none)

  pub position_some : (k : ℕ) (xs : List X) → position p xs ≡ Some k → 0 < count_by p xs
  position_some k xs some = some_from 0 k xs (sym (position_from-zero p xs) ∙ some)

  push_from : (i : ℕ) (xs : List X) (y : X) → position_from p i (xs ++ y ∷ []) ≡ or_first (position_from p i xs) (cond (p y) (Some (length xs + i)) None)
  push_from i [] y = ap (λ (n : ℕ). cond (p y) (Some n) None) (zero i)
    where
      zero : (i : ℕ) → i ≡ length {A = X} [] + i
      zero i = omega arith
  push_from i (x ∷ xs) y = by (p x) (push_from (i + 1) xs y)
    where
      by : (b : Bool) → position_from p (i + 1) (xs ++ y ∷ []) ≡ or_first (position_from p (i + 1) xs) (cond (p y) (Some (length xs + (i + 1))) None)
          → cond b (Some i) (position_from p (i + 1) (xs ++ y ∷ [])) ≡ or_first (cond b (Some i) (position_from p (i + 1) xs)) (cond (p y) (Some (suc (length xs) + i)) None)
      by true rest = refl
      by false rest = rest ∙ ap (λ (n : ℕ). or_first (position_from p (i + 1) xs) (cond (p y) (Some n) None)) (omega arith)

  -- one line more
  pub position_next : (xs : List X) (k : ℕ) (x : X) → k < length xs → x ≡ get_or xs k x → position p (take (k + 1) xs) ≡ or_first (position p (take k xs)) (cond (p x) (Some k) None)
  position_next xs k x within is =
      ap (position p) (take_more xs k x within ∙ ap (λ (y : X). take k xs ++ y ∷ []) (sym is))
      ∙ position_from-zero p (take k xs ++ x ∷ []) ∙ push_from 0 (take k xs) x
      ∙ ap (λ (n : ℕ). or_first (position_from p 0 (take k xs)) (cond (p x) (Some n) None)) (long k within)
      ∙ ap (λ (o : Option ℕ). or_first o (cond (p x) (Some k) None)) (sym (position_from-zero p (take k xs)))
    where
      long : (k : ℕ) → k < length xs → length (take k xs) + 0 ≡ k
      long k within = let short = length-take-le k xs (omega arith) in omega arith
