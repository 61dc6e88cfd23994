-- The set of the hinted number has been compared with the locks.
use Rattle.std.proofs.Common.{◌≡◌, ◌∙◌, ◌==◌, ℕ, Bool, true, false, List, [], ◌∷◌, eq-eqb, refl, rules, sym, ap}
use Rattle.std.proofs.lemmas.Bool.{eqb-true}
use Rattle.std.specs.Cmp.Lexicographic.{bytes_decides}
use Rattle.er_event.specs.Lockset.{same_locks}
use Rattle.er_table.specs.Sets.{set_at}
use Rattle.er_model.specs.Words.{is_empty}
use Rattle.er_shadow.proofs.refining.number_near.Goals as goal

cons_is_nil : (x : ℕ) (xs : List ℕ) → x ∷ xs ≡ [] → ⊥
cons_is_nil x xs same = cc

zero_from : (sets : List (List ℕ)) (n : ℕ) (locks : List ℕ) → set_at sets n ≡ locks → set_at sets 0 ≡ [] → (set_at sets n ≡ [] → n ≡ 0) → is_empty locks ≡ (n == 0)
zero_from sets n [] names empty only = sym (eq-eqb n 0 (only names))
zero_from sets n (x ∷ xs) names empty only = by (n == 0) refl
  where
    by : (b : Bool) → (n == 0) ≡ b → false ≡ (n == 0)
    by true e = absurd (cons_is_nil x xs (sym names ∙ (ap (set_at sets) (eqb-true n 0 e) ∙ empty)))
    by false e = sym e

pub returns-then-eq-clause-names : goal.returns-then-eq-clause-names
returns-then-eq-clause-names g c =
    let same : same_locks c.set.result.now c.as_slice-then-hint-count.result.now ≡ true = sym c.eq.ensures ∙ c.if-eq.true in
    sym c.set.ensures.set ∙ ((bytes_decides c.set.result.now c.as_slice-then-hint-count.result.now).0 same ∙ c.as_slice-then-hint-count.ensures.locks)

pub returns-then-eq-clause-stands : goal.returns-then-eq-clause-stands
returns-then-eq-clause-stands g c =
    let same : same_locks c.set.result.now c.as_slice-then-hint-count.result.now ≡ true = sym c.eq.ensures ∙ c.if-eq.true in
    let names : set_at c.args.known.now c.hint-hint.result ≡ c.args.locks.now =
    sym c.set.ensures.set ∙ ((bytes_decides c.set.result.now c.as_slice-then-hint-count.result.now).0 same ∙ c.as_slice-then-hint-count.ensures.locks) in
    record { within = search rules; names = names; zero = zero_from c.args.known.now c.hint-hint.result c.args.locks.now names c.set.ensures.empty c.set.ensures.only_empty }
