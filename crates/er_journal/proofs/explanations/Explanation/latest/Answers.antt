use Rattle.std.proofs.Common.{◌≡◌, ◌∙◌, ◌<◌, ◌+◌, ℕ, nat_lt, cond, List, [], ◌∷◌, length, drop, map, get_or, drop-cons, add-one, refl, sym}
use Rattle.std.proofs.lemmas.Bool.{lt-ltb, le-ltb}
use Rattle.std.proofs.lemmas.List.{drop_all}
use Rattle.er_journal.specs.declared.explanations.Uncovered.{Uncovered}
use Rattle.er_model.specs.Explanations.{latest}
use Rattle.er_journal.proofs.explanations.Explanation.latest.Goals as goal
use Rattle.er_journal.proofs.explanations.Explanation.latest.Goals.{then-latest-pair, else-latest-pair}

-- what a pair is seen as
abbrev kept : Uncovered → ℕ × ℕ
kept u = (u.lock, u.at)

step : (m n i : ℕ) (us : List Uncovered) (u : Uncovered) → i < length us → u ≡ get_or us i u → n ≡ cond (nat_lt m u.at) u.at m
    → latest n (map kept (drop (i + 1) us)) ≡ latest m (map kept (drop i us))
unfolding latest
step m n i us u within is next =
    let e : drop i us ≡ u ∷ drop (i + 1) us = drop-cons us i u within ∙ (λ j. sym is j ∷ drop (sym (add-one i) j) us) in
    rw (e, next) refl

pub loop-pair-preserved : goal.loop-pair-preserved
loop-pair-preserved c =
    let m : ℕ = c.loop-pair.latest in
    let at : ℕ = c.pair-item.result.at in
    let next : c.if-latest-pair.latest ≡ cond (nat_lt m at) at m =
    elim c.if-latest-pair.branch [
      | then-latest-pair w ↦ w.latest-is ∙ rw (lt-ltb m at w.if-latest-pair.true) refl
      | else-latest-pair w ↦ w.latest-is ∙ rw (le-ltb m at w.if-latest-pair.false) refl
    ] in
    step m c.if-latest-pair.latest c.loop-pair.pair-index c.deref-pair-items.result.now c.pair-item.result c.loop-pair-test.true c.pair-item.is next
    ∙ c.loop-pair.invariant

pub returns : goal.returns
unfolding latest
returns c =
    let none : drop c.loop-pair.pair-index c.deref-pair-items.result.now ≡ [] = drop_all c.loop-pair.pair-index c.deref-pair-items.result.now c.loop-pair-test.false in
    rw none at c.loop-pair.invariant
