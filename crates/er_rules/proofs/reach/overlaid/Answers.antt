-- Each turn adds the next border of one of the lists.
use Rattle.std.proofs.Common.{◌≡◌, ◌∙◌, ◌+◌, ℕ, List, refl, sym, ap, subst, arith}
use Rattle.er_rules.specs.declared.reach.Border.{Border}
use Rattle.er_rules.specs.Inner.Reach.{IsOverlaid}
use Rattle.er_rules.proofs.ReachLemmas.{overlaid-none, overlaid-first, overlaid-second}
use Rattle.er_rules.proofs.reach.overlaid.Goals as goal
use Rattle.er_rules.proofs.reach.overlaid.Goals.{then-is_first_next+in_ok-push, else-is_first_next+in_ok-push-2}

moved : (first second borders borders' : List Border) (i i' j j' : ℕ) (earlier earlier' later later' : ℕ) (bound : ℕ)
    → borders' ≡ borders → i' ≡ i → j' ≡ j → earlier' ≡ earlier → later' ≡ later → IsOverlaid first second borders i j earlier later bound → IsOverlaid first second borders' i' j' earlier' later' bound
moved first second borders borders' i i' j j' earlier earlier' later later' bound a b c d e is =
    subst (λ (bs : List Border). IsOverlaid first second bs i' j' earlier' later' bound) (sym a) (subst (λ (n : ℕ). IsOverlaid first second borders n j' earlier' later' bound) (sym b)
    (subst (λ (n : ℕ). IsOverlaid first second borders i n earlier' later' bound) (sym c) (subst (λ (o : ℕ). IsOverlaid first second borders i j o later' bound) (sym d)
    (subst (λ (o : ℕ). IsOverlaid first second borders i j earlier o bound) (sym e) is))))

pub loop-taken-init : goal.loop-taken-init
loop-taken-init c = ((0, overlaid-none c.args.first.now c.args.second.now c.in_ok-borders.borders.items c.in_ok-borders.ensures.items), refl)

pub loop-taken-preserved : goal.loop-taken-preserved
loop-taken-preserved c = elim c.if-is_first_next.branch [
  | then-is_first_next+in_ok-push w ↦
      let next = overlaid-first c.args.first.now c.args.second.now c.loop-taken.borders.items c.loop-taken.i c.loop-taken.j c.loop-taken.earlier c.loop-taken.later c.loop-taken.invariant.0.0 w.border_of.result c.loop-taken.invariant.0.1
      c.requires.first (c.is_first_next.ensures.left w.if-is_first_next.true) (c.is_first_next.ensures.order w.if-is_first_next.true) w.border_of.ensures.word w.border_of.ensures.end in (
        (w.border_of.result.word, moved c.args.first.now c.args.second.now _ _ _ _ _ _ _ _ _ _ _ (ap (λ bs. bs.items) w.borders-is ∙ w.in_ok-push.ensures.items) w.i-is w.j-is w.earlier-is w.later-is next),
        (λ k. w.i-is k + w.j-is k) ∙ omega arith,
      )
  | else-is_first_next+in_ok-push-2 w ↦
      let next = overlaid-second c.args.first.now c.args.second.now c.loop-taken.borders.items c.loop-taken.i c.loop-taken.j c.loop-taken.earlier c.loop-taken.later c.loop-taken.invariant.0.0 w.border_of-else-is_first_next.result c.loop-taken.invariant.0.1
      c.requires.second (c.is_first_next.ensures.right w.if-is_first_next.false) (c.is_first_next.ensures.later w.if-is_first_next.false) w.border_of-else-is_first_next.ensures.word w.border_of-else-is_first_next.ensures.end in (
        (w.border_of-else-is_first_next.result.word, moved c.args.first.now c.args.second.now _ _ _ _ _ _ _ _ _ _ _ (ap (λ bs. bs.items) w.borders-is ∙ w.in_ok-push-2.ensures.items) w.i-is w.j-is w.earlier-is w.later-is next),
        (λ k. w.i-is k + w.j-is k) ∙ omega arith,
      )
]
