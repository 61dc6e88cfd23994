use Rattle.std.proofs.Common.{◌≡◌, ◌∙◌, Option, Some, None, refl, sym, ap}
use denote.Ref.{Bor}
use Rattle.std.proofs.Common.{List, ℕ}
use Rattle.er_rules.specs.Inner.Pieces.{rejoined}
use Rattle.er_rules.specs.Patterns.{pattern_takes, takes_end}
use Rattle.er_rules.proofs.PatternLemmas.{piece_end}
use Rattle.er_rules.proofs.patterns.takes_end.Goals as goal

none_is : (o : Option (Bor (List ℕ))) → ((x : Bor (List ℕ)) → o ≡ Some x → ⊥) → o ≡ None
none_is None not = refl
none_is (Some x) not = absurd (not x refl)

pub returns-in_default : goal.returns-in_default
returns-in_default c =
    let split = c.split_star.ensures in
    let piece = c.split_star.result.0.now in
    piece_end piece c.loop-more.left.now c.ends_with.result split.0 c.ends_with.ensures.value
    ∙ (ap (λ (p : List ℕ). takes_end (pattern_takes p) c.loop-more.left.now) (sym (split.1 ∙ ap (rejoined piece) (none_is c.split_star.result.1 c.in_default.not-Some))) ∙ sym c.loop-more.invariant)
