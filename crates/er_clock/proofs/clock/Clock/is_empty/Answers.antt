use Rattle.std.proofs.Common.{◌≡◌, ◌∙◌, [], length, sym}
use Rattle.std.proofs.lemmas.Bool.{eqb-true}
use Rattle.er_clock.proofs.Parts.{counts_nothing, none_left}
use Rattle.er_clock.proofs.clock.Clock.is_empty.Goals as goal

pub returns-then-is_empty : goal.returns-then-is_empty
returns-then-is_empty c empty u =
    rw (← c.self.view_is, first, c.is_empty.ensures c.if-is_empty.true) (counts_nothing u)
  where
    first : c.self.inside.first ≡ []
    first = none_left c.self.inside.first (eqb-true (length c.self.inside.first) 0 (sym c.is_empty-then-is_empty.ensures ∙ empty))
