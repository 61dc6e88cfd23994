use Rattle.std.proofs.Common.{arith}
use Rattle.er_event.proofs.Results.{on_ok}
use Rattle.er_clock.proofs.Parts.{ticked_low, ticked_high}
use Rattle.er_clock.proofs.clock.Clock.raise.Goals as goal

pub returns-then-number-lt-BLOCK-clause-ok : goal.returns-then-number-lt-BLOCK-clause-ok
returns-then-number-lt-BLOCK-clause-ok c =
    rw (← c.self.view_is)
    (on_ok c.tick.result _ _ c.tick.ensures.ok (λ new.
    ticked_low c.args.number c.self.inside.first c.tick.new.self c.self.inside.rest c.if-number-lt-BLOCK.true new))

pub returns-clause-ok : goal.returns-clause-ok
returns-clause-ok c =
    rw (← c.self.view_is) (ticked_high c.args.number c.self.inside.first c.self.inside.rest c.in_ok-rest.rest (omega arith) c.in_ok-rest.ensures)
