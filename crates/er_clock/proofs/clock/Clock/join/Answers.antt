use Rattle.er_event.proofs.Results.{on_ok}
use Rattle.er_clock.proofs.Parts.{joined_clock, joined_none}
use Rattle.er_clock.proofs.clock.Clock.join.Goals as goal

pub returns-then-is_empty-clause-ok : goal.returns-then-is_empty-clause-ok
returns-then-is_empty-clause-ok c =
    rw (← c.self.view_is, ← c.other.view_is)
    (on_ok c.join.result _ _ c.join.ensures.ok (λ new.
    joined_clock c.self.inside.first c.other.inside.first c.join.new.self c.self.inside.rest c.other.inside.rest c.self.inside.rest new
    (joined_none c.self.inside.rest c.other.inside.rest (c.is_empty.ensures c.if-is_empty.true))))

pub returns-clause-ok : goal.returns-clause-ok
returns-clause-ok c =
    rw (← c.self.view_is, ← c.other.view_is)
    (joined_clock c.self.inside.first c.other.inside.first c.join-2.new.self c.self.inside.rest c.other.inside.rest c.in_ok-rest.rest
    c.in_ok-join.ensures.ok c.in_ok-rest.ensures)
