use Rattle.er_clock.proofs.Parts.{joined_covered}
use Rattle.er_clock.proofs.clock.Clock.catch_up.Goals as goal

pub returns-clause-ok : goal.returns-clause-ok
returns-clause-ok c =
    rw (← c.self.view_is, ← c.other.view_is)
    (joined_covered c.self.inside.first c.other.inside.first c.join.new.self c.self.inside.rest c.other.inside.rest c.in_ok-rest.rest
    c.in_ok-join.ensures.ok (rw (c.self.view_is, c.other.view_is) c.requires) c.in_ok-rest.ensures)
