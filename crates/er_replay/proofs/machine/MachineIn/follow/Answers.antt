use Rattle.std.proofs.Common.{ap}
use Rattle.er_replay.proofs.machine.MachineIn.follow.Goals as goal

pub returns-in-Release-clause-refused : goal.returns-in-Release-clause-refused
returns-in-Release-clause-refused g c why so =
    let refused = c.change-in-Release.ensures.refused why (rw (← c.self-in-Release.view_is, c.in-Release.is) at so) in
    ap (λ answer. answer.0) (rw refused at c.brief_of-in-Release.ensures)
