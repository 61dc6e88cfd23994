use Rattle.er_clock.proofs.Parts.{counts_nothing}
use Rattle.er_clock.proofs.clock.Clock.clear.Goals as goal

pub returns : goal.returns
returns c u = rw (c.clear.ensures, c.new.ensures) (counts_nothing u)
