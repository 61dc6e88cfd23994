use Rattle.std.proofs.Common.{refl}
use Rattle.er_report.proofs.KeptLemmas.{follows-start}
use Rattle.er_report.proofs.explainer.Explainer.new.Goals as goal

pub returns : goal.returns
returns c = follows-start _ _ c.keyed.ensures (rw c.new.ensures.items refl)
