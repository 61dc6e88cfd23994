-- The write leaves its bytes, or a beginning of them if it failed, or none if one had failed before.
use Rattle.std.proofs.Common.{◌∙◌, sym}
use Rattle.er_exit.proofs.WriteLemmas.{WritesBytes-of-prefix, nothing-behind}
use Rattle.er_exit.proofs.faults.put.Goals as goal

pub returns-then-failed : goal.returns-then-failed
returns-then-failed g c = nothing-behind _ _ _ (sym c.failed.ensures ∙ c.if-failed.true)

pub returns : goal.returns
returns g c = WritesBytes-of-prefix c.write_all.result _ _ _ _ _ (sym c.failed.ensures ∙ c.if-failed.false) c.write_all.ensures.bytes c.write_all.ensures.failed
