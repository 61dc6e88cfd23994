-- What advice leaves is plain, and without advice nothing is written.
use Rattle.std.proofs.Common.{◌∙◌, true, [], refl, ap}
use Rattle.er_device.specs.Device.{has_failed, inner_of}
use Rattle.er_exit.specs.Plain.{is_plain}
use Rattle.er_exit.proofs.PlainLemmas.{adds}
use Rattle.er_exit.proofs.WriteLemmas.{nothing-behind}
use Rattle.er_exit.proofs.advice.advise.Goals as goal

pub returns-in-Ok : goal.returns-in-Ok
returns-in-Ok g c = record { plain = adds _ _ c.deref.result.now (has_failed c.put.new.errors) (ap is_plain c.deref.ensures.value ∙ c.in-Ok.ensures) c.put.ensures }

pub returns-in_default : goal.returns-in_default
returns-in_default g c = record { plain = adds _ _ [] true refl (nothing-behind (g.E.Write.contents (inner_of c.args.errors.now)) [] true refl) }
