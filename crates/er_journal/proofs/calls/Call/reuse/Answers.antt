use Rattle.std.proofs.Common.{◌+◌, ◌*◌, ◌-◌, ap, arith, refl, Some}
use Rattle.er_event.specs.declared.addresses.PageRange.{PageRange}
use Rattle.er_event.specs.declared.steps.Event.TheVariants.{Reuse}
use Rattle.er_event.specs.declared.steps.Reply.TheVariants.{Done}
use Rattle.er_journal.proofs.RangeLemmas.{reset-kept}
use Rattle.er_journal.proofs.calls.Call.reuse.Goals as goal

pub returns : goal.returns
returns c =
    ap (λ (range : PageRange). record { event = Reuse range; reply = Done; ticket = Some c.args.ticket })
    (reset-kept c.args.range (c.number-3.result * 1024 + (c.number.result - c.number-2.result)) _ _ _ (omega arith) refl refl refl)
