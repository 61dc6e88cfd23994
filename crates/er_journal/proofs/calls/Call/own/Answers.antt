-- Each event is kept as itself, but for a reuse, which keeps its first word and the number of words behind it.
use Rattle.std.proofs.Common.{ap, rules, None}
use Rattle.er_event.specs.declared.addresses.PageRange.{PageRange}
use Rattle.er_event.specs.declared.steps.Event.TheVariants.{Reuse}
use Rattle.er_journal.proofs.RangeLemmas.{range-kept}
use Rattle.er_journal.proofs.calls.Call.own.Goals as goal
use Rattle.er_journal.proofs.calls.Call.own.Goals.{in-Acquire, in-Release, in-Access, in-Reuse, in-IgnoreOn, in-IgnoreOff, in-Show, in-Level, in-Sync}

pub returns : goal.returns
returns c =
    elim c.match-event.branch [
      | in-Acquire w ↦ search rules
      | in-Release w ↦ search rules
      | in-Access w ↦ search rules
      | in-Reuse w ↦
          rw (w.kept-is, w.in-Reuse.is, w.number.ensures.value, w.number-in-Reuse.ensures.value)
          (ap (λ (range : PageRange). record { event = Reuse range; reply = c.args.reply; ticket = None }) (range-kept w.in-Reuse.range))
      | in-IgnoreOn w ↦ search rules
      | in-IgnoreOff w ↦ search rules
      | in-Show w ↦ search rules
      | in-Level w ↦ search rules
      | in-Sync w ↦ search rules
    ]
