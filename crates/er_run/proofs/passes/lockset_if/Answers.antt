use Rattle.std.proofs.Common.{◌∙◌, ap, sym}
use Rattle.er_report.specs.Reports.{asks_locks}
use Rattle.er_run.proofs.passes.lockset_if.Goals as goal

pub returns : goal.returns
returns c = record {
  stands = λ asked same rules explain. record { there = sym (ap asks_locks same ∙ sym c.asks_locks.ensures ∙ c.if-not-asks_locks.false); stands = c.in_ok-lockset.ensures.stands asked rules explain };
}

pub returns-then-not-asks_locks : goal.returns-then-not-asks_locks
returns-then-not-asks_locks c = record {
  stands = λ asked same rules explain. record { there = sym (ap asks_locks same ∙ sym c.asks_locks.ensures ∙ c.if-not-asks_locks.true); stands = tt };
}
