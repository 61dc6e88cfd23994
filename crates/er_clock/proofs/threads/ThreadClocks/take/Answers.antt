use Rattle.std.proofs.Common.{◌==◌}
use Rattle.er_event.proofs.Results.{on_ok}
use Rattle.er_clock.specs.Clock.{count_in}
use Rattle.er_clock.proofs.Counts.{known-taken, taken-to}
use Rattle.er_clock.proofs.threads.ThreadClocks.take.Goals as goal

pub returns-clause-ok : goal.returns-clause-ok
returns-clause-ok c =
    on_ok c.join.result _ _ c.join.ensures.ok (λ new t u.
    rw (← c.self.view_is)
    (taken-to c.self.inside.table c.join.new.self t u (count_in c.args.found.now u) (t == c.args.thread)
    (known-taken c.self.inside.table c.join.new.self c.args.thread c.number.result (count_in c.args.found.now) c.number.ensures.value new t u)))
