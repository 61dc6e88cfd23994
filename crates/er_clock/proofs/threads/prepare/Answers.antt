use Rattle.std.proofs.Common.{◌≡◌, ◌∙◌, ◌+◌, ◌==◌, ℕ, cond, ap, sym}
use Rattle.er_event.proofs.Results.{on_ok}
use Rattle.er_clock.specs.Clock.{count_in}
use Rattle.er_clock.specs.Table.{known_by}
use Rattle.er_clock.proofs.Counts.{carried-known, ready-known}
use Rattle.er_clock.proofs.threads.prepare.Goals as goal

-- the copy of the thread's clock has its counts
copied : (c : goal.After-tick) (u : ℕ) → count_in c.join.new.self u ≡ known_by c.begin.new.table c.args.thread u
copied c =
    carried-known c.begin.new.table c.args.thread c.number.result c.clear.new.self c.get.result.now c.join.new.self c.number.ensures.value c.clear.ensures c.get.ensures c.in_ok-join.ensures.ok

pub returns-clause-risen : goal.returns-clause-risen
returns-clause-risen c =
    on_ok c.tick.result _ _ c.tick.ensures.ok (λ new u. new u ∙ ap (λ k. k + cond (c.args.thread == u) 1 0) (copied c u))

pub returns-clause-full : goal.returns-clause-full
returns-clause-full c full =
    sym (c.begin.ensures.same c.args.thread c.args.thread) ∙ sym (ready-known c.begin.new.table c.args.thread c.in_ok-begin.ensures.begun c.args.thread)
    ∙ (sym (copied c c.args.thread) ∙ c.tick.ensures.full.0 full)
