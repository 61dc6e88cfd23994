use Rattle.std.proofs.Common.{sym, ◌∙◌}
use Rattle.er_parallel.proofs.TakingLemmas.{come-past}
use Rattle.er_parallel.proofs.worker.go_on.Goals as goal

pub returns-then-worker_for-share-clause-far : goal.returns-then-worker_for-share-clause-far
returns-then-worker_for-share-clause-far c past come =
    come-past past c.args.steps.now c.args.share c.args.at c.args.step.now c.requires.there c.args.found.now.items c.args.machine.now c.pass.new.self come c.in_ok-pass.ensures.holdings
    (λ mine. c.if-worker_for-share.true (c.worker_for.ensures ∙ mine)) c.in_ok-pass.ensures.states

pub answer_own-requires-clause-own : goal.answer_own-requires-clause-own
answer_own-requires-clause-own c = sym c.worker_for.ensures ∙ c.if-worker_for-share.false
