use Rattle.std.proofs.Common.{IsFalse}
use Rattle.er_parallel.proofs.TakingLemmas.{come-asks, come-usual, come-kept, passed-room, passed-same, passed-usual}
use Rattle.er_replay.specs.Standing.{found_no_room, holding, in_full, states}
use Rattle.er_parallel.proofs.worker.answer_own.Goals as goal

pub returns-then-is_passed_over-clause-far : goal.returns-then-is_passed_over-clause-far
returns-then-is_passed_over-clause-far c past come =
    let e = c.args.step.now.event in
    let t = c.args.step.now.thread in
    let h = holding c.args.machine.now t in
    let brief = c.take-brief.result.0 in
    let passed = c.is_passed_over.ensures c.if-is_passed_over.true in
    let room : IsFalse (found_no_room brief) = passed-room h (states c.args.machine.now) (states c.take-brief.new.self) t e brief c.args.share.noting c.take-brief.result.1 passed in
    let answered = c.take-brief.ensures.answered room in
    come-usual past c.args.steps.now c.args.share c.args.at c.args.step.now c.requires.there c.args.found.now.items c.args.machine.now c.take-brief.new.self come (c.take-brief.ensures.holdings room)
    c.requires.own (in_full (states c.take-brief.new.self) e brief) answered (c.take-brief.ensures.states room)
    (passed-usual h (states c.args.machine.now) (states c.take-brief.new.self) t e brief c.args.share.noting c.take-brief.result.1 passed answered)
    (λ noting access.
    c.take-brief.ensures.same (passed-same h (states c.args.machine.now) (states c.take-brief.new.self) t e brief c.args.share.noting c.take-brief.result.1 passed answered noting access))

pub returns-clause-full : goal.returns-clause-full
returns-clause-full c past come full =
    come-asks past c.args.steps.now c.args.share c.args.at c.args.step.now c.requires.there c.args.found.now.items c.args.machine.now c.take-brief.new.self come c.requires.own
    (c.take-brief.ensures.table_full (c.keep.ensures.full full))

pub returns-clause-far : goal.returns-clause-far
returns-clause-far c past come =
    come-kept past c.args.steps.now c.args.share c.args.at c.args.step.now c.requires.there c.args.found.now.items c.args.machine.now c.take-brief.new.self come c.requires.own
    (in_full (states c.take-brief.new.self) c.args.step.now.event c.take-brief.result.0) c.keep.result c.keep.new.found.items c.keep.ensures.room c.keep.ensures.kept
    c.take-brief.ensures.holdings c.take-brief.ensures.answered c.take-brief.ensures.states
