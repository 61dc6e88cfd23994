use Rattle.std.proofs.Common.{◌≡◌, ◌<◌, ◌≤◌, ℕ, List, Some, slice_get, slice_index, slice_index_or, length, refl, subst, arith}
use Rattle.std.proofs.lemmas.Option.{slice_get_read}
use Rattle.er_event.specs.declared.steps.Step.{Step}
use Rattle.er_explain.proofs.Passes.{held-start, held-next}
use Rattle.er_held.specs.ThreadLocks.{held_by}
use Rattle.er_story.proofs.PastLemmas.{past-start, past-next, few-accesses}
use Rattle.er_story.specs.Inner.Past.{past_after}
use Rattle.er_story.proofs.past.past_of.Goals as goal

pub loop-at-init : goal.loop-at-init
loop-at-init c =
    (held-start c.args.trace.now.steps c.new-locks.result c.new-locks.ensures, past-start c.args.trace.now c.args.word c.new-past.result c.new-past.ensures)

pub follow-requires : goal.follow-requires
follow-requires c =
    let short : length c.args.trace.now.steps < 9223372036854775808 =
    subst (λ (all : List Step). length all < 9223372036854775808) c.steps-steps.ensures.value c.if-prove.false in
    let few : c.loop-at.past.accesses ≤ c.loop-at.at = few-accesses c.args.trace.now c.args.word c.loop-at.at c.loop-at.past c.loop-at.invariant.1 in
    let before : c.loop-at.at < c.args.end = c.loop-at-test.true in
    let within : c.args.end ≤ length c.args.trace.now.steps = c.requires in
    omega arith

pub loop-at-preserved : goal.loop-at-preserved
loop-at-preserved c =
    let step : Step = c.index-steps-at.result in
    let before : c.loop-at.at < c.args.end = c.loop-at-test.true in
    let within : c.args.end ≤ length c.args.trace.now.steps = c.requires in
    let read : step ≡ slice_index_or c.args.trace.now.steps c.loop-at.at step =
    subst (λ (all : List Step). step ≡ slice_index_or all c.loop-at.at step) c.steps-steps.ensures.value c.index-steps-at.is in
    let here : slice_get c.args.trace.now.steps c.loop-at.at ≡ Some step =
    slice_get_read c.args.trace.now.steps (length c.args.trace.now.steps) c.loop-at.at step refl (omega arith) read in
    let follows : c.follow.new.self ≡ past_after c.loop-at.past c.args.word (slice_index c.args.trace.now.lines c.loop-at.at) (held_by c.loop-at.locks step.thread) step.thread step.event =
    subst (λ (all : List ℕ). c.follow.new.self ≡ past_after c.loop-at.past c.args.word (slice_index all c.loop-at.at) (held_by c.loop-at.locks step.thread) step.thread step.event)
    c.lines-lines.ensures.value (rw c.get.ensures at c.in_ok-follow.ensures) in (
      held-next c.args.trace.now.steps c.loop-at.at step c.loop-at.locks c.follow-in-loop-at.new.self here c.loop-at.invariant.0 c.in_ok-follow-2.ensures.threads,
      past-next c.args.trace.now c.args.word c.loop-at.at step c.loop-at.locks c.loop-at.past c.follow.new.self here c.loop-at.invariant.0 c.loop-at.invariant.1 follows,
    )
