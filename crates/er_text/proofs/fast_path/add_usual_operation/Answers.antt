-- Each verb, and what follows it.
use Rattle.std.proofs.Common.{[], ◌∷◌, ◌++◌}
use Rattle.er_text.specs.Trace.{kind_word}
use Rattle.er_text.specs.Inner.FastPath.{lock_word, IsFastAccess, IsFastLockEvent, IsFastOperation}
use Rattle.er_text.proofs.FastPathLaws.{access_led, lock_event_led}
use Rattle.er_text.proofs.UsualLemmas.{adds_as, ends_more, spaced}
use Rattle.er_text.proofs.fast_path.add_usual_operation.Goals as goal

pub add_usual_access-requires-clause-end : goal.add_usual_access-requires-clause-end
add_usual_access-requires-clause-end c = ends_more c.args.whole.now c.args.bytes.now (kind_word c.in-Some.kind ++ 32 ∷ []) c.in-Some.rest.now c.requires.end (spaced _ _ _ c.in-Some.ensures)

pub add_usual_lock_event-requires-clause-end : goal.add_usual_lock_event-requires-clause-end
add_usual_lock_event-requires-clause-end c =
    let led = c.in-Some-leading_lock_verb in
    ends_more c.args.whole.now c.args.bytes.now (lock_word led.acquires led.mode ++ 32 ∷ []) led.rest.now c.requires.end (spaced _ _ _ led.ensures)

pub returns-in-Some : goal.returns-in-Some
returns-in-Some c =
    let kind = c.in-Some.kind in
    let rest = c.in-Some.rest.now in
    adds_as (IsFastAccess c.args.version kind rest) (IsFastOperation c.args.version c.args.bytes.now) c.args.line c.args.thread c.args.trace.now c.add_usual_access.new.trace c.add_usual_access.result
    (λ operation a. access_led c.args.version kind c.args.bytes.now rest operation c.in-Some.ensures a) c.add_usual_access.ensures

pub returns-in-Some-leading_lock_verb : goal.returns-in-Some-leading_lock_verb
returns-in-Some-leading_lock_verb c =
    let acquires = c.in-Some-leading_lock_verb.acquires in
    let mode = c.in-Some-leading_lock_verb.mode in
    let rest = c.in-Some-leading_lock_verb.rest.now in
    adds_as (IsFastLockEvent acquires mode rest) (IsFastOperation c.args.version c.args.bytes.now) c.args.line c.args.thread c.args.trace.now c.add_usual_lock_event.new.trace c.add_usual_lock_event.result
    (λ operation a. lock_event_led c.args.version acquires mode c.args.bytes.now rest operation c.in-Some-leading_lock_verb.ensures a) c.add_usual_lock_event.ensures
