use Rattle.er_text.proofs.UsualLemmas.{lock_has_name}
use Rattle.er_text.proofs.fast_path.add_usual_lock_event.Goals as goal

pub push-requires-clause-step : goal.push-requires-clause-step
push-requires-clause-step c =
    let numbered = rw c.in-Some.is at c.in_ok-lock.ensures in
    let n = lock_has_name c.args.trace.now c.last_lock.new.trace c.args.bytes.now c.args.thread c.in-Some.lock c.requires.thread numbered.1 numbered.2 in
    record { thread = n.0; event = n.1 }

pub push-requires-2-clause-step : goal.push-requires-2-clause-step
push-requires-2-clause-step c =
    let numbered = rw c.in-Some.is at c.in_ok-lock.ensures in
    let n = lock_has_name c.args.trace.now c.last_lock.new.trace c.args.bytes.now c.args.thread c.in-Some.lock c.requires.thread numbered.1 numbered.2 in
    record { thread = n.0; event = n.1 }
