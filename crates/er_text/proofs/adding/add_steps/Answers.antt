-- Each number of the step has a name by then.
use Rattle.er_lines.specs.Words.{seen_name}
use Rattle.er_text.proofs.AddingLemmas.{thread_named, lock_named, other_named, site_named}
use Rattle.er_text.proofs.adding.add_steps.Goals.{in-Acquire+in_ok-lock-in-Acquire, in-Release+in_ok-lock-in-Release, in-IgnoreOn, in-IgnoreOff, in-Show, in-Level, in-Start+in_ok-thread-in-Start, in-Join+in_ok-thread-in-Join, in-Signal+in_ok-lock-in-Signal, in-Await+in_ok-lock-in-Await}
use Rattle.er_text.proofs.adding.add_steps.Goals as goal

pub push-requires : goal.push-requires
push-requires c =
    let named = thread_named c.args.trace.now c.thread.new.self c.args.parsed.now.thread.now c.in_ok-thread.thread c.in_ok-thread.ensures.number c.in_ok-thread.ensures.ok in
    let n = site_named c.thread.new.self c.site_number.new.trace (seen_name c.in-Access.site) c.in_ok-site-in-Access.site c.in_ok-thread.thread named c.in_ok-site-in-Access.ensures.number c.in_ok-site-in-Access.ensures.trace in
    record { step = record { thread = n.0; event = n.1 }; site = n.1 }

pub add_reuse-requires : goal.add_reuse-requires
add_reuse-requires c =
    let named = thread_named c.args.trace.now c.thread.new.self c.args.parsed.now.thread.now c.in_ok-thread.thread c.in_ok-thread.ensures.number c.in_ok-thread.ensures.ok in
    let n = site_named c.thread.new.self c.site_number-in-Reuse.new.trace (seen_name c.in-Reuse.site) c.in_ok-site-in-Reuse.site c.in_ok-thread.thread named c.in_ok-site-in-Reuse.ensures.number c.in_ok-site-in-Reuse.ensures.trace in
    record { thread = n.0; site = n.1 }

pub push-requires-2-clause-step : goal.push-requires-2-clause-step
push-requires-2-clause-step c =
    let named = thread_named c.args.trace.now c.thread.new.self c.args.parsed.now.thread.now c.in_ok-thread.thread c.in_ok-thread.ensures.number c.in_ok-thread.ensures.ok in
    elim c.match-parsed.branch [
      | in-Acquire+in_ok-lock-in-Acquire w ↦
          let n = lock_named c.thread.new.self w.lock.new.self w.in-Acquire.lock.now w.in_ok-lock-in-Acquire.field-0 c.in_ok-thread.thread named w.in_ok-lock-in-Acquire.ensures.number w.in_ok-lock-in-Acquire.ensures.ok in
          rw (w.trace-is, w.event-is) (record { thread = n.0; event = n.1 })
      | in-Release+in_ok-lock-in-Release w ↦
          let n = lock_named c.thread.new.self w.lock-in-Release.new.self w.in-Release.lock.now w.in_ok-lock-in-Release.field-0 c.in_ok-thread.thread named w.in_ok-lock-in-Release.ensures.number w.in_ok-lock-in-Release.ensures.ok in
          rw (w.trace-is, w.event-is) (record { thread = n.0; event = n.1 })
      | in-Start+in_ok-thread-in-Start w ↦
          let n = other_named c.thread.new.self w.thread-in-Start.new.self w.in-Start.other.now w.in_ok-thread-in-Start.field-0 c.in_ok-thread.thread named w.in_ok-thread-in-Start.ensures.number w.in_ok-thread-in-Start.ensures.ok in
          rw (w.trace-is, w.event-is) (record { thread = n.0; event = n.1 })
      | in-Join+in_ok-thread-in-Join w ↦
          let n = other_named c.thread.new.self w.thread-in-Join.new.self w.in-Join.other.now w.in_ok-thread-in-Join.field-0 c.in_ok-thread.thread named w.in_ok-thread-in-Join.ensures.number w.in_ok-thread-in-Join.ensures.ok in
          rw (w.trace-is, w.event-is) (record { thread = n.0; event = n.1 })
      | in-Signal+in_ok-lock-in-Signal w ↦
          let n = lock_named c.thread.new.self w.lock-in-Signal.new.self w.in-Signal.object.now w.in_ok-lock-in-Signal.field-0 c.in_ok-thread.thread named w.in_ok-lock-in-Signal.ensures.number w.in_ok-lock-in-Signal.ensures.ok in
          rw (w.trace-is, w.event-is) (record { thread = n.0; event = n.1 })
      | in-Await+in_ok-lock-in-Await w ↦
          let n = lock_named c.thread.new.self w.lock-in-Await.new.self w.in-Await.object.now w.in_ok-lock-in-Await.field-0 c.in_ok-thread.thread named w.in_ok-lock-in-Await.ensures.number w.in_ok-lock-in-Await.ensures.ok in
          rw (w.trace-is, w.event-is) (record { thread = n.0; event = n.1 })
      | in-IgnoreOn w ↦ rw (w.trace-is, w.event-is) (record { thread = named; event = tt })
      | in-IgnoreOff w ↦ rw (w.trace-is, w.event-is) (record { thread = named; event = tt })
      | in-Show w ↦ rw (w.trace-is, w.event-is) (record { thread = named; event = tt })
      | in-Level w ↦ rw (w.trace-is, w.event-is) (record { thread = named; event = tt })
    ]
