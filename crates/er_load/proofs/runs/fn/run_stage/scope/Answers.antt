use Rattle.std.proofs.Common.{List, Err, IsTrue, ◌≡◌, ◌<◌, ◌∙◌, ap, arith, length, ℕ}
use Rattle.er_load.specs.Workloads.{thread_count}
use Rattle.er_load.specs.Inner.Progress.{done_after}
use Rattle.er_settle.specs.Seats.{SeatList}
use Rattle.er_load.specs.Faults.{may_meet}
use Rattle.er_load.proofs.JoinLemmas.{seats-are, seats-count, first-met, no-value, refused-fault}
use Rattle.er_load.proofs.StartLemmas.{next-seat, started-more}
use Rattle.er_load.proofs.runs.fn.run_stage.scope.Goals as goal

pub spawn_with-started-requires-clause-runs : goal.spawn_with-started-requires-clause-runs
spawn_with-started-requires-clause-runs g c κs within =
    let before = rw (← c.into_iter-seat-iterator.ensures.into_iter_gives.0) at c.requires.1 in
    let at = next-seat _ _ _ _ _ _ c.in-Some.seat c.loop-seat.invariant.started c.in-Some.ensures.steps.0 before in
    let thread : c.thread.result ≡ length c.loop-seat.workers.items = c.thread.ensures ∙ at.1.thread in
    let few : c.thread.result < thread_count c.captures.workload = (let b = c.requires.0 in let d = ap length c.into_iter-seat-iterator.ensures.into_iter_gives.0 in let l = at.0 in omega arith) in
    (few, rw thread at.1)

pub loop-seat-preserved : goal.loop-seat-preserved
loop-seat-preserved g c =
    let next = c.in-Some.ensures.steps in
    let before = rw (← c.into_iter-seat-iterator.ensures.into_iter_gives.0) at c.requires.1 in
    let at = next-seat _ _ _ _ _ _ c.in-Some.seat c.loop-seat.invariant.started next.0 before in
    let thread : c.thread.result ≡ length c.loop-seat.workers.items = c.thread.ensures ∙ at.1.thread in
    record {
      all = (let a = next.1 in let b = c.push_reserved.ensures.len in let e = c.loop-seat.invariant.all in omega arith);
      room = (let d = c.push_reserved.ensures.capacity in let e = c.loop-seat.invariant.room in omega arith);
      started = started-more _ _ _ _ _ _ _ c.in-Some.seat (record { handle = c.in-Ok.handle }) c.loop-seat.invariant.started next.0 c.push_reserved.ensures.items
          (c.in-Ok.ensures.ok ∙ ap (λ (t : ℕ). record { workload = c.captures.workload; stage = c.captures.stage; thread = t }) thread);
    }

pub returns : goal.returns
returns g c = record {
  count = (
      let all = seats-count _ _ c.in_ok-all_seats.ensures.seats in
      let a = c.join_all-answers.ensures.count in
      let b = c.requires.0 in
      let d = c.loop-seat.invariant.all in
      let e = c.in-None.ensures.steps in
      let f = c.into_iter-seat-iterator.ensures.into_iter_gives.1 in
      omega arith
      );
  after = seats-are (done_after c.captures.workload c.captures.stage) _ _ c.in_ok-all_seats.ensures.seats (c.join_all-answers.ensures.answers _ _ c.loop-seat.invariant.started.ends);
  faults = tt;
}

pub returns-in_err-all_seats : goal.returns-in_err-all_seats
returns-in_err-all_seats g c =
    let is = c.from_residual-in_err-all_seats.ensures.1 in
    let met : IsTrue (may_meet c.in_err-all_seats.field-0.0) = first-met {T = List SeatList} (Err c.in_err-all_seats.field-0.0) c.join_all-answers.result.items c.join_all-answers.ensures.refusals c.in_err-all_seats.ensures.first in
    record {
      count = no-value c.from_residual-in_err-all_seats.result _ _ is;
      after = no-value c.from_residual-in_err-all_seats.result _ _ is;
      faults = refused-fault c.from_residual-in_err-all_seats.result c.in_err-all_seats.field-0.0 is met;
    }
