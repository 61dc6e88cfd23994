-- A counted access drew a ticket, and changes nothing that is held.
use Rattle.std.proofs.Common.{arith, ap, length, ◌≡◌, ◌∙◌, Some, rules}
use Rattle.er_seat.specs.Seats.{held_after}
use Rattle.er_seat.proofs.SeatLemmas.{seat-counted, stamped-now}
use Rattle.er_seat.proofs.seat.Seat.record_access.Goals as goal
use Rattle.er_seat.proofs.seat.Seat.record_access.Goals.{in-Some+in_ok-locks-in-Some, in_default+in_ok-locks-in_default, in_default-via-in-Some+else-self-len, in_default-via-in_default}

pub invariant_of-self-2 : goal.invariant_of-self-2
invariant_of-self-2 g c =
    let flat : (held_after c.self.inside.thread c.self.inside.calls.items).depth ≡ 0 = rw (← c.self.view_is) at c.requires in
    let thread : c.match-self.self-inside.thread ≡ c.self.inside.thread = elim c.match-self.branch [ in-Some+in_ok-locks-in-Some w ↦ search rules | in_default+in_ok-locks-in_default w ↦ search rules ] in
    let held : c.match-self.self-inside.held ≡ c.self.inside.held = elim c.match-self.branch [ in-Some+in_ok-locks-in-Some w ↦ search rules | in_default+in_ok-locks-in_default w ↦ search rules ] in
    let calls : c.match-self.self-inside.calls ≡ c.reserve.new.self = elim c.match-self.branch [ in-Some+in_ok-locks-in-Some w ↦ search rules | in_default+in_ok-locks-in_default w ↦ search rules ] in
    let recent : c.match-self.self-inside.recent ≡ Some (record { thread = c.self.inside.thread; held = c.self.inside.held.held; write_held = c.self.inside.held.write_held }) = elim c.match-self.branch [
      | in-Some+in_ok-locks-in-Some w ↦
          let last : c.self.inside.stamped ≡ length c.self.inside.calls.items = search rules in
          let these = c.self.invariant.1.locks w.in-Some.last w.in-Some.is last in
          ap (λ s. s.recent) w.self-inside-is ∙ (w.in-Some.is ∙ ap Some these)
      | in_default+in_ok-locks-in_default w ↦ search rules
    ] in
    let room = rw calls at c.push_reserved.ensures.capacity in
    let end : c.len-self-inside.result ≡ length c.push_reserved.new.self.items = search rules in (
      rw (thread, held)
          (seat-counted c.self.inside.thread c.self.inside.calls.items _ _ c.self.inside.held _ _ c.args.ticket c.args.word c.args.site c.args.kind _ c.self.invariant.0
          c.reserve.ensures.items (rw (calls, c.counted-call.ensures, c.in_ok-listed.ensures.ticket) at c.push_reserved.ensures.items) flat (omega (arith, c.in_ok-reserve.ensures.ok, c.calls_to_unwind.ensures.count, room))),
      stamped-now _ _ _ _ _ (omega (arith, end)) (rw (thread, held) recent),
    )
