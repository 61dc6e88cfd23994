use Rattle.std.proofs.Common.{◌<◌, arith}
use Rattle.er_clock.specs.Clock.{count_in}
use Rattle.er_clock.specs.Table.{known_by}
use Rattle.er_clock.proofs.Counts.{carried-over, handed, handed-own, known-taken, risen}
use Rattle.er_clock.proofs.threads.ThreadClocks.hand_on.Goals as goal

pub swap-requires : goal.swap-requires
swap-requires c =
    let taken = carried-over c.prepare.new.table c.join-2.new.self c.args.from c.args.to c.number.result c.clear.new.self c.get.result.now c.join.new.self
    c.number.ensures.value c.clear.ensures c.get.ensures c.in_ok-join.ensures.ok
    (known-taken c.prepare.new.table c.join-2.new.self c.args.to c.number-2.result (count_in c.join.new.self) c.number-2.ensures.value c.in_ok-join-2.ensures.ok) in
    let own = handed-own c.prepare.new.table c.join-2.new.self c.args.from c.args.to taken c.args.from in
    let begun = c.in_ok-prepare.ensures.begun in
    let still : 0 < known_by c.join-2.new.self c.args.from c.args.from = omega (arith, own, begun) in
    (c.args.from, rw c.number-3.ensures.value still)

pub returns-clause-ok : goal.returns-clause-ok
returns-clause-ok c t u =
    let taken = carried-over c.prepare.new.table c.join-2.new.self c.args.from c.args.to c.number.result c.clear.new.self c.get.result.now c.join.new.self
    c.number.ensures.value c.clear.ensures c.get.ensures c.in_ok-join.ensures.ok
    (known-taken c.prepare.new.table c.join-2.new.self c.args.to c.number-2.result (count_in c.join.new.self) c.number-2.ensures.value c.in_ok-join-2.ensures.ok) in
    rw (← c.self.view_is)
    (handed c.self.inside.table c.prepare.new.table c.join-2.new.self c.swap.new.self c.args.from c.args.to c.in_ok-prepare.ensures.begun c.prepare.ensures.same taken
    (risen c.prepare.new.table c.join-2.new.self c.swap.new.self c.args.from c.number-3.result c.prepare.new.next c.number-3.ensures.value
    (handed-own c.prepare.new.table c.join-2.new.self c.args.from c.args.to taken) c.in_ok-prepare.ensures.risen c.swap.ensures) t u)
