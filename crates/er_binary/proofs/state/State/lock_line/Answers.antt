-- The line of a lock event.
use Rattle.std.proofs.Common.{◌<◌, length, arith}
use Rattle.er_binary.proofs.WordsLaws.{lock_line_right, lock_right, lock_taken}
use Rattle.er_binary.proofs.state.State.lock_line.Goals as goal

pub ready_width-requires : goal.ready_width-requires
ready_width-requires c =
    rw (c.get.ensures, c.get-2.ensures) (lock_right c.args.self.now c.in_ok-verb.verb c.args.kind c.args.lock c.in_ok-thread.thread c.in_ok-verb.ensures c.requires c.in_ok-thread.was (omega arith))

pub returns-clause-taken : goal.returns-clause-taken
returns-clause-taken c = λ len rest.
    lock_taken c.args.self.now c.in_ok-verb.verb c.args.kind c.args.lock c.in_ok-thread.thread c.ready_width.result len rest c.in_ok-verb.ensures c.in_ok-thread.was (omega arith)

pub returns-clause-right : goal.returns-clause-right
returns-clause-right c =
    let s = c.args.self.now in
    let less : c.args.lock < length s.locks = omega arith in
    let form = lock_right s c.in_ok-verb.verb c.args.kind c.args.lock c.in_ok-thread.thread c.in_ok-verb.ensures c.requires c.in_ok-thread.was less in
    let width = rw (c.get.ensures, c.get-2.ensures) at c.ready_width.ensures in
    lock_line_right s c.in_ok-verb.verb c.args.kind c.args.lock c.in_ok-thread.thread c.ready_width.result c.in_ok-verb.ensures c.requires less form width
