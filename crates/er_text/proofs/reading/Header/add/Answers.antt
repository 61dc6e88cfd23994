-- The thread that a start or a join names has a number by then.
use Rattle.er_text.specs.Inner.Parsing.{action_view}
use Rattle.er_text.proofs.IdleLemmas.{named_past}
use Rattle.er_text.proofs.reading.Header.add.Goals as goal

pub add_new-requires : goal.add_new-requires
add_new-requires c =
    rw (c.other_thread-other.ensures, c.names-3.ensures, c.in_ok-thread.ensures.trace)
    (named_past c.args.line c.args.trace.now c.args.parsed.now.thread.now (action_view c.args.parsed.now.action))
