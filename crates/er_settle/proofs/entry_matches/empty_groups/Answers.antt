-- One empty group more in each turn.
use Rattle.std.proofs.Common.{arith}
use Rattle.std.proofs.lemmas.Option.{slice_get_within}
use Rattle.er_settle.proofs.ListLemmas.{one_empty_more}
use Rattle.er_settle.proofs.entry_matches.empty_groups.Goals as goal

pub loop-seat-preserved : goal.loop-seat-preserved
loop-seat-preserved c = (
  omega (arith, c.in_ok-push.ensures.len, c.loop-seat.invariant.0),
  one_empty_more c.loop-seat.groups.items c.push.new.self.items c.loop-seat._seat-index (omega arith) c.loop-seat.invariant.1
      (rw c.new-entries.ensures.items at c.in_ok-push.ensures.items),
)

pub returns : goal.returns
returns c = record {
  count = omega (arith, c.loop-seat.invariant.0);
  each = λ i seat here. c.loop-seat.invariant.1 i (omega (arith, slice_get_within c.args.seats.now i seat here));
}
