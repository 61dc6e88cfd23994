use Rattle.std.proofs.Common.{◌≡◌, length, take}
use Rattle.er_settle.specs.Seats.{holdings_by}
use Rattle.er_settle.specs.Inner.EntryMatches.{ticketed_calls}
use Rattle.er_settle.specs.Inner.ReplyMatches.{AreAlikeBelow}
use Rattle.er_settle.proofs.entry_matches.is_answered.Given as goal

abbrev pub invariant-loop-call : goal.invariant-loop-call
invariant-loop-call l = record {
  at : l.at ≡ length (ticketed_calls (take l.call-index l.seat.calls));
  held : l.held ≡ holdings_by l.seat.thread l.seat.calls l.call-index;
  alike : AreAlikeBelow l.call-index l.seat l.group;
}
