use Rattle.std.proofs.Common.{◌≡◌, ◌<◌, ℕ}
use Rattle.std.specs.Prelude.{slice_get, Some}
use Rattle.er_settle.specs.Seats.{SeatList}
use Rattle.er_settle.specs.Inner.JournalOrder.{entries_by}
use Rattle.er_settle.specs.Inner.ReplyMatches.{AreAlike}
use Rattle.er_settle.proofs.entry_matches.all_answered.Given as goal

abbrev pub invariant-loop-at : goal.invariant-loop-at
invariant-loop-at l = (k : ℕ) (s : SeatList) → k < l.at → slice_get l.seats k ≡ Some s → AreAlike s (entries_by s.thread l.order)
