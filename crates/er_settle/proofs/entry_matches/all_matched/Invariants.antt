use Rattle.std.proofs.Common.{◌≡◌, ◌<◌, ℕ}
use Rattle.std.specs.Prelude.{slice_get, Some}
use Rattle.er_settle.specs.Seats.{SeatList}
use Rattle.er_settle.specs.Inner.EntryMatches.{ticketed_calls, ticketed_entries}
use Rattle.er_settle.specs.Inner.JournalOrder.{entries_by}
use Rattle.er_settle.proofs.entry_matches.all_matched.Given as goal

abbrev pub invariant-loop-at : goal.invariant-loop-at
invariant-loop-at l = (k : ℕ) (s : SeatList) → k < l.at → slice_get l.seats k ≡ Some s → ticketed_calls s.calls ≡ ticketed_entries (entries_by s.thread l.order)
