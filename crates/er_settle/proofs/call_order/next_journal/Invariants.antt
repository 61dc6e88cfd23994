use Rattle.std.proofs.Common.{◌≡◌, ◌<◌, ℕ, List}
use Rattle.std.specs.Prelude.{slice_get, Some}
use Rattle.er_journal.specs.Entries.{Entry}
use Rattle.er_journal.specs.Journals.{IsLegalJournal}
use Rattle.er_settle.specs.Inner.JournalOrder.{IsSoonest}
use Rattle.er_settle.proofs.call_order.next_journal.Given as goal

abbrev pub invariant-loop-place : goal.invariant-loop-place
invariant-loop-place l = record {
  soonest : IsSoonest l.journals l.read l.place l.least;
  legal : (p : ℕ) (entries : List Entry) → p < l.place → slice_get l.journals p ≡ Some entries → IsLegalJournal entries;
}
