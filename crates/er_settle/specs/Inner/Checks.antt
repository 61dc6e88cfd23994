-- What the checks of names, numbers and tickets find.
use Rattle.std.specs.Prelude.{ℕ, List}
use Rattle.std.specs.BTreeMap.{BTreeMap}
use Rattle.er_journal.specs.Entries.{Entry}
use Rattle.er_settle.specs.Seats.{SeatList}
use Rattle.er_settle.specs.Faults.{AreOfDetector, AreDistinct, AreComplete, AreOrdered}
use Rattle.er_settle.specs.Inner.SeatChecks.{AreLegal, IsIndex}
use Rattle.er_settle.specs.Inner.JournalOrder.{EntryAt, IsOrder}

-- the seats are the detector's, each once and all, and all tickets rise; where the seat of each thread stands, and the entries in order
pub record AreChecked (name opened : ℕ) (seats : List SeatList) (journals : List (List Entry)) (index : BTreeMap ℕ ℕ) (order : List EntryAt) : Type 0 where
  pub own : AreOfDetector name seats
  pub once : AreDistinct seats
  pub all : AreComplete opened seats
  pub ordered : AreOrdered seats journals
  pub legal : AreLegal seats journals
  pub places : IsIndex seats index
  pub rises : IsOrder journals order
