-- A seat as contracts see it: its detector's name, its thread, and the calls that it accepted.
use Rattle.std.specs.Prelude.{◌≡◌, ◌==◌, not, ℕ, cond, List, [], ◌∷◌, slice_get, Some}
use Rattle.std.specs.Option.{is_some}
use Rattle.er_journal.specs.Entries.{Call}
use Rattle.er_model.specs.Holdings.{Holdings, holdings_at}
use Rattle.er_model.specs.Locality.{steps_by, is_own_call}
use Rattle.er_journal.specs.Merges.{events_in, IsLegalSeat}

-- a seat's detector's name, its thread, and its accepted calls in order
pub record SeatList : Type 0 where
  pub name : ℕ
  pub thread : ℕ
  pub calls : List Call

-- what the thread holds after its first n calls
abbrev pub holdings_by : ℕ → List Call → ℕ → Holdings
holdings_by t calls n = holdings_at (steps_by t (events_in calls)) t n

-- a call has a ticket exactly if it stands in a journal: a counted access or a reuse
abbrev pub AreTicketed : ℕ → List Call → Type 0
AreTicketed t calls = (j : ℕ) (call : Call) → slice_get calls j ≡ Some call → is_some call.ticket ≡ not (is_own_call (holdings_by t calls j) call.event)

-- calls that a seat can have: those without a ticket, and their replies, are as the thread's own list has them
pub record IsSeatList (t : ℕ) (calls : List Call) : Type 0 where
  pub replies : IsLegalSeat t calls
  pub tickets : AreTicketed t calls

-- the calls of the thread's seat, or none where it isn't given
unfoldable pub calls_by : List SeatList → ℕ → List Call
calls_by [] t = []
calls_by (s ∷ seats) t = cond (s.thread == t) s.calls (calls_by seats t)
