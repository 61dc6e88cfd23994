-- What an access and a reuse under a ticket do to a seat and to a shard with a journal.
use Rattle.std.specs.Prelude.{ℕ, ◌≡◌, ◌<◌, ◌≤◌, ◌⊎◌, Bool, length, Option, Some, None}
use Rattle.er_event.specs.declared.addresses.PageRange.{PageRange}
use Rattle.er_event.specs.declared.refusals.Refusal.TheVariants.{JournalFull, OutOfMemory}
use Rattle.er_event.specs.declared.steps.Event.TheVariants as event
use Rattle.er_event.specs.declared.steps.Kind.{Kind}
use Rattle.er_event.specs.declared.steps.Reply.TheVariants.{Done}
use Rattle.er_journal.specs.Journals.{journal_state, mark_of_what, notes_of}
use Rattle.er_journal.specs.Entries.{Access, Reset}
use Rattle.er_model.specs.Parts.{FitsEnd}
use Rattle.er_seat.specs.Seats.{access_stamp, holdings_of, ticketed, with_call}
use Rattle.er_settle.specs.Seats.{SeatList}
use Rattle.er_shadow.specs.Replies.{reply_if}
use Rattle.er_shadow.specs.Shadows.{needs_set}
use Rattle.er_shard.specs.Journaled.{Journaled, entry_of, with_entry}
use Rattle.eraser_c.specs.Answers.{IsNoRoomFor, race_if}
use Rattle.eraser_c.specs.Owned.{Value}
use Rattle.eraser_c.specs.Statuses.{number_of}
use Rattle.eraser_c.specs.declared.journals.Use.{Use}
use Rattle.eraser_c.specs.declared.journals.Use.TheVariants as use_of
use Rattle.eraser_c.specs.declared.kept.Kept.TheVariants.{Shard, Thread, Journal, Seat}
use Rattle.eraser_c.specs.declared.status.Status.TheVariants.{Quiet, Ignored, Refused, EmptyHandle, WrongHandle}

-- a refusal since the journal is full at its limit
abbrev pub IsFull : Journaled → ℕ → Type 0
IsFull shard number = (number ≡ number_of (Refused JournalFull)) × (shard.limit ≤ length shard.journal)

-- the seat lists the access under the ticket, the journal has its entry with the locks that the seat holds, and both have the answer that the definitions give
pub record IsListedAs (kind : Kind) (word ticket : ℕ) (seat after : SeatList) (shard now : Journaled) (race : Bool) : Type 0 where
  pub call : after ≡ with_call seat (ticketed (event.Access kind word 0) ticket (reply_if race))
  pub entry : now ≡ with_entry shard (entry_of ticket seat.thread (Access (access_stamp seat word kind 0)) (reply_if race))
  pub answer : FitsEnd (notes_of shard.journal) (mark_of_what (Access (access_stamp seat word kind 0))) (reply_if race)

-- an access is listed and answered, or it is refused and both lists are as they were
abbrev pub IsListedAccess : Kind → ℕ → ℕ → SeatList → SeatList → Journaled → Journaled → ℕ → Type 0
IsListedAccess kind word ticket seat after shard now number =
    ((race : Bool) × (IsListedAs kind word ticket seat after shard now race × (number ≡ number_of (race_if race))))
    ⊎ ((after ≡ seat) × ((now ≡ shard) × (IsFull shard number ⊎ IsNoRoomFor (needs_set (journal_state shard.journal word) seat.thread) number)))

-- a reuse of a range is listed, or it is refused and both lists are as they were
abbrev pub IsListedReset : PageRange → ℕ → SeatList → SeatList → Journaled → Journaled → ℕ → Type 0
IsListedReset range ticket seat after shard now number =
    ((after ≡ with_call seat (ticketed (event.Reuse range) ticket Done)) × ((now ≡ with_entry shard (entry_of ticket seat.thread (Reset range) Done)) × (number ≡ number_of Quiet)))
    ⊎ ((after ≡ seat) × ((now ≡ shard) × (IsFull shard number ⊎ (number ≡ number_of (Refused OutOfMemory)))))

-- what a call asks of a seat and of the shard with a journal of a handle, if it leads to one
abbrev pub ByJournal : (SeatList → SeatList → Journaled → Journaled → ℕ → Type 0) → SeatList → SeatList → Option Value → Option Value → ℕ → Type 0
ByJournal P seat after None now number = (after ≡ seat) × ((now ≡ None) × (number ≡ number_of EmptyHandle))
ByJournal P seat after (Some (Journal shard)) now number = (s : Journaled) × ((now ≡ Some (Journal s)) × P seat after shard s number)
ByJournal P seat after (Some (Shard calls)) now number = (after ≡ seat) × ((now ≡ Some (Shard calls)) × (number ≡ number_of WrongHandle))
ByJournal P seat after (Some (Thread t)) now number = (after ≡ seat) × ((now ≡ Some (Thread t)) × (number ≡ number_of WrongHandle))
ByJournal P seat after (Some (Seat s)) now number = (after ≡ seat) × ((now ≡ Some (Seat s)) × (number ≡ number_of WrongHandle))

-- accesses of a thread that ignores them change nothing
pub record UnlessBracket (seat after : SeatList) (shard now : Journaled) (number : ℕ) (P : Type 0) : Type 0 where
  pub ignored : 0 < (holdings_of seat).depth → (after ≡ seat) × ((now ≡ shard) × (number ≡ number_of Ignored))
  pub counted : (holdings_of seat).depth ≡ 0 → P

-- a seat uses words of a shard with a journal: an access unless the thread ignores it, or a reuse
abbrev pub IsUsed : Use → ℕ → SeatList → SeatList → Journaled → Journaled → ℕ → Type 0
IsUsed (use_of.Access kind word) ticket seat after shard now number = UnlessBracket seat after shard now number (IsListedAccess kind word ticket seat after shard now number)
IsUsed (use_of.Reset range) ticket seat after shard now number = IsListedReset range ticket seat after shard now number

-- what a call asks of the seat of a handle, if it leads to one
abbrev pub BySeat : (SeatList → SeatList → Option Value → Option Value → ℕ → Type 0) → Option Value → Option Value → Option Value → Option Value → ℕ → Type 0
BySeat P None after shard now number = (after ≡ None) × ((now ≡ shard) × (number ≡ number_of EmptyHandle))
BySeat P (Some (Seat seat)) after shard now number = (s : SeatList) × ((after ≡ Some (Seat s)) × P seat s shard now number)
BySeat P (Some (Shard calls)) after shard now number = (after ≡ Some (Shard calls)) × ((now ≡ shard) × (number ≡ number_of WrongHandle))
BySeat P (Some (Thread t)) after shard now number = (after ≡ Some (Thread t)) × ((now ≡ shard) × (number ≡ number_of WrongHandle))
BySeat P (Some (Journal j)) after shard now number = (after ≡ Some (Journal j)) × ((now ≡ shard) × (number ≡ number_of WrongHandle))

-- a use by the seat of one handle in the shard of another
abbrev pub IsRecorded : Use → ℕ → Option Value → Option Value → Option Value → Option Value → ℕ → Type 0
IsRecorded what ticket thread after shard now number = BySeat (ByJournal (IsUsed what ticket)) thread after shard now number
