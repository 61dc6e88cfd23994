-- What becomes of shards and seats that are settled.
use Rattle.std.specs.Prelude.{ℕ, ◌≡◌, ◌==◌, ◌⊎◌, cond, List, [], ◌∷◌, length, map, slice_get, Option, Some, None, Result, Ok, Err}
use Rattle.er_event.specs.declared.refusals.Refusal.TheVariants as refusal
use Rattle.er_event.specs.declared.steps.Reply.{Reply}
use Rattle.er_event.specs.declared.steps.Step.{Step}
use Rattle.er_journal.specs.Entries.{Entry}
use Rattle.er_journal.specs.Journals.{journal_state}
use Rattle.er_journal.specs.Merges.{IsMerge, reply_at, shard_of}
use Rattle.er_model.specs.Answers.{answer, state_end}
use Rattle.er_settle.specs.Faults.{IsFirst, IsSettled}
use Rattle.er_settle.specs.Runs.{IsInTurn, journal_at}
use Rattle.er_settle.specs.Seats.{SeatList, calls_by}
use Rattle.er_settle.specs.declared.unsettled.Unsettled.{Unsettled}
use Rattle.er_settle.specs.declared.unsettled.Unsettled.TheVariants as fault
use Rattle.eraser_c.specs.Owned.{Value}
use Rattle.eraser_c.specs.Statuses.{number_of}
use Rattle.eraser_c.specs.declared.handle.Handle.{Handle}
use Rattle.eraser_c.specs.declared.kept.Kept.TheVariants.{Shard, Thread, Journal, Seat}
use Rattle.eraser_c.specs.declared.status.Status.{Status}
use Rattle.eraser_c.specs.declared.status.Status.TheVariants as status

-- what the handles lead to
abbrev pub all_kept : List Handle → List (Option Value)
all_kept handles = map (λ handle. handle.kept_box.kept) handles

-- a handle's journal, if it leads to a shard of the detector of this name
abbrev pub journal_in : ℕ → Option Value → Result (List Entry) Status
journal_in name None = Err status.EmptyHandle
journal_in name (Some (Journal shard)) = cond (shard.name == name) (Ok shard.journal) (Err status.ForeignShard)
journal_in name (Some (Shard calls)) = Err status.WrongHandle
journal_in name (Some (Thread t)) = Err status.WrongHandle
journal_in name (Some (Seat seat)) = Err status.WrongHandle

-- a handle's seat
abbrev pub seat_in : Option Value → Result SeatList Status
seat_in None = Err status.EmptyHandle
seat_in (Some (Seat seat)) = Ok seat
seat_in (Some (Shard calls)) = Err status.WrongHandle
seat_in (Some (Thread t)) = Err status.WrongHandle
seat_in (Some (Journal shard)) = Err status.WrongHandle

-- one more in front of the list, or the first that is wrong
abbrev pub with_first : {A : Type 0} → Result A Status → Result (List A) Status → Result (List A) Status
with_first (Err why) rest = Err why
with_first (Ok x) (Err why) = Err why
with_first (Ok x) (Ok xs) = Ok (x ∷ xs)

-- what each of them has, or what is wrong with the first that doesn't have it
unfoldable pub each_in : {A : Type 0} → (Option Value → Result A Status) → List (Option Value) → Result (List A) Status
each_in of [] = Ok []
each_in of (v ∷ vs) = with_first (of v) (each_in of vs)

-- the status of a fault of settling
abbrev pub status_of_fault : Unsettled → Status
status_of_fault fault.ForeignSeat = status.Refused refusal.ForeignSeat
status_of_fault fault.SeatTwice = status.SeatTwice
status_of_fault fault.SeatMissing = status.SeatMissing
status_of_fault fault.Order = status.Order
status_of_fault fault.Entries = status.Entries
status_of_fault fault.Answer = status.Answer
status_of_fault fault.Memory = status.Refused refusal.OutOfMemory

-- seats and journals make one run of so many steps: each reply, and each word's state, is the one that the definitions give of that run
pub record IsOneRun (name opened : ℕ) (seats : List SeatList) (journals : List (List Entry)) (count : ℕ) : Type 0 where
  pub steps : List Step
  pub replies : List Reply
  pub size : length steps ≡ count
  pub settled : IsSettled name opened seats journals
  pub merge : IsMerge (length journals) steps replies (calls_by seats) (journal_at journals)
  pub answers : (k : ℕ) (step : Step) → slice_get steps k ≡ Some step → answer steps k ≡ Ok (reply_at replies k)
  pub states : (w : ℕ) → journal_state (journal_at journals (shard_of (length journals) w)) w ≡ state_end steps w
  pub order : IsInTurn seats steps replies

-- the journals and lists make one run, or the result is what is wrong: the first shard, the first seat, no shard at all, or the first fault
abbrev pub IsSettlement : ℕ → ℕ → Result (List (List Entry)) Status → Result (List SeatList) Status → Result ℕ Status → Type 0
IsSettlement name opened (Err why) seats result = result ≡ Err why
IsSettlement name opened (Ok journals) (Err why) result = result ≡ Err why
IsSettlement name opened (Ok []) (Ok seats) result = result ≡ Err status.EmptyHandle
IsSettlement name opened (Ok (journal ∷ journals)) (Ok seats) (Ok count) = IsOneRun name opened seats (journal ∷ journals) count
IsSettlement name opened (Ok (journal ∷ journals)) (Ok seats) (Err why) = (fault : Unsettled) × ((why ≡ status_of_fault fault) × IsFirst name opened seats (journal ∷ journals) fault)

-- the handles' shards and seats settle so, or there is no memory
abbrev pub IsTold : ℕ → ℕ → List (Option Value) → List (Option Value) → Result ℕ Status → Type 0
IsTold name opened shards seats result =
    (result ≡ Err (status.Refused refusal.OutOfMemory)) ⊎ IsSettlement name opened (each_in (journal_in name) shards) (each_in seat_in seats) result

-- the number and the count of steps that C gets say the result
abbrev pub IsToldBy : Result ℕ Status → ℕ → ℕ → Type 0
IsToldBy (Ok count) steps number = (steps ≡ count) × (number ≡ number_of status.Quiet)
IsToldBy (Err why) steps number = (steps ≡ 0) × (number ≡ number_of why)

-- what is behind a box
abbrev pub behind : {B : Type 0} → (B → Value) → Option B → Option Value
behind of None = None
behind of (Some boxed) = Some (of boxed)

-- what is behind each of them
abbrev pub all_behind : {B : Type 0} → (B → Value) → List (Option B) → List (Option Value)
all_behind of boxes = map (behind of) boxes
