-- What a detector's calls leave in a seat's list and in a shard's journal.
use Rattle.std.specs.Prelude.{ℕ, ◌≡◌, ◌==◌, Bool, true, false, ◌&&◌, List, ◌++◌, map, IsSome}
use Rattle.std.specs.List.{All}
use Rattle.er_event.specs.declared.addresses.PageRange.{PageRange}
use Rattle.er_event.specs.declared.refusals.Refusal.{Refusal}
use Rattle.er_event.specs.declared.refusals.Refusal.TheVariants.{JournalFull, TableFull, OutOfMemory, ForeignSeat}
use Rattle.er_event.specs.declared.steps.Event.TheVariants.{Access, Reuse}
use Rattle.er_event.specs.declared.steps.Kind.{Kind}
use Rattle.er_event.specs.declared.steps.Reply.{Reply}
use Rattle.er_event.specs.declared.steps.Reply.TheVariants.{Done}
use Rattle.er_journal.specs.Entries.{Call, Access as Stamped}
use Rattle.er_journal.specs.Merges.{shard_of}
use Rattle.er_settle.specs.Seats.{SeatList}
use Rattle.er_seat.specs.Seats.{with_call, ticketed, ignored, access_stamp}
use Rattle.er_shard.specs.Journaled.{Journaled, with_entry, entry_of}
use Rattle.er_detector.specs.declared.config.Config.{Config}

-- the seat is the detector's
abbrev pub is_seat_of : Config → SeatList → Bool
is_seat_of detector seat = seat.name == detector.name

-- the shard is the detector's, and the word is one of its words
abbrev pub is_shard_of : Config → Journaled → ℕ → Bool
is_shard_of detector shard word = shard.name == detector.name && shard.number == shard_of detector.shards word

-- the seat's list has one call more, a counted access under this ticket
abbrev pub IsListed : SeatList → SeatList → ℕ → Kind → ℕ → ℕ → Reply → Type 0
IsListed seat next word kind site ticket reply = next ≡ with_call seat (ticketed (Access kind word site) ticket reply)

-- the shard's journal has one entry more, the access with the locks that the seat's thread holds
abbrev pub IsEntered : SeatList → Journaled → Journaled → ℕ → Kind → ℕ → ℕ → Reply → Type 0
IsEntered seat shard longer word kind site ticket reply = longer ≡ with_entry shard (entry_of ticket seat.thread (Stamped (access_stamp seat word kind site)) reply)

-- the seat's list has one call more, an access that doesn't count
abbrev pub IsIgnored : SeatList → SeatList → ℕ → Kind → ℕ → Type 0
IsIgnored seat next word kind site = next ≡ with_call seat (ignored (Access kind word site))

-- the seat's list has one call more, a reuse of one page's words under this ticket
abbrev pub IsReused : SeatList → SeatList → PageRange → ℕ → Type 0
IsReused seat next part ticket = next ≡ with_call seat (ticketed (Reuse part) ticket Done)

-- an access by a thread at this ignore depth may be refused so: one that doesn't count asks for no shard
abbrev pub may_refuse : ℕ → Refusal → Bool
may_refuse depth ForeignSeat = true
may_refuse depth OutOfMemory = true
may_refuse depth JournalFull = depth == 0
may_refuse depth TableFull = depth == 0
may_refuse depth _ = false

-- a reuse may be stopped so
abbrev pub may_refuse_reuse : Refusal → Bool
may_refuse_reuse ForeignSeat = true
may_refuse_reuse OutOfMemory = true
may_refuse_reuse JournalFull = true
may_refuse_reuse _ = false

-- the seat's list has one call more for each part, in order, done under a ticket
pub record HasReused (seat next : SeatList) (parts : List PageRange) : Type 0 where
  pub more : List Call
  pub grown : next ≡ record seat { calls = seat.calls ++ more }
  pub events : map (λ call. call.event) more ≡ map Reuse parts
  pub done : All (λ call. (call.reply ≡ Done) × IsSome call.ticket) more
