-- The numbers that C gets.
use Rattle.std.specs.Prelude.{ℕ, ◌+◌}
use Rattle.er_event.specs.Refusal.{number_of as number_of_refusal}
use Rattle.eraser_c.specs.declared.status.Status.{Status}
use Rattle.eraser_c.specs.declared.status.Status.TheVariants.{Quiet, Race, Ignored, Refused, EmptyHandle, WrongHandle, Virgin, Exclusive, Shared, SharedModified, SeatTwice, SeatMissing, Order, Entries, Answer, ForeignShard}

-- a status's number
abbrev pub number_of : Status → ℕ
number_of Quiet = 0
number_of Race = 1
number_of Ignored = 2
number_of (Refused why) = 2 + number_of_refusal why
number_of EmptyHandle = 18
number_of WrongHandle = 19
number_of Virgin = 20
number_of Exclusive = 21
number_of Shared = 22
number_of SharedModified = 23
number_of SeatTwice = 24
number_of SeatMissing = 25
number_of Order = 26
number_of Entries = 27
number_of Answer = 28
number_of ForeignShard = 29
