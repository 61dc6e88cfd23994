-- The faults of settling in words.
use Rattle.std.specs.Prelude.{ℕ, List, codes}
use Rattle.er_settle.specs.declared.unsettled.Unsettled.{Unsettled}
use Rattle.er_settle.specs.declared.unsettled.Unsettled.TheVariants.{ForeignSeat, SeatTwice, SeatMissing, Order, Entries, Answer, Memory}

-- a fault in words, as it is printed
abbrev pub text_of : Unsettled → List ℕ
text_of ForeignSeat = codes "foreign seat"
text_of SeatTwice = codes "seat twice"
text_of SeatMissing = codes "seat missing"
text_of Order = codes "order"
text_of Entries = codes "entries"
text_of Answer = codes "answer"
text_of Memory = codes "memory"
