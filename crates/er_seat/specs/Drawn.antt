-- The tickets that a seat drew and has not used, and what a draw leaves of them.
use Rattle.std.specs.Prelude.{◌≡◌, ◌≤◌, ◌<◌, ◌+◌, ◌-◌, ◌*◌, ◌^◌, ℕ, min}
use Rattle.er_seat.specs.declared.drawn.DrawnTickets.{DrawnTickets}

-- each ticket that is left is greater than this one
abbrev pub AreAbove : DrawnTickets → ℕ → Type 0
AreAbove tickets last = (ticket : ℕ) → tickets.left.start ≤ ticket → ticket < tickets.left.end → last < ticket

-- the first ticket that was left is used
abbrev pub without_first : DrawnTickets → DrawnTickets
without_first tickets = record { left = record { start = tickets.left.start + 1; end = tickets.left.end }; ahead = tickets.ahead }

-- of so many tickets from this one on, the others below 2^64 - 1, and twice as many to come, or 2^64 - 1
abbrev pub others_of : ℕ → ℕ → DrawnTickets
others_of count first = record { left = record { start = min (first + 1) (2 ^ 64 - 1); end = min (first + count) (2 ^ 64 - 1) }; ahead = min (count * 2) (2 ^ 64 - 1) }

-- so many tickets are drawn: the first of them is the answer, and the others are left
abbrev pub IsDraw : (ℕ → ℕ → Type 0) → ℕ → ℕ → DrawnTickets → Type 0
IsDraw drawn count ticket after = drawn count ticket × (after ≡ others_of count ticket)

-- whichever 1 to `most` tickets are drawn now, the first of them is such
abbrev pub EachDraw : (ℕ → ℕ → Type 0) → ℕ → (ℕ → Type 0) → Type 0
EachDraw drawn most P = (count first : ℕ) → 1 ≤ count → count ≤ most → drawn count first → P first
