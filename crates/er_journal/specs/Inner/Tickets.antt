-- What a ticket is on its way into an entry or a call. No public clause cites this file.
use Rattle.std.specs.Prelude.{ℕ}
use Rattle.er_journal.specs.declared.tickets.TicketPlace.{TicketPlace}
use Rattle.er_journal.specs.declared.tickets.TicketPlace.TheVariants as place

-- the ticket's number
abbrev pub ticket_of : TicketPlace → ℕ
ticket_of (place.Here number) = number
ticket_of (place.Apart late) = late.value.number
