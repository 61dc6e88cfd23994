-- A journal, read as a list of marks with their replies.
use Rattle.std.specs.Prelude.{ℕ, List, map}
use Rattle.er_event.specs.declared.steps.Kind.{Kind}
use Rattle.er_event.specs.declared.steps.Kind.TheVariants.{Read as reading, Write as writing}
use Rattle.er_event.specs.declared.steps.WordState.{WordState}
use Rattle.er_journal.specs.Entries.{Stamp, What, Access, Reset, Entry}
use Rattle.er_model.specs.Words.{Mark, Counted, Reused}
use Rattle.er_model.specs.Parts.{Noted, IsLegal, state_of_notes}

-- the stamp's locks for an access of this kind
abbrev pub stamped : Stamp → Kind → List ℕ
stamped stamp reading = stamp.held
stamped stamp writing = stamp.write_held

-- a stamped access counts, and its stamp's locks cover it
abbrev pub mark_of_what : What → Mark
mark_of_what (Access stamp) = Counted stamp.thread stamp.kind stamp.word (stamped stamp stamp.kind)
mark_of_what (Reset range) = Reused range

-- the entry's mark and its reply
abbrev pub note_of : Entry → Noted
note_of entry = record { mark = mark_of_what entry.what; reply = entry.reply }

-- the journal's entries as marks with their replies, in order
abbrev pub notes_of : List Entry → List Noted
notes_of entries = map note_of entries

-- each entry's reply is the one that the lockset rule gives after the entries before it
abbrev pub IsLegalJournal : List Entry → Type 0
IsLegalJournal entries = IsLegal (notes_of entries)

-- a word's state at the journal's end
abbrev pub journal_state : List Entry → ℕ → WordState
journal_state entries w = state_of_notes (notes_of entries) w
