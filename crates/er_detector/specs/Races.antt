-- Which entries of a journal tell of a race.
use Rattle.std.specs.Prelude.{◌≡◌, Bool}
use Rattle.er_event.specs.declared.steps.Reply.TheVariants.{Race}
use Rattle.er_journal.specs.Entries.{Entry}
use Rattle.er_settle.specs.Runs.{answers_race}

-- the entry's reply is a race
abbrev pub is_race : Entry → Bool
is_race entry = answers_race entry.reply

-- the call that the entry records was answered with a race
abbrev pub IsRace : Entry → Type 0
IsRace entry = entry.reply ≡ Race
