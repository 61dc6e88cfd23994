-- What a command line leaves on standard error besides faults.
use Rattle.std.specs.Prelude.{◌⊎◌, ◌++◌, ◌&&◌, ◌||◌, ℕ, Bool, cond, List, [], Option}
use Rattle.er_exit.specs.Notes.{notes_text}
use Rattle.er_exit.specs.Writes.{WritesBytes}
use Rattle.er_exit.specs.declared.faults.TextNotes.{TextNotes}
use Rattle.er_text.specs.declared.endings.Ending.{Ending}
use Rattle.er_triage.specs.Notes.{AreNotes}

-- what is noted of a text that ends so, and in which nothing orders so many unordered accesses; some of it for people alone
abbrev pub notes_on : Bool → Ending → ℕ → TextNotes
notes_on hints ending unordered =
    record { no_end = ending.is_open; no_line_feed = ending.is_cut && hints; unordered = cond (ending.is_text_3 || hints) unordered 0 }

-- nothing was written but these notes and those on a text that ends so, or a beginning of them if a write failed; for want of memory those on the text may be missing
abbrev pub AddsNotesOn : Bool → Ending → ℕ → List ℕ → Option (List ℕ) → Option (List ℕ) → Bool → Type 0
AddsNotesOn hints ending unordered asked old new failed = WritesBytes old new (asked ++ notes_text (notes_on hints ending unordered)) failed ⊎ WritesBytes old new asked failed

-- the same of some text
abbrev pub AddsNotes : Bool → List ℕ → Option (List ℕ) → Option (List ℕ) → Bool → Type 0
AddsNotes hints asked old new failed = (ending : Ending) × (unordered : ℕ) × AddsNotesOn hints ending unordered asked old new failed

-- nothing was written but notes that were asked for and those on a text
abbrev pub GetsNotes : Bool → Option (List ℕ) → Option (List ℕ) → Bool → Type 0
GetsNotes hints old new failed = (asked : List ℕ) × AreNotes asked × AddsNotes hints asked old new failed

-- nothing was written but notes on a text
abbrev pub GetsTextNotes : Bool → Option (List ℕ) → Option (List ℕ) → Bool → Type 0
GetsTextNotes hints old new failed = AddsNotes hints [] old new failed
