-- What is noted of a trace, behind its report.
use Rattle.std.specs.Prelude.{◌≡◌, ◌⊎◌, ℕ, zero, suc, ◌++◌, Bool, true, false, List, [], codes, decimal}
use Rattle.er_exit.specs.declared.faults.TextNotes.{TextNotes}

-- a line, if it is noted
abbrev pub line_if : Bool → List ℕ → List ℕ
line_if false line = []
line_if true line = line

-- the line of so many unordered accesses, if there are some
abbrev pub unordered_line : ℕ → List ℕ
unordered_line zero = []
unordered_line (suc n) = codes "note: this trace records no order: record it with --order; " ++ (decimal (suc n) ++ codes " unordered accesses may be ordered\n")

-- the lines of these notes
abbrev pub notes_text : TextNotes → List ℕ
notes_text notes =
    line_if notes.no_end (codes "note: the trace has no end: it may be cut off\n")
    ++ (line_if notes.no_line_feed (codes "note: the last line has no line feed: it may be cut off\n") ++ unordered_line notes.unordered)

-- these lines were added, or for want of memory none
abbrev pub HasAdded : List ℕ → List ℕ → TextNotes → Type 0
HasAdded old new notes = (new ≡ old ++ notes_text notes) ⊎ (new ≡ old)
