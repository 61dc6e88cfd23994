-- How the lines before end, as lines are passed over.
use Rattle.std.specs.Prelude.{◌≡◌, not, Bool, true, false, List, [], Option, Some, None, Result, Ok, Err}
use Rattle.er_lines.specs.declared.faults.ReadFault.{ReadFault}
use Rattle.er_text.specs.declared.reading.Batch.{Batch}
use Rattle.er_text.specs.declared.reading.Batch.TheVariants.{More, End}
use Rattle.er_text.specs.Ending.{is_cut_after, comment_after, comment_past}
use Rattle.er_lines.specs.Lines.{Placed}
use Rattle.er_text.specs.Places.{Tail}

-- how lines end, behind others that end so
abbrev pub tail_after : Tail → List Placed → Tail
tail_after tail lines = record { cut = is_cut_after tail.cut lines; comment = comment_after tail.comment lines }

-- and behind one line
abbrev pub tail_past : Tail → Placed → Tail
tail_past tail p = record { cut = not p.line.ended; comment = comment_past tail.comment p.number p.line.bytes }

-- what is left ends as all of it does
abbrev pub KeepsTail : Option (List Placed) → Option (List Placed) → Tail → Tail → Type 0
KeepsTail None rest before after = Unit {0}
KeepsTail (Some left) None before after = ⊥
KeepsTail (Some left) (Some rest) before after = tail_after before left ≡ tail_after after rest

-- a line was passed over, or there was none left
abbrev pub PassesTail : Option (List Placed) → Option (List Placed) → Tail → Tail → Result Bool ReadFault → Type 0
PassesTail left rest before after (Ok true) = KeepsTail left rest before after
PassesTail left rest before after (Ok false) = KeepsTail left (Some []) before after
PassesTail left rest before after (Err fault) = Unit {0}

-- some lines were passed over, or all that were left
abbrev pub BatchesTail : Option (List Placed) → Option (List Placed) → Tail → Tail → Result Batch ReadFault → Type 0
BatchesTail left rest before after (Ok More) = KeepsTail left rest before after
BatchesTail left rest before after (Ok End) = KeepsTail left (Some []) before after
BatchesTail left rest before after (Err fault) = Unit {0}
