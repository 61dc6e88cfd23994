-- Lines that get the reasons of their races, one explanation after another.
use Rattle.std.specs.Prelude.{List, [], ◌∷◌, drop, Option, Some, None}
use Rattle.er_trace.specs.Trace.{Recording}
use Rattle.er_model.specs.Explanations.{Explanation}
use Rattle.er_report.specs.Kept.{Kept}
use Rattle.er_report.specs.Lines.{LineView, RacedView, RefusedView, ShownView}
use Rattle.er_report.specs.Reasons.{reasons_of}
use Rattle.er_report.specs.declared.report.Because.{Because}

-- the reasons of the next explanation, or these where none is left
abbrev pub next_reasons : Recording → List Explanation → List Because → List Because
next_reasons r [] reasons = reasons
next_reasons r (e ∷ rest) reasons = reasons_of r e

-- the line of a race has the reasons of the next explanation
abbrev pub line_with : Recording → List Explanation → LineView → LineView
line_with r to_come (RacedView race) = RacedView (record race { explained = next_reasons r to_come race.explained })
line_with r to_come (RefusedView number step refusal) = RefusedView number step refusal
line_with r to_come (ShownView number word state) = ShownView number word state

-- and uses it up
abbrev pub left_after : List Explanation → LineView → List Explanation
left_after to_come (RacedView race) = drop 1 to_come
left_after to_come (RefusedView number step refusal) = to_come
left_after to_come (ShownView number word state) = to_come

-- each line in turn
unfoldable pub with_reasons : Recording → List Explanation → List LineView → List LineView
with_reasons r to_come [] = []
with_reasons r to_come (line ∷ lines) = line_with r to_come line ∷ with_reasons r (left_after to_come line) lines

-- the explanations that these lines leave
unfoldable pub left_by : List Explanation → List LineView → List Explanation
left_by to_come [] = to_come
left_by to_come (line ∷ lines) = left_by (left_after to_come line) lines

-- the line of a race has the next of these reasons, where some are left
abbrev pub next_told : List (List Because) → List Because → List Because
next_told [] reasons = reasons
next_told (told ∷ rest) reasons = told

abbrev pub line_told : List (List Because) → LineView → LineView
line_told to_come (RacedView race) = RacedView (record race { explained = next_told to_come race.explained })
line_told to_come (RefusedView number step refusal) = RefusedView number step refusal
line_told to_come (ShownView number word state) = ShownView number word state

-- and uses them up
abbrev pub told_left : List (List Because) → LineView → List (List Because)
told_left to_come (RacedView race) = drop 1 to_come
told_left to_come (RefusedView number step refusal) = to_come
told_left to_come (ShownView number word state) = to_come

-- each line in turn
unfoldable pub with_told : List (List Because) → List LineView → List LineView
with_told to_come [] = []
with_told to_come (line ∷ lines) = line_told to_come line ∷ with_told (told_left to_come line) lines

-- the lines with the reasons that were kept, if any are kept
abbrev pub lines_kept : Option Kept → List LineView → List LineView
lines_kept None lines = lines
lines_kept (Some kept) lines = with_told kept.told lines
