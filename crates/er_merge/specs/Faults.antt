-- Why reports can't be merged, in words, and the exit statuses.
use Rattle.std.specs.Prelude.{ℕ, List, codes}
use Rattle.er_merge.specs.declared.faults.LineFault.{LineFault}
use Rattle.er_merge.specs.declared.faults.LineFault.TheVariants.{NoPart, Foreign, CutOff, Stopped}
use Rattle.er_merge.specs.declared.faults.MergeFault.{MergeFault}
use Rattle.er_merge.specs.declared.faults.MergeFault.TheVariants.{Line, Other, Twice, Missing, CountsTooLarge, Memory}

-- what is wrong with a line, in words
abbrev pub line_text : LineFault → List ℕ
line_text NoPart = codes "no report of a part"
line_text Foreign = codes "no line of a report"
line_text CutOff = codes "cut off"
line_text Stopped = codes "stopped"

-- why reports are not merged, in words
abbrev pub text_of : MergeFault → List ℕ
text_of (Line number line fault) = line_text fault
text_of (Other number) = codes "another trace"
text_of (Twice part) = codes "given twice"
text_of (Missing part) = codes "missing"
text_of CountsTooLarge = codes "counts too large"
text_of Memory = codes "out of memory"

-- a text has a fault, or the texts do not fit together, or something could not be had
abbrev pub status_of : MergeFault → ℕ
status_of (Line number line Stopped) = 3
status_of (Line number line fault) = 2
status_of (Other number) = 2
status_of (Twice part) = 2
status_of (Missing part) = 2
status_of CountsTooLarge = 3
status_of Memory = 3
