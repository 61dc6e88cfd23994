-- The lines that the program writes by itself, to the byte: that of a fault, and that of a demo.
use Rattle.std.specs.Prelude.{ℕ, ◌++◌, List, [], Option, Some, None, codes, decimal}
use Rattle.er_clock.specs.NoTick.{limit_text}
use Rattle.er_damage.specs.declared.damage.Damage.{Damage}
use Rattle.er_event.specs.Refusal.{text_of as refusal_text}
use Rattle.er_settle.specs.Texts.{text_of as unsettled_text}
use Rattle.er_lines.specs.Faults.{text_of as kind_text}
use Rattle.er_text.specs.declared.endings.Lost.{Lost}
use Rattle.er_merge.specs.Faults.{text_of as merge_text}
use Rattle.er_merge.specs.declared.faults.MergeFault.TheVariants as merging
use Rattle.er_exit.specs.declared.faults.Fault.{Fault}
use Rattle.er_exit.specs.declared.faults.Fault.TheVariants.{Arguments, Text, Suppressions, Damaged, NoStep, Memory, TableFull, Beyond, OpenTrace, NoFile, OpenSuppressions, Read, ReadSuppressions, Write, WriteRules, Refused, WorkerNotStarted, WorkerLost, Unsettled, Merging, OpenReport, ReadReport}

-- a fault in words
abbrev pub text_of : Fault → List ℕ
text_of Arguments = codes "the arguments are not text"
text_of (Text fault) = kind_text fault.kind
text_of (Suppressions file fault) = kind_text fault.kind
text_of (Damaged damage) = codes "damaged trace"
text_of (NoStep line) = codes "no step"
text_of Memory = codes "out of memory"
text_of TableFull = codes "table full"
text_of (Beyond limit) = limit_text limit
text_of OpenTrace = codes "cannot open trace"
text_of NoFile = codes "a part needs ordinary files"
text_of (OpenSuppressions file) = codes "cannot open suppressions"
text_of Read = codes "read fault"
text_of (ReadSuppressions file) = codes "read fault"
text_of Write = codes "write fault"
text_of WriteRules = codes "cannot write rules"
text_of (Refused why) = refusal_text why
text_of WorkerNotStarted = codes "worker not started"
text_of WorkerLost = codes "worker lost"
text_of (Unsettled why) = unsettled_text why
text_of (Merging fault) = merge_text fault
text_of (OpenReport file) = codes "cannot open report"
text_of (ReadReport file) = codes "read fault"

-- the line of one kind of damage, where there is some
abbrev pub damage_line : Option ℕ → List ℕ → List ℕ
damage_line None text = []
damage_line (Some line) text = codes "line " ++ (decimal line ++ (codes ": " ++ (text ++ codes "\n")))

-- the line of lost events, where there are some
abbrev pub lost_line : Option Lost → List ℕ
lost_line None = []
lost_line (Some lost) = codes "line " ++ (decimal lost.line ++ (codes ": events lost: " ++ (decimal lost.events ++ codes "\n")))

-- a line for each kind of damage that a trace has, in this order
abbrev pub damage_lines : Damage → List ℕ
damage_lines damage =
    damage_line damage.refused (codes "refused step") ++ (damage_line damage.held_twice (codes "lock held twice")
    ++ (damage_line damage.no_line_feed (codes "no line feed") ++ (damage_line damage.no_end (codes "no end") ++ lost_line damage.lost)))

-- a fault's line: a text's fault has the number of its line, and so has a line without a step, a fault of one of several files of suppressions the number of the file, and a
-- demo's refusal or settling fault says what it is
abbrev pub fault_line : Fault → List ℕ
fault_line (Text fault) = codes "line " ++ (decimal fault.line ++ (codes ": " ++ (kind_text fault.kind ++ codes "\n")))
fault_line (Suppressions None fault) = codes "suppressions line " ++ (decimal fault.line ++ (codes ": " ++ (kind_text fault.kind ++ codes "\n")))
fault_line (Suppressions (Some file) fault) =
    codes "suppressions file " ++ (decimal file ++ (codes " line " ++ (decimal fault.line ++ (codes ": " ++ (kind_text fault.kind ++ codes "\n")))))
fault_line (Damaged damage) = damage_lines damage
fault_line (NoStep line) = codes "line " ++ (decimal line ++ codes ": no step\n")
fault_line (OpenSuppressions None) = codes "cannot open suppressions\n"
fault_line (OpenSuppressions (Some file)) = codes "cannot open suppressions file " ++ (decimal file ++ codes "\n")
fault_line (ReadSuppressions file) = codes "read fault in suppressions file " ++ (decimal file ++ codes "\n")
fault_line (Merging (merging.Line file line fault)) =
    codes "report file " ++ (decimal file ++ (codes " line " ++ (decimal line ++ (codes ": " ++ (merge_text (merging.Line file line fault) ++ codes "\n")))))
fault_line (Merging (merging.Other file)) = codes "report file " ++ (decimal file ++ codes ": another trace\n")
fault_line (Merging (merging.Twice part)) = codes "part " ++ (decimal part ++ codes " given twice\n")
fault_line (Merging (merging.Missing part)) = codes "part " ++ (decimal part ++ codes " missing\n")
fault_line (OpenReport file) = codes "cannot open report file " ++ (decimal file ++ codes "\n")
fault_line (ReadReport file) = codes "read fault in report file " ++ (decimal file ++ codes "\n")
fault_line (Refused why) = codes "refused: " ++ (refusal_text why ++ codes "\n")
fault_line (Unsettled why) = codes "unsettled: " ++ (unsettled_text why ++ codes "\n")
fault_line fault = text_of fault ++ codes "\n"

-- the line of a demo: its name, how many steps its threads made, and how many races there were
abbrev pub demo_line : List ℕ → ℕ → ℕ → List ℕ
demo_line name steps races = name ++ (codes ": steps " ++ (decimal steps ++ (codes ", races " ++ (decimal races ++ codes "\n"))))
