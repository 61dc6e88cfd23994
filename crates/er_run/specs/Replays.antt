-- What a whole replay by the lockset rule comes to, from the bytes read to the bytes written.
use Rattle.std.specs.Prelude.{◌≡◌, ℕ, nat_lt, Bool, true, false, cond, List, take, Option, Some, None, IfSome, Result, Ok, Err}
use Rattle.std.specs.Io.KnownBytes.{Appends, Keeps}
use Rattle.er_batch.specs.Runs.{IsRunOf}
use Rattle.er_batch.specs.declared.verdict.Verdict.{Verdict}
use Rattle.er_batch.specs.declared.verdict.Verdict.TheVariants as verdict
use Rattle.er_journal.specs.declared.answers.Stopped.{Stopped}
use Rattle.er_parts.specs.Parts.{PartView}
use Rattle.er_print.specs.Printed.{report_text}
use Rattle.er_print.specs.declared.report.WriteFault.TheVariants as writing
use Rattle.er_report.specs.Report.{report_of}
use Rattle.er_report.specs.declared.reports.Analysis.TheVariants.{Lockset}
use Rattle.er_rules.specs.Rules.{Target}
use Rattle.er_run.specs.Faults.{IsFaultOfText}
use Rattle.er_run.specs.Reports.{report_with}
use Rattle.er_run.specs.declared.fault.RunFault.{RunFault}
use Rattle.er_run.specs.declared.fault.RunFault.TheVariants.{Read, Write, Replay, Beyond, Memory, Damaged}
use Rattle.er_text.specs.Ending.{lost_told}
use Rattle.er_trace.specs.Trace.{Recording}

-- stopped where the run stopped, and else whether a race is printed
abbrev pub verdict_of : Recording → List Target → Bool → Option Stopped → Verdict
verdict_of recording rules explain (Some stop) = verdict.Stopped
verdict_of recording rules explain None = cond (nat_lt 0 (report_of recording rules explain None).races) verdict.Races verdict.Clean

-- the bytes of what a part gives of the report of a run over the steps of this text
abbrev pub output_of : Option PartView → List ℕ → Recording → List Target → Bool → Option Stopped → List ℕ
output_of part text recording rules explain stop = report_text recording.names (report_with part (lost_told text) recording rules explain stop)

-- the text is a trace, and what was written is the whole report of a run of it, or of a part of it, under these rules, with reasons or without
pub record IsReplayed (part : Option PartView) (text : List ℕ) (limit : ℕ) (rules : List Target) (explain : Bool) (old new : Option (List ℕ)) (told : Verdict) : Type 0 where
  pub recording : Recording
  pub stop : Option Stopped
  pub run : IsRunOf part text limit recording stop
  pub written : Appends old new (output_of part text recording rules explain stop)
  pub verdict : told ≡ verdict_of recording rules explain stop

-- the text is a trace, and what was written is the beginning of the report of a run of it, or of a part of it, under these rules
pub record IsBegun (part : Option PartView) (text : List ℕ) (limit : ℕ) (rules : List Target) (explain : Bool) (old new : Option (List ℕ)) : Type 0 where
  pub recording : Recording
  pub stop : Option Stopped
  pub count : ℕ
  pub run : IsRunOf part text limit recording stop
  pub written : Appends old new (take count (output_of part text recording rules explain stop))

-- where there is a fault: a failed write left a beginning of the report, and another fault is one from before a byte was written
abbrev pub IsFailed : Option PartView → Option (List ℕ) → ℕ → List Target → Bool → Option (List ℕ) → Option (List ℕ) → Result Verdict RunFault → Type 0
IsFailed part told limit rules explain old new (Ok verdict) = Unit {0}
IsFailed part told limit rules explain old new (Err (Write writing.Memory)) = Unit {0}
IsFailed part told limit rules explain old new (Err (Write writing.Write)) = IfSome told (λ text. IsBegun part text limit rules explain old new)
IsFailed part told limit rules explain old new (Err (Read fault)) = IsFaultOfText part Lockset told limit (Read fault)
IsFailed part told limit rules explain old new (Err (Replay fault)) = IsFaultOfText part Lockset told limit (Replay fault)
IsFailed part told limit rules explain old new (Err (Beyond beyond)) = IsFaultOfText part Lockset told limit (Beyond beyond)
IsFailed part told limit rules explain old new (Err Memory) = IsFaultOfText part Lockset told limit Memory
IsFailed part told limit rules explain old new (Err (Damaged damage)) = IsFaultOfText part Lockset told limit (Damaged damage)

-- nothing was written, unless a write failed
abbrev pub WritesNothing : Option (List ℕ) → Option (List ℕ) → RunFault → Type 0
WritesNothing old new (Read fault) = Keeps old new
WritesNothing old new (Write writing.Memory) = Keeps old new
WritesNothing old new (Write writing.Write) = Unit {0}
WritesNothing old new (Replay fault) = Keeps old new
WritesNothing old new (Beyond limit) = Keeps old new
WritesNothing old new Memory = Keeps old new
WritesNothing old new (Damaged damage) = Keeps old new

-- the replay stopped for want of room
abbrev pub is_stopped : Verdict → Bool
is_stopped verdict.Stopped = true
is_stopped verdict.Races = false
is_stopped verdict.Clean = false
