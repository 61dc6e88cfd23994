-- What the exit statuses of demos and faults mean.
use Rattle.std.specs.Prelude.{ℕ, cond, nat_lt}
use Rattle.er_merge.specs.Faults.{status_of}
use Rattle.er_exit.specs.declared.faults.Fault.{Fault}
use Rattle.er_exit.specs.declared.faults.Fault.TheVariants.{Arguments, Text, Suppressions, Damaged, NoStep, Memory, TableFull, Beyond, OpenTrace, NoFile, OpenSuppressions, Read, ReadSuppressions, Write, WriteRules, Refused, WorkerNotStarted, WorkerLost, Unsettled, Merging, OpenReport, ReadReport}

-- behind a demo: whether it made a race
abbrev pub demo_status : ℕ → ℕ
demo_status races = cond (nat_lt 0 races) 1 0

-- where there is no result: the arguments or a text have a fault, or a trace is damaged and its replay strict, or no step is on the line that was asked for, something could not be had, or a file could not be opened, read or
-- written
abbrev pub fault_status : Fault → ℕ
fault_status Arguments = 2
fault_status (Text fault) = 2
fault_status (Suppressions file fault) = 2
fault_status (Damaged damage) = 2
fault_status (NoStep line) = 2
fault_status Memory = 3
fault_status TableFull = 3
fault_status (Beyond limit) = 3
fault_status (Refused why) = 3
fault_status WorkerNotStarted = 3
fault_status WorkerLost = 3
fault_status (Unsettled why) = 3
fault_status (Merging fault) = status_of fault
fault_status OpenTrace = 4
fault_status NoFile = 4
fault_status (OpenSuppressions file) = 4
fault_status Read = 4
fault_status (ReadSuppressions file) = 4
fault_status (OpenReport file) = 4
fault_status (ReadReport file) = 4
fault_status Write = 4
fault_status WriteRules = 4
