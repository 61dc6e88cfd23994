-- Which fault of the program stands for a fault of a text or of a demo.
use Rattle.std.specs.Prelude.{ℕ, Option, Some, None}
use Rattle.er_load.specs.declared.workloads.LoadFault.{LoadFault}
use Rattle.er_load.specs.declared.workloads.LoadFault.TheVariants as load
use Rattle.er_merge.specs.declared.faults.MergeFault.{MergeFault}
use Rattle.er_merge.specs.declared.faults.MergeFault.TheVariants as merging
use Rattle.er_lines.specs.declared.faults.ReadFault.{ReadFault}
use Rattle.er_lines.specs.declared.faults.ReadFault.TheVariants as reading
use Rattle.er_exit.specs.declared.faults.Fault.{Fault}
use Rattle.er_exit.specs.declared.faults.Fault.TheVariants.{Text, Suppressions, Memory, Read, ReadSuppressions, Refused, WorkerNotStarted, WorkerLost, Unsettled, Merging}

-- a fault in reading the trace
abbrev pub trace_fault : ReadFault → Fault
trace_fault (reading.Text fault) = Text fault
trace_fault reading.Memory = Memory
trace_fault reading.Read = Read

-- a fault in reading the suppressions, of several files the one of this number
abbrev pub rules_fault : Option ℕ → ReadFault → Fault
rules_fault file (reading.Text fault) = Suppressions file fault
rules_fault file reading.Memory = Memory
rules_fault None reading.Read = Read
rules_fault (Some file) reading.Read = ReadSuppressions file

-- a fault of a demo
abbrev pub demo_fault : LoadFault → Fault
demo_fault (load.Refused why) = Refused why
demo_fault load.WorkerNotStarted = WorkerNotStarted
demo_fault load.WorkerLost = WorkerLost
demo_fault (load.Unsettled why) = Unsettled why

-- a fault of merging reports
abbrev pub merge_fault : MergeFault → Fault
merge_fault merging.Memory = Memory
merge_fault fault = Merging fault
