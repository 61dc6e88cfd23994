-- Which fault of the program stands for a fault of a replay.
use Rattle.er_exit.specs.Faults.{trace_fault}
use Rattle.er_exit.specs.declared.faults.Fault.{Fault}
use Rattle.er_exit.specs.declared.faults.Fault.TheVariants.{Damaged, Memory, TableFull, Beyond, Write, WorkerNotStarted, WorkerLost}
use Rattle.er_parallel.specs.declared.config.ReplayFault.TheVariants as replaying
use Rattle.er_print.specs.declared.report.WriteFault.TheVariants as writing
use Rattle.er_run.specs.declared.fault.RunFault.{RunFault}
use Rattle.er_run.specs.declared.fault.RunFault.TheVariants as running

-- a fault of a replay
abbrev pub replay_fault : RunFault → Fault
replay_fault (running.Read fault) = trace_fault fault
replay_fault (running.Write writing.Memory) = Memory
replay_fault (running.Write writing.Write) = Write
replay_fault (running.Replay replaying.Memory) = Memory
replay_fault (running.Replay replaying.TableFull) = TableFull
replay_fault (running.Replay replaying.WorkerNotStarted) = WorkerNotStarted
replay_fault (running.Replay replaying.WorkerLost) = WorkerLost
replay_fault (running.Beyond limit) = Beyond limit
replay_fault running.Memory = Memory
replay_fault (running.Damaged damage) = Damaged damage
