-- The faults of a replay: their words, when each may come, and which of the reader and the writer has failed.
use Rattle.std.specs.Prelude.{◌≡◌, ◌⊎◌, ◌&&◌, ℕ, Bool, true, false, IsTrue, List, codes, Option, Some, IfSome, is_some, is_none, Result, Ok, Err}
use Rattle.er_clock.specs.declared.clock.NoTick.{NoTick}
use Rattle.er_clock.specs.declared.clock.NoTick.TheVariants as order
use Rattle.er_batch.specs.Runs.{IsPartOf, IsRunOf}
use Rattle.er_batch.specs.declared.options.Options.{Options}
use Rattle.er_clock.specs.Crowding.{BeyondIn}
use Rattle.er_clock.specs.NoTick.{limit_text}
use Rattle.er_clock.specs.declared.clock.Limit.{Limit}
use Rattle.er_damage.specs.Damaged.{IsDamageOf, has_damage}
use Rattle.er_damage.specs.declared.damage.Damage.{Damage}
use Rattle.er_event.specs.declared.refusals.NoRoom.{NoRoom}
use Rattle.er_event.specs.declared.refusals.NoRoom.TheVariants as room
use Rattle.er_journal.specs.declared.answers.Stopped.{Stopped}
use Rattle.er_parallel.specs.Faults.{AsksForSet}
use Rattle.er_parallel.specs.declared.config.ReplayFault.{ReplayFault}
use Rattle.er_parallel.specs.declared.config.ReplayFault.TheVariants as replaying
use Rattle.er_parts.specs.Parts.{PartView}
use Rattle.er_print.specs.declared.report.WriteFault.TheVariants as writing
use Rattle.er_report.specs.Reports.{asks_order}
use Rattle.er_report.specs.declared.reports.Analysis.{Analysis}
use Rattle.er_report.specs.declared.reports.Analysis.TheVariants.{Lockset, HappensBefore, Both}
use Rattle.er_run.specs.declared.fault.RunFault.{RunFault}
use Rattle.er_run.specs.declared.fault.RunFault.TheVariants.{Read, Write, Replay, Beyond, Memory, Damaged}
use Rattle.er_text.specs.Trace.{IsTrace, IsFault}
use Rattle.er_lines.specs.declared.faults.ReadFault.TheVariants as reading
use Rattle.er_trace.specs.Trace.{Recording}

-- a fault in words
abbrev pub text_of : RunFault → List ℕ
text_of (Read fault) = codes "the trace was not read"
text_of (Write fault) = codes "the report was not written"
text_of (Replay fault) = codes "the trace was not replayed"
text_of (Beyond limit) = limit_text limit
text_of Memory = codes "out of memory"
text_of (Damaged damage) = codes "the trace is damaged"

-- what a replay that has no outcome comes to; a want of memory is one wherever it is met
abbrev pub fault_of : ReplayFault → RunFault
fault_of replaying.Memory = Memory
fault_of replaying.TableFull = Replay replaying.TableFull
fault_of replaying.WorkerNotStarted = Replay replaying.WorkerNotStarted
fault_of replaying.WorkerLost = Replay replaying.WorkerLost

-- what a stop of the lockset rule comes to beside another report
abbrev pub fault_of_room : NoRoom → RunFault
fault_of_room room.TableFull = Replay replaying.TableFull
fault_of_room room.JournalFull = Memory
fault_of_room room.OutOfMemory = Memory

-- what a stop of happens-before comes to
abbrev pub fault_of_stop : NoTick → RunFault
fault_of_stop (order.Beyond limit) = Beyond limit
fault_of_stop order.OutOfMemory = Memory

-- damage is looked for, which only a replay of the whole trace does
abbrev pub looks_for_damage : Options → Bool
looks_for_damage options = options.strict && is_none options.part

-- the text is a trace, and some step of it, or of the part, asks the table for a set of locks
pub record HasStepForSet (part : Option PartView) (text : List ℕ) (limit : ℕ) : Type 0 where
  pub recording : Recording
  pub trace : IsPartOf part text limit recording
  pub asks : AsksForSet recording.steps

-- the text is a trace, and the lockset rule stops at a step of it that may want this room
pub record StopsFor (part : Option PartView) (text : List ℕ) (limit : ℕ) (room : NoRoom) : Type 0 where
  pub recording : Recording
  pub stop : Stopped
  pub run : IsRunOf part text limit recording (Some stop)
  pub cause : stop.cause ≡ room

-- the text is a trace, and one of its steps, or of the part's, may be beyond this limit of the clocks
pub record HasStepBeyond (part : Option PartView) (beyond : Limit) (text : List ℕ) (limit : ℕ) : Type 0 where
  pub recording : Recording
  pub trace : IsPartOf part text limit recording
  pub full : BeyondIn beyond recording.steps

-- a part of the text is replayed, which stops at a step that may want a set for which the table has no room
abbrev pub StopsPart : Option PartView → List ℕ → ℕ → Type 0
StopsPart part text limit = (is_some part ≡ true) × StopsFor part text limit room.TableFull

-- the table is full: for workers if a step asks it for a set, and for a part or beside another report if a step may want a set that it has no room for
abbrev pub MayFill : Option PartView → Analysis → Option (List ℕ) → ℕ → Type 0
MayFill part Lockset told limit = IfSome told (λ text. HasStepForSet part text limit ⊎ StopsPart part text limit)
MayFill part HappensBefore told limit = ⊥
MayFill part Both told limit = IfSome told (λ text. StopsFor part text limit room.TableFull)

-- a worker isn't started: of a text that is a trace, and by the lockset rule alone
abbrev pub MayNotStart : Analysis → Option (List ℕ) → ℕ → Type 0
MayNotStart Lockset told limit = IfSome told (λ text. (r : Recording) × IsTrace text limit r)
MayNotStart HappensBefore told limit = ⊥
MayNotStart Both told limit = ⊥

-- a fault of the answers to a text that is a trace: a want of memory has a fault of its own, and no worker is lost
abbrev pub IsReplayFault : Option PartView → Analysis → Option (List ℕ) → ℕ → ReplayFault → Type 0
IsReplayFault part analysis told limit replaying.Memory = ⊥
IsReplayFault part analysis told limit replaying.TableFull = MayFill part analysis told limit
IsReplayFault part analysis told limit replaying.WorkerNotStarted = MayNotStart analysis told limit
IsReplayFault part analysis told limit replaying.WorkerLost = ⊥

-- the text is a trace, and this is its damage, of which it has some
abbrev pub IsFoundDamage : Option (List ℕ) → ℕ → Damage → Type 0
IsFoundDamage told limit damage = IfSome told (λ text. IsDamageOf text limit damage) × (has_damage damage ≡ true)

-- nothing was written yet: a fault of the text is its first, a full table and a worker that isn't started are as above, a limit of clocks is
-- one of happens-before at a step, and damage is that of the text; of a part it is a step of the part
abbrev pub IsFaultOfText : Option PartView → Analysis → Option (List ℕ) → ℕ → RunFault → Type 0
IsFaultOfText part analysis told limit (Read (reading.Text fault)) = IfSome told (λ text. IsFault text limit fault)
IsFaultOfText part analysis told limit (Read reading.Memory) = Unit {0}
IsFaultOfText part analysis told limit (Read reading.Read) = Unit {0}
IsFaultOfText part analysis told limit (Write fault) = ⊥
IsFaultOfText part analysis told limit (Replay fault) = IsReplayFault part analysis told limit fault
IsFaultOfText part analysis told limit (Beyond beyond) = IsTrue (asks_order analysis) × IfSome told (λ text. HasStepBeyond part beyond text limit)
IsFaultOfText part analysis told limit Memory = Unit {0}
IsFaultOfText part analysis told limit (Damaged damage) = IsFoundDamage told limit damage

-- the reader failed exactly where a failed read is told, and the writer exactly where a failed write is
abbrev pub FailsBy : {X : Type 0} → Bool → Bool → Result X RunFault → Type 0
FailsBy read written (Ok x) = (read ≡ false) × (written ≡ false)
FailsBy read written (Err (Read (reading.Text fault))) = (read ≡ false) × (written ≡ false)
FailsBy read written (Err (Read reading.Memory)) = (read ≡ false) × (written ≡ false)
FailsBy read written (Err (Read reading.Read)) = (read ≡ true) × (written ≡ false)
FailsBy read written (Err (Write writing.Memory)) = (read ≡ false) × (written ≡ false)
FailsBy read written (Err (Write writing.Write)) = (read ≡ false) × (written ≡ true)
FailsBy read written (Err (Replay fault)) = (read ≡ false) × (written ≡ false)
FailsBy read written (Err (Beyond limit)) = (read ≡ false) × (written ≡ false)
FailsBy read written (Err Memory) = (read ≡ false) × (written ≡ false)
FailsBy read written (Err (Damaged damage)) = (read ≡ false) × (written ≡ false)

-- the fault is no damage
abbrev pub IsNoDamage : RunFault → Type 0
IsNoDamage (Damaged damage) = ⊥
IsNoDamage (Read fault) = Unit {0}
IsNoDamage (Write fault) = Unit {0}
IsNoDamage (Replay fault) = Unit {0}
IsNoDamage (Beyond limit) = Unit {0}
IsNoDamage Memory = Unit {0}

-- the fault is one of reading: the text wasn't read, it is damaged, or memory was refused
abbrev pub IsOfReading : RunFault → Type 0
IsOfReading (Read fault) = Unit {0}
IsOfReading (Damaged damage) = Unit {0}
IsOfReading Memory = Unit {0}
IsOfReading (Write fault) = ⊥
IsOfReading (Replay fault) = ⊥
IsOfReading (Beyond limit) = ⊥

-- the fault is one of reading, or the table is full
abbrev pub IsOfOneWorker : RunFault → Type 0
IsOfOneWorker (Read fault) = Unit {0}
IsOfOneWorker (Damaged damage) = Unit {0}
IsOfOneWorker Memory = Unit {0}
IsOfOneWorker (Replay replaying.TableFull) = Unit {0}
IsOfOneWorker (Replay replaying.Memory) = ⊥
IsOfOneWorker (Replay replaying.WorkerNotStarted) = ⊥
IsOfOneWorker (Replay replaying.WorkerLost) = ⊥
IsOfOneWorker (Write fault) = ⊥
IsOfOneWorker (Beyond limit) = ⊥
