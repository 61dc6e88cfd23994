-- The faults of workers, and that of all of them.
use Rattle.std.specs.Prelude.{◌≡◌, ◌⊎◌, ◌<◌, ◌≤◌, ℕ, List, length, slice_get, Option, Some, IfSome}
use Rattle.er_event.specs.declared.refusals.NoRoom.TheVariants.{TableFull}
use Rattle.er_event.specs.declared.steps.Step.{Step}
use Rattle.er_parallel.specs.Faults.{AsksForSet, fault_of}
use Rattle.er_parallel.specs.declared.config.ReplayFault.{ReplayFault}
use Rattle.er_parallel.specs.declared.config.ReplayFault.TheVariants.{Memory}
use Rattle.er_parallel.specs.declared.worker.WorkFault.{WorkFault}
use Rattle.er_parallel.specs.declared.worker.Worker.{Worker}

-- the table is full only if a step of the list asks it for a set
abbrev pub MayBeFull : List Step → WorkFault → Type 0
MayBeFull steps fault = fault.cause ≡ TableFull → AsksForSet steps

-- the fault of the lesser shard, or the other fault if both have the same shard
abbrev pub IsLesser : Option WorkFault → WorkFault → WorkFault → Type 0
IsLesser known other given = ((given ≡ other) × IfSome known (λ k. other.shard ≤ k.shard)) ⊎ ((known ≡ Some given) × (given.shard < other.shard))

-- worker i has the fault
pub record HasFault (workers : List Worker) (i : ℕ) (fault : WorkFault) : Type 0 where
  pub worker : Worker
  pub there : slice_get workers i ≡ Some worker
  pub is : worker.fault ≡ Some fault

-- none of the first n workers has a fault
abbrev pub NoFaultBelow : ℕ → List Worker → Type 0
NoFaultBelow n workers = (i : ℕ) (fault : WorkFault) → i < n → HasFault workers i fault → ⊥

-- it is a worker's fault, and among the first n workers none has the fault of a lesser shard, and none after it that of the same
pub record IsLeastFault (n : ℕ) (workers : List Worker) (fault : WorkFault) : Type 0 where
  pub at : ℕ
  pub there : HasFault workers at fault
  pub least : (i : ℕ) (other : WorkFault) → i < n → HasFault workers i other → (fault.shard < other.shard) ⊎ ((fault.shard ≡ other.shard) × (i ≤ at))

-- the fault of the least shard that has one, or a want of memory if no worker has a fault
abbrev pub IsFaultOf : List Worker → ReplayFault → Type 0
IsFaultOf workers given = ((fault : WorkFault) × (IsLeastFault (length workers) workers fault × (given ≡ fault_of fault.cause))) ⊎ (NoFaultBelow (length workers) workers × (given ≡ Memory))
