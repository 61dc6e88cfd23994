-- What the program leaves in its two writers.
use Rattle.std.specs.Prelude.{◌⊎◌, ℕ, Bool, true, false, List, Option, take, codes}
use Rattle.std.specs.Io.KnownBytes.{Appends, Keeps}
use Rattle.er_exit.specs.declared.faults.Fault.{Fault}
use Rattle.er_exit.specs.declared.faults.Fault.TheVariants.{Write, WriteRules}

-- the output got nothing before this fault, unless a write to it failed or the fault comes behind the whole report
abbrev pub LeavesOutput : Option (List ℕ) → Option (List ℕ) → Fault → Type 0
LeavesOutput old new Write = Unit {0}
LeavesOutput old new WriteRules = Unit {0}
LeavesOutput old new fault = Keeps old new

-- these bytes were written whole, or a beginning of them if a write failed
abbrev pub WritesBytes : Option (List ℕ) → Option (List ℕ) → List ℕ → Bool → Type 0
WritesBytes old new bytes false = Appends old new bytes
WritesBytes old new bytes true = (n : ℕ) × Appends old new (take n bytes)

-- the errors got this line, or without memory for it the line that says so
abbrev pub GetsLine : Option (List ℕ) → Option (List ℕ) → List ℕ → Bool → Type 0
GetsLine old new line failed = WritesBytes old new line failed ⊎ WritesBytes old new (codes "out of memory\n") failed
