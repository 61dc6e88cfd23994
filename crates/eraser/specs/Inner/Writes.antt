-- What writing leaves on the output.
use Rattle.std.specs.Prelude.{ℕ, List, take, Option, Result, Ok, Err}
use Rattle.std.specs.Io.KnownBytes.{Appends, Keeps}
use Rattle.er_exit.specs.declared.faults.Fault.{Fault}
use Rattle.er_exit.specs.declared.faults.Fault.TheVariants as fault

-- some such bytes were written, or a beginning of them where a write failed, or nothing for want of memory; there is no other fault
abbrev pub WritesSome : {X : Type 0} → (List ℕ → Type 0) → Option (List ℕ) → Option (List ℕ) → Result X Fault → Type 0
WritesSome Are old new (Ok x) = (bytes : List ℕ) × Are bytes × Appends old new bytes
WritesSome Are old new (Err fault.Write) = (bytes : List ℕ) × Are bytes × ((n : ℕ) × Appends old new (take n bytes))
WritesSome Are old new (Err fault.Memory) = Keeps old new
WritesSome Are old new (Err other) = ⊥
