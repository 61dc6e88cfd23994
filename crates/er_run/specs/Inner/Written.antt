-- What writing a report that was built leaves in the writer.
use Rattle.std.specs.Prelude.{ℕ, List, Option, Result, Ok, Err, take}
use Rattle.std.specs.Io.KnownBytes.{Appends, Keeps}
use Rattle.er_print.specs.declared.report.WriteFault.TheVariants as writing
use Rattle.er_run.specs.declared.fault.RunFault.{RunFault}
use Rattle.er_run.specs.declared.fault.RunFault.TheVariants.{Read, Write, Replay, Beyond, Memory, Damaged}

-- all of the text was written, or a beginning of it where a write failed, or nothing
abbrev pub WritesFound : {X : Type 0} → Option (List ℕ) → Option (List ℕ) → List ℕ → Result X RunFault → Type 0
WritesFound old new text (Ok x) = Appends old new text
WritesFound old new text (Err (Write writing.Memory)) = Keeps old new
WritesFound old new text (Err (Write writing.Write)) = (n : ℕ) × Appends old new (take n text)
WritesFound old new text (Err (Read fault)) = ⊥
WritesFound old new text (Err (Replay fault)) = ⊥
WritesFound old new text (Err (Beyond limit)) = ⊥
WritesFound old new text (Err Memory) = ⊥
WritesFound old new text (Err (Damaged damage)) = ⊥
