-- What writing a report leaves in the writer.
use Rattle.std.specs.Prelude.{◌≡◌, ℕ, Bool, true, false, List, take, Option, Result, Ok, Err}
use Rattle.std.specs.Io.KnownBytes.{Keeps, Appends}
use Rattle.er_print.specs.declared.report.WriteFault.{WriteFault}
pub use Rattle.er_print.specs.declared.report.WriteFault.TheVariants.{Memory, Write}

-- all of the text was written, or nothing for want of memory, or a prefix where a write failed
abbrev pub WritesReport : {X : Type 0} → Option (List ℕ) → Option (List ℕ) → List ℕ → Result X WriteFault → Type 0
WritesReport old new text (Ok x) = Appends old new text
WritesReport old new text (Err Memory) = Keeps old new
WritesReport old new text (Err Write) = (n : ℕ) × Appends old new (take n text)

-- a fault of the writer is told exactly where it failed
abbrev pub FailsWriting : {X : Type 0} → Bool → Result X WriteFault → Type 0
FailsWriting failed (Ok x) = failed ≡ false
FailsWriting failed (Err Memory) = failed ≡ false
FailsWriting failed (Err Write) = failed ≡ true
