-- What `eraser print` leaves.
use Rattle.std.specs.Prelude.{◌≡◌, ℕ, Bool, List, Option, Result, Ok, Err, take}
use Rattle.std.specs.Io.KnownBytes.{Appends, Keeps}
use Rattle.er_exit.specs.Lines.{fault_line}
use Rattle.er_exit.specs.Statuses.{fault_status}
use Rattle.er_exit.specs.Writes.{GetsLine}
use Rattle.er_exit.specs.declared.faults.Fault.{Fault}
use Rattle.er_exit.specs.declared.faults.Fault.TheVariants.{Read, Write}
use Rattle.eraser.specs.Stories.{FailsOutput}

-- the output got the whole text, or a beginning of it if a read or a write failed; there is no other fault
abbrev pub WritesText : {X : Type 0} → List ℕ → Option (List ℕ) → Option (List ℕ) → Result X Fault → Type 0
WritesText text old new (Ok x) = Appends old new text
WritesText text old new (Err Read) = (n : ℕ) × Appends old new (take n text)
WritesText text old new (Err Write) = (n : ℕ) × Appends old new (take n text)
WritesText text old new (Err fault) = ⊥

-- the status is 0 behind the whole text, and nothing went to the errors; or it is that of a failed read or write, which the errors got the line of
abbrev pub EndsPrint : {X : Type 0} → Option (List ℕ) → Option (List ℕ) → Bool → ℕ → Result X Fault → Type 0
EndsPrint old new failed status (Ok x) = (status ≡ 0) × Keeps old new
EndsPrint old new failed status (Err why) = (status ≡ fault_status why) × GetsLine old new (fault_line why) failed

-- what it leaves on the output and the errors, and its exit status. The output has failed if and only if its fault says so
pub record PrintsTo (text : List ℕ) (written : Bool) (old new : Option (List ℕ)) (errors_old errors_new : Option (List ℕ)) (failed : Bool) (status : ℕ) : Type 0 where
  pub ended : Result ℕ Fault
  pub output : WritesText text old new ended
  pub device : FailsOutput written ended
  pub ends : EndsPrint errors_old errors_new failed status ended
