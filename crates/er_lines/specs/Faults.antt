-- The faults of texts in words.
use Rattle.std.specs.Prelude.{◌≡◌, ℕ, Bool, true, false, List, Result, Ok, Err, codes}
use Rattle.er_lines.specs.declared.faults.ReadFault.{ReadFault}
use Rattle.er_lines.specs.declared.faults.ReadFault.TheVariants as fault
use Rattle.er_lines.specs.declared.faults.TextKind.{TextKind}
use Rattle.er_lines.specs.declared.faults.TextKind.TheVariants.{LineTooLong, TextTooLong, NotAscii, NoHeader, BadName, MissingOperand, BadVerb, ExtraOperand, BadNumber, SizeTooLarge, AddressOutOfRange, LevelTooHigh, OwnThread, AlreadyRunning, AfterEnd}

-- a fault in words, as it is printed
abbrev pub text_of : TextKind → List ℕ
text_of LineTooLong = codes "line too long"
text_of TextTooLong = codes "text too long"
text_of NotAscii = codes "not ascii"
text_of NoHeader = codes "no header"
text_of BadName = codes "bad name"
text_of MissingOperand = codes "missing operand"
text_of BadVerb = codes "bad verb"
text_of ExtraOperand = codes "extra operand"
text_of BadNumber = codes "bad number"
text_of SizeTooLarge = codes "size too large"
text_of AddressOutOfRange = codes "address out of range"
text_of LevelTooHigh = codes "level too high"
text_of OwnThread = codes "own thread"
text_of AlreadyRunning = codes "already running"
text_of AfterEnd = codes "after end"

-- a fault of the reader is told exactly where it failed
abbrev pub HasFailedBy : {X : Type 0} → Bool → Result X ReadFault → Type 0
HasFailedBy failed (Ok x) = failed ≡ false
HasFailedBy failed (Err (fault.Text f)) = failed ≡ false
HasFailedBy failed (Err fault.Memory) = failed ≡ false
HasFailedBy failed (Err fault.Read) = failed ≡ true
