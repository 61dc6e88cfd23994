-- What the words of a line say, one behind another: a value, or the first fault.
use Rattle.std.proofs.Common.{◌≡◌, ℕ, Bool, true, not, List, [], ◌∷◌, Option, Some, None, Result, Ok, Err, unwrap_or, refl}
use Rattle.std.specs.Option.{is_some}
use Rattle.er_lines.specs.declared.faults.TextKind.{TextKind}
use Rattle.er_lines.specs.declared.faults.TextKind.TheVariants.{BadNumber}
use Rattle.er_lines.specs.Lines.{has_bytes}
use Rattle.er_lines.specs.Number.{number_of}
use Rattle.er_lines.specs.Words.{and_then, map_ok, or_fault}
use Rattle.er_lines.specs.FirstFault.{first_kind}

abbrev pub fault_of : {X : Type 0} → Result X TextKind → Option TextKind
fault_of (Ok x) = None
fault_of (Err k) = Some k

pub fault_of-map : {X Y : Type 0} (f : X → Y) (r : Result X TextKind) → fault_of (map_ok f r) ≡ fault_of r
fault_of-map f (Ok x) = refl
fault_of-map f (Err k) = refl

-- what follows a number
pub number_faults : {X : Type 0} (r : Option ℕ) (rows : ℕ → List (Bool × TextKind)) (f : ℕ → Result X TextKind) → ((n : ℕ) → first_kind (rows n) ≡ fault_of (f n))
    → first_kind ((not (is_some r), BadNumber) ∷ rows (unwrap_or r 0)) ≡ fault_of (and_then (or_fault BadNumber r) f)
number_faults None rows f more = refl
number_faults (Some n) rows f more = more n

pub mapped : {X Y : Type 0} (f : X → Y) (r : Result X TextKind) (y : Y) → map_ok f r ≡ Ok y → (x : X) × (r ≡ Ok x) × (f x ≡ y)
mapped f (Ok x) y e = (x, refl, cc)
mapped f (Err k) y e = absurd (cc)

pub bound : {X Y : Type 0} (f : X → Result Y TextKind) (r : Result X TextKind) (y : Y) → and_then r f ≡ Ok y → (x : X) × (r ≡ Ok x) × (f x ≡ Ok y)
bound f (Ok x) y e = (x, refl, e)
bound f (Err k) y e = absurd (cc)

pub number_found : (r : Option ℕ) (n : ℕ) → or_fault BadNumber r ≡ Ok n → r ≡ Some n
number_found None n e = absurd (cc)
number_found (Some m) n e = cc

pub some_number : (word : List ℕ) (n : ℕ) → number_of word ≡ Some n → has_bytes word ≡ true
some_number [] n e = absurd (cc)
some_number (x ∷ xs) n e = refl
