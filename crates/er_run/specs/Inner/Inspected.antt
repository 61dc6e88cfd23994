-- What a strict replay has seen of a text so far.
use Rattle.std.specs.Prelude.{◌≡◌, ℕ, Bool, true, List, length, Option, Some, None, IfSome, is_some}
use Rattle.er_damage.specs.Damaged.{IsDamageOf, no_damage}
use Rattle.er_damage.specs.Standing.{Inspected, StandsFor}
use Rattle.er_damage.specs.declared.damage.Damage.{Damage}
use Rattle.er_event.specs.declared.steps.Step.{Step}
use Rattle.er_run.specs.Faults.{IsFoundDamage}
use Rattle.er_trace.specs.Trace.{Recording}

-- an inspector, if there is one, stands for these steps and their lines
abbrev pub HaveSeen : Option Inspected → List Step → List ℕ → Type 0
HaveSeen None past lines = Unit {0}
HaveSeen (Some seen) past lines = StandsFor seen past lines

-- a strict replay, and no other, has an inspector, which has seen the recording's steps
pub record IsInspected (seen : Option Inspected) (wanted : Bool) (r : Recording) : Type 0 where
  pub strict : is_some seen ≡ wanted
  pub even : length r.lines ≡ length r.steps
  pub stands : HaveSeen seen r.steps r.lines

-- what a strict replay has found; another finds nothing
abbrev pub HasFound : Option (List ℕ) → ℕ → Bool → Option Damage → Type 0
HasFound told limit strict None = strict ≡ true → IfSome told (λ text. IsDamageOf text limit no_damage)
HasFound told limit strict (Some damage) = (strict ≡ true) × IsFoundDamage told limit damage
