-- What an inspector of steps has, and the recordings that it stands for.
use Rattle.std.specs.Prelude.{ℕ, ◌≡◌, false, List, length, slice_index, Option}
use Rattle.er_event.specs.declared.steps.Step.{Step}
use Rattle.er_event.specs.Lockset.{has, is_level_lock}
use Rattle.er_held.specs.ThreadLocks.{held_by}
use Rattle.er_model.specs.Holdings.{Holdings, holdings_end}
use Rattle.er_damage.specs.Damage.{IsRefusedAt, IsHeldTwiceAt, IsFirstLine}
use Rattle.er_damage.specs.Counts.{IsCount}

-- what each thread holds, how many threads hold each lock, and to write, and the lines of the first refused step and the first by which a lock is held twice
pub record Inspected : Type 0 where
  pub threads : List Holdings
  pub holders : List ℕ
  pub writers : List ℕ
  pub refused : Option ℕ
  pub held_twice : Option ℕ

-- all that it has is true of these steps and their lines
pub record StandsFor (seen : Inspected) (steps : List Step) (lines : List ℕ) : Type 0 where
  pub threads : (t : ℕ) → held_by seen.threads t ≡ holdings_end steps t
  pub holders : (l : ℕ) → is_level_lock l ≡ false → IsCount (λ t. has (holdings_end steps t).held l) (slice_index seen.holders l)
  pub writers : (l : ℕ) → is_level_lock l ≡ false → IsCount (λ t. has (holdings_end steps t).write_held l) (slice_index seen.writers l)
  pub refused : IsFirstLine (IsRefusedAt steps) lines (length steps) seen.refused
  pub held_twice : IsFirstLine (IsHeldTwiceAt steps) lines (length steps) seen.held_twice
