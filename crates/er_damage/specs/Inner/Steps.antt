-- What one step makes of what an inspector has.
use Rattle.std.specs.Prelude.{ℕ, ◌≡◌, ◌+◌, ◌-◌, ◌==◌, nat_lt, Bool, false, cond, List, slice_index, Option, Some, None, is_some}
use Rattle.er_event.specs.declared.refusals.Refusal.{Refusal}
use Rattle.er_event.specs.declared.steps.Event.{Event}
use Rattle.er_event.specs.declared.steps.Event.TheVariants.{Acquire, Release}
use Rattle.er_event.specs.declared.steps.Mode.TheVariants.{Read, Write}
use Rattle.er_event.specs.declared.steps.Step.{Step}
use Rattle.er_held.specs.ThreadLocks.{held_by}
use Rattle.er_model.specs.Holdings.{refused_by, after_step}
use Rattle.er_damage.specs.Standing.{Inspected}

-- how many hold lock l after an accepted event, of those that hold it in any mode
abbrev pub holders_after : Event → ℕ → ℕ → ℕ
holders_after (Acquire lock m) l n = cond (lock == l) (n + 1) n
holders_after (Release lock m) l n = cond (lock == l) (n - 1) n
holders_after _ l n = n

-- and of those that hold it to write
abbrev pub writers_after : Event → ℕ → ℕ → ℕ
writers_after (Acquire lock Write) l n = cond (lock == l) (n + 1) n
writers_after (Release lock Write) l n = cond (lock == l) (n - 1) n
writers_after _ l n = n

-- a refused event changes nothing
abbrev pub unless_refused : Option Refusal → ℕ → ℕ → ℕ
unless_refused None after before = after
unless_refused (Some why) after before = before

-- somebody holds the lock that an accepted event takes, and not both hold it to read only
abbrev pub doubles : List ℕ → List ℕ → Event → Bool
doubles holders writers (Acquire lock Read) = nat_lt 0 (slice_index writers lock)
doubles holders writers (Acquire lock Write) = nat_lt 0 (slice_index holders lock)
doubles holders writers _ = false

-- a refused event takes no lock
abbrev pub doubles_unless : Option Refusal → Bool → Bool
doubles_unless None found = found
doubles_unless (Some why) found = false

-- the line that was found before, or else this one where the test holds
abbrev pub found_line : Option ℕ → Bool → ℕ → Option ℕ
found_line (Some found) test line = Some found
found_line None test line = cond test (Some line) None

-- it has what the step at this line makes of what it had
pub record Follows (before : Inspected) (step : Step) (line : ℕ) (after : Inspected) : Type 0 where
  pub threads : (t : ℕ) → held_by after.threads t ≡ after_step (held_by before.threads t) t step
  pub holders : (l : ℕ) → slice_index after.holders l ≡
      unless_refused (refused_by (held_by before.threads step.thread) step.event) (holders_after step.event l (slice_index before.holders l)) (slice_index before.holders l)
  pub writers : (l : ℕ) → slice_index after.writers l ≡
      unless_refused (refused_by (held_by before.threads step.thread) step.event) (writers_after step.event l (slice_index before.writers l)) (slice_index before.writers l)
  pub refused : after.refused ≡ found_line before.refused (is_some (refused_by (held_by before.threads step.thread) step.event)) line
  pub held_twice : after.held_twice ≡
      found_line before.held_twice (doubles_unless (refused_by (held_by before.threads step.thread) step.event) (doubles before.holders before.writers step.event)) line
