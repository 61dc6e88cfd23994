-- The lists of steps that clocks stand for, and what one more step makes of them.
use Rattle.std.specs.Prelude.{ℕ, ◌≡◌, Bool, true, false, List, length, Option, Some, None, is_none}
use Rattle.er_event.specs.declared.steps.Mode.TheVariants.{Read, Write}
use Rattle.er_model.specs.Holdings.{refused_by, holdings_at}
use Rattle.er_event.specs.declared.steps.Step.{Step}
use Rattle.er_order.specs.Order.{Act, sync_of, acts_of}
use Rattle.er_order.specs.Clocks.{Keeper, OfThread, OfReleases, OfObject, clocks_after, clocks_at}
use Rattle.er_clock.specs.Table.{known_by}
use Rattle.er_clock.specs.Counts.{ClockMap, known_to}

-- the clocks of threads, of locks for their releases in write mode and in read mode, and of objects
pub record ClockMaps : Type 0 where
  pub threads : ClockMap
  pub written : ClockMap
  pub read : ClockMap
  pub objects : ClockMap

-- the count of thread u that a thread, the releases of a lock in a mode, or an object knows
abbrev pub counts : ClockMaps → Keeper → ℕ → ℕ
counts maps (OfThread t) u = known_to maps.threads t u
counts maps (OfReleases l Write) u = known_by maps.written l u
counts maps (OfReleases l Read) u = known_by maps.read l u
counts maps (OfObject x) u = known_by maps.objects x u

-- no clock has another count than it had
abbrev pub SameCounts : ClockMaps → ClockMaps → Type 0
SameCounts before after = (k : Keeper) (u : ℕ) → counts after k u ≡ counts before k u

-- the clocks are those that the definitions give after the act
abbrev pub Moves : ClockMaps → Option Act → ClockMaps → Type 0
Moves before act after = (k : Keeper) (u : ℕ) → counts after k u ≡ clocks_after (counts before) act k u

-- what the step does: nothing if it is refused
abbrev pub act_if : Bool → Step → Option Act
act_if true step = Some (record { thread = step.thread; sync = sync_of step.event })
act_if false step = None

-- the clocks are those that the definitions give at the end of the list
abbrev pub StandsForClocksOf : ClockMaps → List Step → Type 0
StandsForClocksOf maps steps = (k : Keeper) (u : ℕ) → counts maps k u ≡ clocks_at (acts_of steps) (length steps) k u

-- the step isn't refused if it comes after the list
abbrev pub is_accepted : List Step → Step → Bool
is_accepted steps step = is_none (refused_by (holdings_at steps step.thread (length steps)) step.event)
