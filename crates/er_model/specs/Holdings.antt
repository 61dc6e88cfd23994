-- One thread's locks, interrupt level and ignore depth, and what one event makes of them.
use Rattle.std.specs.Prelude.{ℕ, ◌+◌, ◌-◌, ◌==◌, nat_le, not, cond, List, ◌++◌, filter, length, Option, Some, None}
use Rattle.er_event.specs.declared.steps.Event.{Event}
use Rattle.er_event.specs.declared.steps.Event.TheVariants.{Acquire, Release, Access, Reuse, IgnoreOn, IgnoreOff, Show, Level, Sync}
use Rattle.er_event.specs.declared.steps.Mode.TheVariants.{Read, Write}
use Rattle.er_event.specs.declared.refusals.Refusal.{Refusal}
use Rattle.er_event.specs.declared.refusals.Refusal.TheVariants.{AlreadyHeld, NotHeld, WrongMode, IgnoreNotOn, IgnoreTooDeep, HeldFull, LevelLock}
use Rattle.er_event.specs.declared.steps.Step.{Step}
use Rattle.er_event.specs.Lockset.{has, with_lock, without_lock, is_level_lock, level_locks}
use Rattle.er_model.specs.Threads.{level_of, held as held_after, write_held as write_held_after, depth as depth_after, refusal_if, accepted}

-- a thread's locks in any mode and those in write mode, both with the level locks of its level; its level; and its ignore depth
pub record Holdings : Type 0 where
  pub held : List ℕ
  pub write_held : List ℕ
  pub level : ℕ
  pub depth : ℕ

-- what the thread holds after these accepted steps
unfoldable pub holdings : List Step → ℕ → Holdings
holdings past t = record { held = held_after past t; write_held = write_held_after past t; level = level_of past t; depth = depth_after past t }

-- the locks of the list that are no level locks
unfoldable pub acquired_among : List ℕ → List ℕ
acquired_among locks = filter (λ l. not (is_level_lock l)) locks

-- the list with the level locks of this level in place of those that it had
abbrev pub at_level : ℕ → List ℕ → List ℕ
at_level n locks = acquired_among locks ++ level_locks n

-- why the event is refused, if it is
abbrev pub refused_by : Holdings → Event → Option Refusal
refused_by h (Acquire l m) = cond (is_level_lock l) (Some LevelLock) (cond (has h.held l) (Some AlreadyHeld) (refusal_if (nat_le 64 (length (acquired_among h.held))) HeldFull))
refused_by h (Release l Write) = cond (is_level_lock l) (Some LevelLock) (cond (has h.write_held l) None (cond (has h.held l) (Some WrongMode) (Some NotHeld)))
refused_by h (Release l Read) = cond (is_level_lock l) (Some LevelLock) (cond (has h.write_held l) (Some WrongMode) (cond (has h.held l) None (Some NotHeld)))
refused_by h IgnoreOn = refusal_if (nat_le 255 h.depth) IgnoreTooDeep
refused_by h IgnoreOff = refusal_if (h.depth == 0) IgnoreNotOn
refused_by h (Access kind w site) = None
refused_by h (Reuse range) = None
refused_by h (Show w) = None
refused_by h (Level n) = None
refused_by h (Sync sync) = None

-- what the event makes of them, where it is accepted
abbrev pub changed_by : Holdings → Event → Holdings
changed_by h (Acquire l Read) = record { held = with_lock l h.held; write_held = h.write_held; level = h.level; depth = h.depth }
changed_by h (Acquire l Write) = record { held = with_lock l h.held; write_held = with_lock l h.write_held; level = h.level; depth = h.depth }
changed_by h (Release l m) = record { held = without_lock l h.held; write_held = without_lock l h.write_held; level = h.level; depth = h.depth }
changed_by h IgnoreOn = record { held = h.held; write_held = h.write_held; level = h.level; depth = h.depth + 1 }
changed_by h IgnoreOff = record { held = h.held; write_held = h.write_held; level = h.level; depth = h.depth - 1 }
changed_by h (Level n) = record { held = at_level n h.held; write_held = at_level n h.write_held; level = n; depth = h.depth }
changed_by h (Sync sync) = h
changed_by h (Access kind w site) = h
changed_by h (Reuse range) = h
changed_by h (Show w) = h

-- changed where accepted, and the same where refused
abbrev pub changed_unless : Option Refusal → Holdings → Event → Holdings
changed_unless None h e = changed_by h e
changed_unless (Some why) h e = h

-- thread t's holdings after the step, which may be refused or another thread's
abbrev pub after_step : Holdings → ℕ → Step → Holdings
after_step h t step = cond (step.thread == t) (changed_unless (refused_by h step.event) h step.event) h

-- thread t's holdings after the first n steps
abbrev pub holdings_at : List Step → ℕ → ℕ → Holdings
holdings_at steps t n = holdings (accepted steps n) t

-- thread t's holdings at the end of the list
abbrev pub holdings_end : List Step → ℕ → Holdings
holdings_end steps t = holdings_at steps t (length steps)
