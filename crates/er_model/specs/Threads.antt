-- What a list of steps means to one thread: which steps were accepted, its locks with their modes, its interrupt level and its ignore depth.
use Rattle.std.specs.Prelude.{ℕ, zero, suc, ◌-◌, ◌==◌, nat_le, nat_lt, Bool, true, false, not, ◌&&◌, ◌||◌, cond, List, [], ◌∷◌, ◌++◌, length, filter, count_by, slice_get, Option, Some, None}
use Rattle.std.specs.List.{list_any}
use Rattle.er_event.specs.declared.steps.Event.{Event}
use Rattle.er_event.specs.declared.steps.Event.TheVariants.{Acquire, Release, Access, Reuse, IgnoreOn, IgnoreOff, Show, Level, Sync}
use Rattle.er_event.specs.declared.steps.Mode.{Mode}
use Rattle.er_event.specs.declared.steps.Mode.TheVariants.{Read, Write}
use Rattle.er_event.specs.declared.refusals.Refusal.{Refusal}
use Rattle.er_event.specs.declared.refusals.Refusal.TheVariants.{AlreadyHeld, NotHeld, WrongMode, IgnoreNotOn, IgnoreTooDeep, HeldFull, LevelLock}
use Rattle.er_event.specs.declared.steps.Step.{Step}
use Rattle.er_event.specs.Lockset.{with_lock, level_lock, is_level_lock, level_locks}

-- the modes are the same
abbrev pub same_mode : Mode → Mode → Bool
same_mode Read Read = true
same_mode Write Write = true
same_mode _ _ = false

-- the mode that this one isn't
abbrev pub other_mode : Mode → Mode
other_mode Read = Write
other_mode Write = Read

-- an acquire of the lock in the mode
abbrev pub is_acquire : Event → ℕ → Mode → Bool
is_acquire (Acquire lock mode) l m = lock == l && same_mode mode m
is_acquire _ l m = false

-- a release of the lock, in whichever mode it says
abbrev pub is_release : Event → ℕ → Bool
is_release (Release lock mode) l = lock == l
is_release _ l = false

-- an ignore-on
abbrev pub is_ignore_on : Event → Bool
is_ignore_on IgnoreOn = true
is_ignore_on _ = false

-- an ignore-off
abbrev pub is_ignore_off : Event → Bool
is_ignore_off IgnoreOff = true
is_ignore_off _ = false

-- the step acquires the lock for the thread in the mode
unfoldable pub acquires : ℕ → ℕ → Mode → Step → Bool
acquires t l m step = step.thread == t && is_acquire step.event l m

-- the step gives up the lock for the thread
unfoldable pub releases : ℕ → ℕ → Step → Bool
releases t l step = step.thread == t && is_release step.event l

-- among accepted steps, some acquire of the lock by the thread in the mode has no release of it by the thread behind it
unfoldable pub acquired : List Step → ℕ → ℕ → Mode → Bool
acquired [] t l m = false
acquired (step ∷ later) t l m = (acquires t l m step && not (list_any (releases t l) later)) || acquired later t l m

-- the level after an event of a thread that stood at this one
abbrev pub level_after : ℕ → Event → ℕ
level_after level (Level n) = n
level_after level _ = level

-- the thread's level after the steps, where it was this one before them
unfoldable pub level_from : ℕ → List Step → ℕ → ℕ
level_from level [] t = level
level_from level (step ∷ later) t = level_from (cond (step.thread == t) (level_after level step.event) level) later t

-- the thread's level: the number in its last accepted level event, or 0
unfoldable pub level_of : List Step → ℕ → ℕ
level_of past t = level_from 0 past t

-- the lock is one of level locks 1 to n
abbrev pub is_up_to_level : ℕ → ℕ → Bool
is_up_to_level n l = is_level_lock l && nat_le l (level_lock n)

-- it has acquired the lock in the mode and not released it, or the mode is write and the lock is a level lock of its level
unfoldable pub holds : List Step → ℕ → ℕ → Mode → Bool
holds past t l m = acquired past t l m || (same_mode m Write && is_up_to_level (level_of past t) l)

-- the thread has acquired the lock in one of the modes, and not released it since
abbrev pub acquired_any : List Step → ℕ → ℕ → Bool
acquired_any past t l = acquired past t l Read || acquired past t l Write

-- the thread holds the lock in one of the modes, be it acquired or a lock of its level
abbrev pub holds_any : List Step → ℕ → ℕ → Bool
holds_any past t l = holds past t l Read || holds past t l Write

-- with the lock that the event acquires, if it is an acquire
abbrev pub lock_named : Event → List ℕ → List ℕ
lock_named (Acquire l m) locks = with_lock l locks
lock_named _ locks = locks

-- the locks that the steps acquire, each once, in rising order
unfoldable pub named : List Step → List ℕ
named [] = []
named (step ∷ later) = lock_named step.event (named later)

-- the locks that the thread has acquired, in rising order
unfoldable pub acquired_locks : List Step → ℕ → List ℕ
acquired_locks past t = filter (acquired_any past t) (named past)

-- those that it has acquired in write mode
unfoldable pub acquired_to_write : List Step → ℕ → List ℕ
acquired_to_write past t = filter (λ l. acquired past t l Write) (named past)

-- the thread's locks, in rising order: those that it has acquired, and then the level locks of its level
unfoldable pub held : List Step → ℕ → List ℕ
held past t = acquired_locks past t ++ level_locks (level_of past t)

-- those that it holds in write mode
unfoldable pub write_held : List Step → ℕ → List ℕ
write_held past t = acquired_to_write past t ++ level_locks (level_of past t)

-- how many of the steps open an ignore bracket of the thread
abbrev pub ignore_ons : List Step → ℕ → ℕ
ignore_ons past t = count_by (λ step. step.thread == t && is_ignore_on step.event) past

-- how many of the steps close one
abbrev pub ignore_offs : List Step → ℕ → ℕ
ignore_offs past t = count_by (λ step. step.thread == t && is_ignore_off step.event) past

-- the thread's ignore depth
unfoldable pub depth : List Step → ℕ → ℕ
depth past t = ignore_ons past t - ignore_offs past t

-- the thread is ignoring: its depth is above 0
abbrev pub is_ignoring : List Step → ℕ → Bool
is_ignoring past t = nat_lt 0 (depth past t)

-- refused so where the test holds
abbrev pub refusal_if : Bool → Refusal → Option Refusal
refusal_if true refusal = Some refusal
refusal_if false refusal = None

-- why the thread's event is refused after these accepted steps, if it is
unfoldable pub refusal : List Step → ℕ → Event → Option Refusal
refusal past t (Acquire l m) = cond (is_level_lock l) (Some LevelLock) (cond (holds_any past t l) (Some AlreadyHeld) (refusal_if (nat_le 64 (length (acquired_locks past t))) HeldFull))
refusal past t (Release l m) = cond (is_level_lock l) (Some LevelLock) (cond (holds past t l m) None (cond (holds past t l (other_mode m)) (Some WrongMode) (Some NotHeld)))
refusal past t IgnoreOn = refusal_if (nat_le 255 (depth past t)) IgnoreTooDeep
refusal past t IgnoreOff = refusal_if (depth past t == 0) IgnoreNotOn
refusal past t (Access kind w site) = None
refusal past t (Reuse range) = None
refusal past t (Show w) = None
refusal past t (Level n) = None
refusal past t (Sync sync) = None

-- the step alone, or nothing where it is refused
abbrev pub kept_unless : Option Refusal → Step → List Step
kept_unless None step = step ∷ []
kept_unless (Some refusal) step = []

-- what the step at a position adds to the accepted ones
abbrev pub accepted_of : List Step → Option Step → List Step
accepted_of past None = []
accepted_of past (Some step) = kept_unless (refusal past step.thread step.event) step

-- the accepted steps before point n
unfoldable pub accepted : List Step → ℕ → List Step
accepted steps zero = []
accepted steps (suc n) = accepted steps n ++ accepted_of (accepted steps n) (slice_get steps n)
