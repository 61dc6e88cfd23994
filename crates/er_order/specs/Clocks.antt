-- Vector clocks. A thread's own count rises only when its clock flows into another one, so the steps between two such share an epoch.
use Rattle.std.specs.Prelude.{ℕ, zero, suc, ◌+◌, max, ◌==◌, nat_le, Bool, true, false, ◌&&◌, ◌||◌, cond, Option, Some, None}
use Rattle.er_event.specs.declared.steps.Mode.{Mode}
use Rattle.er_event.specs.declared.steps.Mode.TheVariants.{Read, Write}
use Rattle.er_model.specs.Threads.{same_mode}
use Rattle.er_order.specs.Order.{Effect, Acquired, Released, Started, Joined, Signalled, Awaited, Act, Acts, starts, joins}

-- what has a clock: a thread, a lock for its releases in a mode, an object
pub data Keeper : Type 0 where
  OfThread : (thread : ℕ) → Keeper
  OfReleases : (lock : ℕ) → (mode : Mode) → Keeper
  OfObject : (object : ℕ) → Keeper

-- for each of these, the count of each thread up to which it knows that thread's steps
abbrev pub Clocks : Type 0
Clocks = Keeper → ℕ → ℕ

-- the clock is thread t's
abbrev pub is_own : Keeper → ℕ → Bool
is_own (OfThread thread) t = thread == t
is_own (OfReleases lock mode) t = false
is_own (OfObject object) t = false

-- the clock is that of lock l for its releases in mode m
abbrev pub is_of_releases : Keeper → ℕ → Mode → Bool
is_of_releases (OfReleases lock mode) l m = l == lock && same_mode m mode
is_of_releases (OfThread thread) l m = false
is_of_releases (OfObject object) l m = false

-- the clock is that of object x
abbrev pub is_of_object : Keeper → ℕ → Bool
is_of_object (OfObject object) x = x == object
is_of_object (OfThread thread) x = false
is_of_object (OfReleases lock mode) x = false

-- a release of the lock in the mode
abbrev pub gives_up : Effect → ℕ → Mode → Bool
gives_up (Released lock mode) l m = lock == l && same_mode mode m
gives_up _ l m = false

-- a signal of the object
abbrev pub signals : Effect → ℕ → Bool
signals (Signalled object) x = object == x
signals _ x = false

-- the step puts what it knows into the clock
unfoldable pub gives : Act → Keeper → Bool
gives a (OfThread t) = a.thread == t || starts a.sync t
gives a (OfReleases l m) = gives_up a.sync l m
gives a (OfObject x) = signals a.sync x

-- by this effect a thread's knowledge goes into another clock than its own
abbrev pub publishes : Effect → Bool
publishes (Released lock mode) = true
publishes (Started thread) = true
publishes (Signalled object) = true
publishes _ = false

-- thread t's clock flows into another one
unfoldable pub flows : Act → ℕ → Bool
flows a t = (a.thread == t && publishes a.sync) || joins a.sync t

-- what the step finds in other clocks than its thread's own
abbrev pub found : Clocks → Effect → ℕ → ℕ
found clocks (Acquired lock Read) t = clocks (OfReleases lock Write) t
found clocks (Acquired lock Write) t = max (clocks (OfReleases lock Write) t) (clocks (OfReleases lock Read) t)
found clocks (Joined thread) t = clocks (OfThread thread) t
found clocks (Awaited object) t = clocks (OfObject object) t
found clocks _ t = 0

-- what the step knows
unfoldable pub seen : Clocks → Act → ℕ → ℕ
seen clocks a t = max (clocks (OfThread a.thread) t) (found clocks a.sync t)

-- the greater count if the step puts what it knows into the clock, and one more if the clock flows into another one
abbrev pub raised : Bool → Bool → ℕ → ℕ → ℕ
raised given flowed before known = cond given (max before known) before + cond flowed 1 0

-- the clocks after a step
abbrev pub clocks_after : Clocks → Option Act → Clocks
clocks_after clocks None keeper t = clocks keeper t
clocks_after clocks (Some a) keeper t = raised (gives a keeper) (is_own keeper t && flows a t) (clocks keeper t) (seen clocks a t)

-- the clocks at point n; each thread's own count begins at 1
unfoldable pub clocks_at : Acts → ℕ → Clocks
clocks_at acts zero keeper t = cond (is_own keeper t) 1 0
clocks_at acts (suc n) keeper t = clocks_after (clocks_at acts n) (acts n) keeper t

-- thread t's own count at point n
unfoldable pub own_count : Acts → ℕ → ℕ → ℕ
own_count acts n t = clocks_at acts n (OfThread t) t

-- a thread and a count of its own
abbrev pub Epoch : Type 0
Epoch = ℕ × ℕ

-- the clock has the thread's count, or a greater one
abbrev pub covers : (ℕ → ℕ) → Epoch → Bool
covers clock epoch = nat_le epoch.1 (clock epoch.0)
