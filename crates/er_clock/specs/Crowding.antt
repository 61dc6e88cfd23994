-- The limits of clocks. Threads of a trace are numbered as they appear, and clocks have room for those with the numbers below 65,536.
use Rattle.std.specs.Prelude.{ℕ, ◌≡◌, ◌<◌, ◌≤◌, ◌-◌, ◌^◌, ◌==◌, nat_le, Bool, true, false, ◌||◌, IsTrue, List, length, Option, Some, None, IfSome}
use Rattle.er_clock.specs.declared.clock.Limit.{Limit}
use Rattle.er_clock.specs.declared.clock.Limit.TheVariants as limit
use Rattle.er_event.specs.declared.steps.Step.{Step}
use Rattle.er_order.specs.Clocks.{Clocks, OfThread, flows, clocks_at}
use Rattle.er_order.specs.Order.{Effect, Started, Joined, Local, Act, Acts, joins, acts_of}

-- the thread comes after the first 65,536
abbrev pub is_late : ℕ → Bool
is_late t = nat_le 65536 t

-- what thread t does to the order is done by a late thread, or starts or joins one
abbrev pub crowds_by : ℕ → Effect → Bool
crowds_by t Local = false
crowds_by t (Started other) = is_late t || is_late other
crowds_by t (Joined other) = is_late t || is_late other
crowds_by t _ = is_late t

-- the act is done by a late thread, or starts or joins one; a refused step does nothing
abbrev pub crowds : Option Act → Bool
crowds None = false
crowds (Some a) = crowds_by a.thread a.sync

-- the act makes thread t's clock flow into another one
abbrev pub act_flows : Option Act → ℕ → Bool
act_flows None t = false
act_flows (Some a) t = flows a t

-- what is done orders threads
abbrev pub orders_by : Effect → Bool
orders_by Local = false
orders_by _ = true

-- the act orders threads; a refused step orders none
abbrev pub orders : Option Act → Bool
orders None = false
orders (Some a) = orders_by a.sync

-- the act's thread knows a step of a thread after the first 128
abbrev pub KnowsLater : Clocks → Option Act → Type 0
KnowsLater clocks act = IfSome act (λ a. (u : ℕ) × (128 ≤ u) × (0 < clocks (OfThread a.thread) u))

-- the act may be beyond the limit of these clocks: a count that would rise is the greatest, the act crowds, or it orders threads and its thread knows a
-- later one
abbrev pub IsBeyond : Limit → Clocks → Option Act → Type 0
IsBeyond limit.Count clocks act = (t : ℕ) × IsTrue (act_flows act t) × (clocks (OfThread t) t ≡ 2 ^ 32 - 1)
IsBeyond limit.Threads clocks act = IsTrue (crowds act)
IsBeyond limit.Clocks clocks act = IsTrue (orders act) × KnowsLater clocks act

-- thread t does the act, or is joined by it
abbrev pub takes_part : Option Act → ℕ → Bool
takes_part None t = false
takes_part (Some a) t = a.thread == t || joins a.sync t

-- at this point or before it, a thread after the first 128 does an accepted step, or is joined
abbrev pub HasLater : Acts → ℕ → Type 0
HasLater acts n = (m t : ℕ) × (m ≤ n) × (128 ≤ t) × (takes_part (acts m) t ≡ true)

-- clocks are too large only where that is so; the other limits ask nothing of earlier steps
abbrev pub HasLaterFor : Limit → Acts → ℕ → Type 0
HasLaterFor limit.Clocks acts n = HasLater acts n
HasLaterFor _ acts n = Unit {0}

-- one of the steps may be beyond this limit of the clocks, as they are when it is taken
pub record BeyondIn (limit : Limit) (steps : List Step) : Type 0 where
  pub at : ℕ
  pub within : at < length steps
  pub beyond : IsBeyond limit (clocks_at (acts_of steps) at) (acts_of steps at)
  pub later : HasLaterFor limit (acts_of steps) at
