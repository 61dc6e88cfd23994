-- Whoever knows a step of a thread knows it from a step by that thread, or from one that joins it.
use Rattle.std.proofs.Common.{◌≡◌, ℕ, zero, suc, ◌<◌, ◌≤◌, max, ◌==◌, Bool, true, false, ◌&&◌, ◌||◌, cond, List, length, Option, Some, None, ⊎_elim, inl, ◌⊎◌, refl, sym, subst, arith}
use Rattle.er_event.specs.declared.steps.Mode.TheVariants.{Read, Write}
use Rattle.er_event.specs.declared.steps.Step.{Step}
use Rattle.er_order.specs.Order.{Effect, Acquired, Released, Started, Joined, Signalled, Awaited, Local, Act, Acts, joins, acts_of}
use Rattle.er_order.specs.Clocks.{Keeper, OfThread, OfReleases, OfObject, is_own, gives, flows, found, seen, raised, clocks_after, clocks_at}
use Rattle.er_clock.specs.declared.clock.Limit.{Limit}
use Rattle.er_clock.specs.declared.clock.Limit.TheVariants as kind
use Rattle.er_clock.specs.Crowding.{takes_part, HasLater, HasLaterFor, IsBeyond, BeyondIn}

-- a count that is more than 0 was so before, or was found
from_parts : (g : Bool) (x y : ℕ) → 0 < raised g false x y → (0 < x) ⊎ (0 < y)
from_parts true x y some = grind (arith, some)
from_parts false x y some = inl (omega (arith, some))

of_two : (x y : ℕ) → 0 < max x y → (0 < x) ⊎ (0 < y)
of_two x y some = grind (arith, some)

neither : (x y : Bool) → (x || y) ≡ false → (x ≡ false) × (y ≡ false)
neither false false e = (refl, refl)
neither true y e = absurd (let never = e in cc)
neither false true e = absurd (let never = e in cc)

no_flow : (b c : Bool) → b ≡ false → (b && c) ≡ false
no_flow false c e = refl
no_flow true c e = absurd (let never = e in cc)

module _ (acts : Acts) (u : ℕ) where
  -- a step before point n is by the thread, or joins it
  abbrev Told : ℕ → Type 0
  Told n = (m : ℕ) × (m < n) × (takes_part (acts m) u ≡ true)

  abbrev AllTold : ℕ → Type 0
  AllTold n = (k : Keeper) → is_own k u ≡ false → 0 < clocks_at acts n k u → Told n

  sooner : (n : ℕ) → Told n → Told (suc n)
  sooner n t = let low = t.1 in (t.0, omega (arith, low), t.2)

  in_found : (n : ℕ) (before : AllTold n) (d : Effect) → joins d u ≡ false → 0 < found (clocks_at acts n) d u → Told n
  in_found n before (Acquired l Read) apart some = before (OfReleases l Write) refl some
  in_found n before (Acquired l Write) apart some =
      ⊎_elim (λ x. before (OfReleases l Write) refl x) (λ y. before (OfReleases l Read) refl y) (of_two (clocks_at acts n (OfReleases l Write) u) (clocks_at acts n (OfReleases l Read) u) some)
  in_found n before (Joined t) apart some = before (OfThread t) apart some
  in_found n before (Awaited x) apart some = before (OfObject x) refl some
  in_found n before (Released _ _) apart some = absurd (omega (arith, some))
  in_found n before (Started _) apart some = absurd (omega (arith, some))
  in_found n before (Signalled _) apart some = absurd (omega (arith, some))
  in_found n before Local apart some = absurd (omega (arith, some))

  in_seen : (n : ℕ) (before : AllTold n) (a : Act) → takes_part (Some a) u ≡ false → 0 < seen (clocks_at acts n) a u → Told n
  unfolding seen
  in_seen n before a apart some =
      let other = neither (a.thread == u) (joins a.sync u) apart in
      ⊎_elim (λ x. before (OfThread a.thread) other.0 x) (λ y. in_found n before a.sync other.1 y) (of_two (clocks_at acts n (OfThread a.thread) u) (found (clocks_at acts n) a.sync u) some)

  step : (n : ℕ) (before : AllTold n) (k : Keeper) → is_own k u ≡ false → (o : Option Act) → acts n ≡ o → 0 < clocks_after (clocks_at acts n) o k u → Told (suc n)
  step n before k other None at some = sooner n (before k other some)
  step n before k other (Some a) at some = by (takes_part (Some a) u) refl
    where
      flowed : 0 < raised (gives a k) false (clocks_at acts n k u) (seen (clocks_at acts n) a u)
      flowed = subst (λ (f : Bool). 0 < raised (gives a k) f (clocks_at acts n k u) (seen (clocks_at acts n) a u)) (no_flow (is_own k u) (flows a u) other) some

      by : (b : Bool) → takes_part (Some a) u ≡ b → Told (suc n)
      by true here = (n, omega arith, subst (λ (o : Option Act). takes_part o u ≡ true) (sym at) here)
      by false apart = sooner n (⊎_elim (λ x. before k other x) (λ y. in_seen n before a apart y) (from_parts (gives a k) (clocks_at acts n k u) (seen (clocks_at acts n) a u) flowed))

  told : (n : ℕ) → AllTold n
  unfolding clocks_at
  told zero k other some = absurd (let none = subst (λ (b : Bool). 0 < cond b 1 0) other some in omega (arith, none))
  told (suc n) k other some = step n (told n) k other (acts n) refl some

-- a thread that knows a step of a later one
later_of : (acts : Acts) (n u : ℕ) (a : Act) → acts n ≡ Some a → 128 ≤ u → 0 < clocks_at acts n (OfThread a.thread) u → HasLater acts n
later_of acts n u a at high some = by (a.thread == u) refl
  where
    by : (b : Bool) → (a.thread == u) ≡ b → HasLater acts n
    by true same = (n, u, omega arith, high, subst (λ (o : Option Act). takes_part o u ≡ true) (sym at) (subst (λ (b : Bool). (b || joins a.sync u) ≡ true) (sym same) refl))
    by false other = let t = told acts u n (OfThread a.thread) other some in let low = t.1 in (t.0, u, omega (arith, low), high, t.2)

later_at : (acts : Acts) (n : ℕ) (o : Option Act) → acts n ≡ o → IsBeyond kind.Clocks (clocks_at acts n) o → HasLater acts n
later_at acts n None at is = absurd (let never = is.0 in cc)
later_at acts n (Some a) at is = later_of acts n is.1.0 a at is.1.1 is.1.2

later_for : (limit : Limit) (acts : Acts) (n : ℕ) → IsBeyond limit (clocks_at acts n) (acts n) → HasLaterFor limit acts n
later_for kind.Clocks acts n is = later_at acts n (acts n) refl is
later_for kind.Count acts n is = tt
later_for kind.Threads acts n is = tt

-- a step of a list that may be beyond a limit
pub beyond_at : (limit : Limit) (steps : List Step) (at : ℕ) → at < length steps → IsBeyond limit (clocks_at (acts_of steps) at) (acts_of steps at) → BeyondIn limit steps
beyond_at limit steps at within is = record { at = at; within = within; beyond = is; later = later_for limit (acts_of steps) at is }
