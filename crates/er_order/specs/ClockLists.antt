-- Clocks as lists: the count of thread u stands in place u, and past the end all counts are 0.
use Rattle.std.specs.Prelude.{ℕ, zero, suc, ◌≡◌, max, cond, List, [], ◌∷◌, get_or, Option, Some, None}
use Rattle.er_event.specs.declared.steps.Mode.TheVariants.{Read, Write}
use Rattle.er_order.specs.Order.{Effect, Acquired, Joined, Awaited, Act}
use Rattle.er_order.specs.Clocks.{Keeper, OfThread, OfReleases, OfObject, Clocks, gives, flows}

-- of each thread the greater count
unfoldable pub merged : List ℕ → List ℕ → List ℕ
merged [] ys = ys
merged (x ∷ xs) [] = x ∷ xs
merged (x ∷ xs) (y ∷ ys) = max x y ∷ merged xs ys

-- the thread's count is one more
unfoldable pub ticked : ℕ → List ℕ → List ℕ
ticked zero [] = 1 ∷ []
ticked zero (x ∷ xs) = suc x ∷ xs
ticked (suc u) [] = 0 ∷ ticked u []
ticked (suc u) (x ∷ xs) = x ∷ ticked u xs

-- a list for each clock
abbrev pub ClockLists : Type 0
ClockLists = Keeper → List ℕ

-- what the step finds in other clocks than its thread's own
abbrev pub found_list : ClockLists → Effect → List ℕ
found_list lists (Acquired lock Read) = lists (OfReleases lock Write)
found_list lists (Acquired lock Write) = merged (lists (OfReleases lock Write)) (lists (OfReleases lock Read))
found_list lists (Joined thread) = lists (OfThread thread)
found_list lists (Awaited object) = lists (OfObject object)
found_list lists _ = []

-- a thread's own count goes up if its clock flows into another one
abbrev pub ticked_if : Act → Keeper → List ℕ → List ℕ
ticked_if a (OfThread t) xs = cond (flows a t) (ticked t xs) xs
ticked_if a (OfReleases l m) xs = xs
ticked_if a (OfObject x) xs = xs

-- the lists after a step
abbrev pub lists_after : ClockLists → Option Act → ClockLists
lists_after lists None c = lists c
lists_after lists (Some a) c = ticked_if a c (cond (gives a c) (merged (lists c) (merged (lists (OfThread a.thread)) (found_list lists a.sync))) (lists c))

-- the lists are the clocks
abbrev pub StandForClocks : ClockLists → Clocks → Type 0
StandForClocks lists clocks = (c : Keeper) (u : ℕ) → get_or (lists c) u 0 ≡ clocks c u
