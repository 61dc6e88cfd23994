-- Which answers are races, and where something holds.
use Rattle.std.specs.Prelude.{ℕ, zero, suc, Bool, true, false, cond, List, [], ◌∷◌, ◌++◌, Result, Ok, Err}
use Rattle.er_event.specs.declared.refusals.Refusal.{Refusal}
use Rattle.er_event.specs.declared.steps.Reply.{Reply}
use Rattle.er_event.specs.declared.steps.Reply.TheVariants.{Race}

-- the answer is a race
abbrev pub is_race : Result Reply Refusal → Bool
is_race (Ok Race) = true
is_race (Ok reply) = false
is_race (Err refusal) = false

-- the positions below n that pass the test, in order
unfoldable pub places_below : (ℕ → Bool) → ℕ → List ℕ
places_below test zero = []
places_below test (suc n) = places_below test n ++ cond (test n) (n ∷ []) []
