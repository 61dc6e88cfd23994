-- How notes of who took a lock's clock go through calls.
use Rattle.std.proofs.Common.{◌≡◌, ◌∙◌, ◌≤◌, ◌+◌, ◌&&◌, ◌==◌, ℕ, max, Bool, true, false, cond, List, Option, refl, ap, arith}
use Rattle.std.proofs.lemmas.Bool.{eqb-true}
use Rattle.er_clock.specs.Table.{known_by}
use Rattle.er_clock.specs.Counts.{ClockMap, known_to}
use Rattle.er_clock.specs.Inner.Taken.{HasTaken, KnowTheirs}
use Rattle.er_clock.specs.declared.takers.Taken.{Taken}

abbrev Slots : Type 0
Slots = List (Option Taken)

-- a thread gives what it knows to a lock of which nothing is noted any longer
pub know_given : (threads after locks given : ClockMap) (old new : Slots) (lock gone thread : ℕ) → gone ≡ lock →
    ((n u : ℕ) → known_by given n u ≡ cond (lock == n) (max (known_by locks n u) (known_to threads thread u)) (known_by locks n u)) →
    ((t u : ℕ) → known_to after t u ≡ known_to threads t u + cond (t == thread && thread == u) 1 0) →
    ((l t : ℕ) → HasTaken new l t → (gone ≡ l → ⊥) × HasTaken old l t) → KnowTheirs threads locks old → KnowTheirs after given new
know_given threads after locks given old new lock gone thread same is ticked kept know l t has u = by (lock == l) refl
  where
    by : (b : Bool) → (lock == l) ≡ b → known_by given l u ≤ known_to after t u
    by true here = absurd ((kept l t has).0 (same ∙ eqb-true lock l here))
    by false there =
        let clock : known_by given l u ≡ known_by locks l u = is l u ∙ ap (λ b. cond b (max (known_by locks l u) (known_to threads thread u)) (known_by locks l u)) there in
        let less = know l t (kept l t has).1 u in
        let more = ticked t u in
        omega (arith, clock, less, more)

-- nothing is given
pub know_kept : (threads after locks given : ClockMap) (old new : Slots) (gone : ℕ) → ((n u : ℕ) → known_by given n u ≡ known_by locks n u) →
    ((t u : ℕ) → known_to after t u ≡ known_to threads t u) → ((l t : ℕ) → HasTaken new l t → (gone ≡ l → ⊥) × HasTaken old l t) →
    KnowTheirs threads locks old → KnowTheirs after given new
know_kept threads after locks given old new gone is same kept know l t has u =
    let clock = is l u in
    let thread = same t u in
    let less = know l t (kept l t has).1 u in
    omega (arith, clock, thread, less)
