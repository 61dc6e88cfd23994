-- What a pass over steps keeps, and the steps that it stands for.
use Rattle.std.specs.Prelude.{◌≡◌, ℕ, ◌==◌, ◌&&◌, Bool, true, cond, List, length, Option, None, All, IfSome, IsSome}
use Rattle.er_places.specs.Facts.{FactTable}
use Rattle.er_event.specs.declared.steps.Step.{Step}
pub use Rattle.er_held.specs.ThreadLocks.{held_by}
use Rattle.er_model.specs.Holdings.{Holdings, after_step, holdings_end}
use Rattle.er_places.specs.Places.{ArePlaces, HasPlaceNames, place_below, place_by, or_else}
pub use Rattle.er_places.specs.Places.{place_in}
pub use Rattle.er_places.specs.Wanted.{are_asked, is_wanted}
use Rattle.er_places.specs.declared.places.Place.{Place}
use Rattle.er_text.specs.Batches.{HasRead}
use Rattle.er_text.specs.Places.{Reached}
use Rattle.er_trace.specs.Names.{NameTable}
use Rattle.er_trace.specs.Trace.{Recording}
pub use Rattle.er_trace.specs.Trace.{IsNamed}

-- what each thread holds, and the places so far
pub record Followed : Type 0 where
  pub threads : List Holdings
  pub places : List (ℕ × Place)

-- what a step on this line makes of it
pub record Follows (wants : ℕ → Bool) (before : Followed) (step : Step) (line : ℕ) (after : Followed) : Type 0 where
  pub threads : (t : ℕ) → held_by after.threads t ≡ after_step (held_by before.threads t) t step
  pub places : (l : ℕ) → place_in after.places l
      ≡ cond (wants line && (line == l)) (or_else (place_in before.places l) (place_by (held_by before.threads step.thread) line step.thread step.event)) (place_in before.places l)

-- the pass went over these steps, which are on these lines: it keeps what their threads hold and the wanted places
pub record HasFollowed (wants : ℕ → Bool) (seen : Followed) (steps : List Step) (lines : List ℕ) : Type 0 where
  pub threads : (t : ℕ) → held_by seen.threads t ≡ holdings_end steps t
  pub places : (l : ℕ) → place_in seen.places l ≡ cond (wants l) (place_below steps lines l (length steps)) None

-- between two batches: some steps were read, and the pass stands for them
pub record HasCome (wants : ℕ → Bool) (told known : Option (List ℕ)) (reader : Reached) (trace : Recording) (seen : Followed) : Type 0 where
  pub past : List Step
  pub lines : List ℕ
  pub sites : List ℕ
  pub read : IfSome told (λ text. HasRead text past lines sites reader known trace)
  pub even : length lines ≡ length past
  pub named : All (IsNamed trace.names) past
  pub stands : HasFollowed wants seen past lines

-- each place that is kept for a line has names
abbrev pub AreNamed : NameTable → List (ℕ × Place) → Type 0
AreNamed names places = (line : ℕ) → IfSome (place_in places line) (HasPlaceNames names)

-- behind the last batch, and once each wanted line has its place: no more can be found in the text, if that is known, whatever is known of the program
pub record HasEnded (wants : ℕ → Bool) (told : Option (List ℕ)) (limit : ℕ) (trace : Recording) (seen : Followed) : Type 0 where
  pub named : AreNamed trace.names seen.places
  pub found : (facts : FactTable) → IfSome told (λ text. ArePlaces wants text limit (record { places = seen.places; names = trace.names; facts = facts }))

-- each wanted line has its place
abbrev pub HasAll : (ℕ → Bool) → List (ℕ × Place) → Type 0
HasAll wants places = (line : ℕ) → wants line ≡ true → IsSome (place_in places line)
