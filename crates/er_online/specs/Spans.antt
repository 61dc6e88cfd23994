-- Accesses and reuses of the words of a run.
use Rattle.std.specs.Prelude.{ℕ, ◌≡◌, ◌+◌, Bool, true, false, cond, List, [], ◌∷◌, ◌++◌, length, map, Option, Some, None}
use Rattle.er_event.specs.declared.addresses.PageRange.{PageRange}
use Rattle.er_event.specs.declared.steps.Kind.{Kind}
use Rattle.er_online.specs.Taken.{access_of, reset_of}
use Rattle.er_online.specs.declared.calls.ShardCall.{ShardCall}

-- accesses of the words from one on, in order, with these answers
unfoldable pub accesses : ℕ → Kind → List ℕ → ℕ → List Bool → List (ShardCall × List ℕ)
accesses thread kind cover word [] = []
accesses thread kind cover word (race ∷ races) = (access_of thread kind word race, cover) ∷ accesses thread kind cover (word + 1) races

-- the first of these words that is answered with a race
unfoldable pub first_race : ℕ → List Bool → Option ℕ
first_race word [] = None
first_race word (true ∷ races) = Some word
first_race word (false ∷ races) = first_race (word + 1) races

-- the list has the accesses of the first so many words of a run more, with some answers, and the first race among these is the one that was found
pub record IsSpanned (before after : List (ShardCall × List ℕ)) (thread : ℕ) (kind : Kind) (cover : List ℕ) (word count : ℕ) (found : Option ℕ) : Type 0 where
  pub races : List Bool
  pub size : length races ≡ count
  pub list : after ≡ before ++ accesses thread kind cover word races
  pub first : found ≡ first_race word races

-- what was found, or this word if it is answered with a race
abbrev pub found_next : Option ℕ → ℕ → Bool → Option ℕ
found_next (Some found) word race = Some found
found_next None word race = cond race (Some word) None

-- a reuse, which no lock covers
abbrev pub reset_call : PageRange → ShardCall × List ℕ
reset_call range = (reset_of range, [])

-- a reuse of each of these ranges
abbrev pub resets : List PageRange → List (ShardCall × List ℕ)
resets ranges = map reset_call ranges
