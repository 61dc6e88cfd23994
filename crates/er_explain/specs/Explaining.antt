-- The explanation of a race of a list of steps, by the searches of the model.
use Rattle.std.specs.Prelude.{ℕ, suc, List, map, slice_get, Option, Some, None, Result, Ok}
use Rattle.er_event.specs.declared.refusals.Refusal.{Refusal}
use Rattle.er_event.specs.declared.steps.Reply.{Reply}
use Rattle.er_event.specs.declared.steps.Reply.TheVariants.{Race}
use Rattle.er_event.specs.declared.steps.Step.{Step}
use Rattle.er_model.specs.Answers.{answer, reading_of}
use Rattle.er_model.specs.Explanations.{Explanation, first_write, first_uncovered, word_of}
use Rattle.er_model.specs.Words.{Reading, cover_of, first, join}

-- what was found, or 0: at a race each of the searches below finds something
abbrev pub found : Option ℕ → ℕ
found None = 0
found (Some k) = k

-- by the word's joining, at point n
unfoldable pub explanation_by : Reading → ℕ → ℕ → ℕ → Explanation
explanation_by r w n joining = record { first = found (first r w n); join = joining; write = found (first_write r w n joining); uncovered = map (λ l. (l, found (first_uncovered r w n joining l))) (cover_of (r joining)) }

-- the explanation of the race at position k of the word: its locks are those of the joining, in rising order
unfoldable pub explanation_of : Reading → ℕ → ℕ → Explanation
explanation_of r w k = explanation_by r w (suc k) (found (join r w (suc k)))

-- of the step at position k, where this is its answer
abbrev pub explanation_where : List Step → ℕ → Result Reply Refusal → Option Explanation
explanation_where steps k (Ok Race) = Some (explanation_of (reading_of steps) (found (word_of (slice_get steps k))) k)
explanation_where steps k _ = None

-- of the step at position k, where it is answered with a race
unfoldable pub explanation_at : List Step → ℕ → Option Explanation
explanation_at steps k = explanation_where steps k (answer steps k)
