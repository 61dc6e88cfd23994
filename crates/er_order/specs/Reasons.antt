-- Why an access or a reuse is a race by happens-before: the last earlier access that it is unordered with.
use Rattle.std.specs.Prelude.{ℕ, not, ◌&&◌, List, slice_get, Option, Some, None}
use Rattle.er_event.specs.declared.steps.Event.{Event}
use Rattle.er_event.specs.declared.steps.Event.TheVariants.{Access, Reuse}
use Rattle.er_event.specs.declared.steps.Step.{Step}
use Rattle.er_model.specs.Search.{greatest_below}
use Rattle.er_model.specs.Words.{Reading}
use Rattle.er_model.specs.Answers.{reading_of}
use Rattle.er_order.specs.Order.{acts_of, happens_before}
use Rattle.er_order.specs.Races.{Order, conflicts, last_use, word_in_use}

-- the last earlier access that conflicts with position k and doesn't come before it in order
unfoldable pub last_unordered : Order → Reading → ℕ → ℕ → Option ℕ
last_unordered order r w k = greatest_below k (λ j. conflicts r w j k && not (order j k))

-- the word that an event at position k is a race on: an access's, or the lowest of a reuse that is in use
abbrev pub word_raced_by : List Step → ℕ → Event → Option ℕ
word_raced_by steps k (Access kind w site) = Some w
word_raced_by steps k (Reuse range) = word_in_use (happens_before (acts_of steps)) (reading_of steps) k range
word_raced_by steps k event = None

-- the word that the step at position k, if there is one, is a race on
abbrev pub word_raced_in : List Step → ℕ → Option Step → Option ℕ
word_raced_in steps k None = None
word_raced_in steps k (Some step) = word_raced_by steps k step.event

-- the word that position k of the list is a race on, if it is one
unfoldable pub word_raced : List Step → ℕ → Option ℕ
word_raced steps k = word_raced_in steps k (slice_get steps k)

-- the last access of that word that the reuse at position k is unordered with
abbrev pub use_of : List Step → ℕ → Option ℕ → Option ℕ
use_of steps k None = None
use_of steps k (Some w) = last_use (happens_before (acts_of steps)) (reading_of steps) w k

-- the access that an event at position k is unordered with: the last one, if there are several
abbrev pub unordered_by : List Step → ℕ → Event → Option ℕ
unordered_by steps k (Access kind w site) = last_unordered (happens_before (acts_of steps)) (reading_of steps) w k
unordered_by steps k (Reuse range) = use_of steps k (word_in_use (happens_before (acts_of steps)) (reading_of steps) k range)
unordered_by steps k event = None

-- the access that the step at position k, if there is one, is unordered with
abbrev pub unordered_in : List Step → ℕ → Option Step → Option ℕ
unordered_in steps k None = None
unordered_in steps k (Some step) = unordered_by steps k step.event

-- the access that position k of the list is unordered with: the last one, if there are several
unfoldable pub unordered_with : List Step → ℕ → Option ℕ
unordered_with steps k = unordered_in steps k (slice_get steps k)
