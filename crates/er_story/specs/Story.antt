-- The story of a step, by the definitions of the model.
use Rattle.std.specs.Prelude.{ℕ, zero, suc, ◌+◌, ◌==◌, ◌&&◌, Bool, true, false, not, cond, List, [], ◌∷◌, ◌++◌, slice_get, slice_index, Option, Some, None}
use Rattle.std.specs.List.{position}
use Rattle.er_event.specs.Lockset.{same_locks}
use Rattle.er_event.specs.declared.steps.Event.{Event}
use Rattle.er_event.specs.declared.steps.Event.TheVariants.{Acquire, Release, Access, Reuse, IgnoreOn, IgnoreOff, Show, Level, Sync}
use Rattle.er_event.specs.declared.steps.Step.{Step}
use Rattle.er_event.specs.declared.steps.WordState.{WordState}
use Rattle.er_event.specs.declared.steps.WordState.TheVariants.{Virgin, Exclusive, Shared, SharedModified}
use Rattle.er_model.specs.Answers.{answer, reading_of, state_at}
use Rattle.er_model.specs.Holdings.{holdings_at}
use Rattle.er_model.specs.Words.{counted_from, era, is_empty}
use Rattle.er_places.specs.Places.{stood_at}
use Rattle.er_story.specs.Tale.{WordTale}
use Rattle.er_story.specs.declared.story.Story.{Story}
use Rattle.er_story.specs.declared.story.Turn.{Turn}
use Rattle.er_trace.specs.Trace.{Recording}

-- the states are equal
abbrev pub same_state : WordState → WordState → Bool
same_state Virgin Virgin = true
same_state (Exclusive t) (Exclusive u) = t == u
same_state (Shared left) (Shared right) = same_locks left right
same_state (SharedModified left) (SharedModified right) = same_locks left right
same_state _ _ = false

-- several threads have used the word, and no lock is left
abbrev pub has_none_left : WordState → Bool
has_none_left (Shared locks) = is_empty locks
has_none_left (SharedModified locks) = is_empty locks
has_none_left Virgin = false
has_none_left (Exclusive t) = false

-- the access between these states emptied the candidate set, or a second thread came by it without a lock
abbrev pub empties : WordState → WordState → Bool
empties before after = has_none_left after && not (has_none_left before)

-- how many accesses of the word count at `start` or after it, and before point n
unfoldable pub counted_since : List Step → ℕ → ℕ → ℕ → ℕ
counted_since steps w start zero = 0
counted_since steps w start (suc n) = counted_since steps w start n + cond (counted_from (reading_of steps) w start n) 1 0

-- the access at k, which counts, changed the word's state
abbrev pub changes : List Step → ℕ → ℕ → ℕ → Bool
changes steps w start k = counted_from (reading_of steps) w start k && not (same_state (state_at steps w k) (state_at steps w (suc k)))

-- what is told of the access at k, which has this number among those that count
abbrev pub turn_by : Recording → ℕ → ℕ → ℕ → ℕ → Event → List Turn
turn_by r w number k t (Access kind word site) =
    record {
      number = number;
      place = stood_at (holdings_at r.steps t k) (slice_index r.lines k) t kind site;
      state = state_at r.steps w (suc k);
      emptied = empties (state_at r.steps w k) (state_at r.steps w (suc k));
    } ∷ []
turn_by r w number k t e = []

-- what is told of the step at k, if there is one
abbrev pub turn_at : Recording → ℕ → ℕ → ℕ → Option Step → List Turn
turn_at r w number k None = []
turn_at r w number k (Some step) = turn_by r w number k step.thread step.event

-- the accesses of the word from `start` on and before point n that count and changed its state, in order
unfoldable pub turns_since : Recording → ℕ → ℕ → ℕ → List Turn
turns_since r w start zero = []
turns_since r w start (suc n) =
    turns_since r w start n ++ cond (changes r.steps w start n) (turn_at r w (counted_since r.steps w start n + 1) n (slice_get r.steps n)) []

-- its state before and after the step at k, and what the accesses since its last reuse before that step made of it
unfoldable pub tale_of : Recording → ℕ → ℕ → WordTale
tale_of r k w =
    record {
      word = w;
      before = state_at r.steps w k;
      after = state_at r.steps w (suc k);
      accesses = counted_since r.steps w (era (reading_of r.steps) w k) k;
      turns = turns_since r w (era (reading_of r.steps) w k) k;
    }

-- the event accesses or shows a word
abbrev pub has_word : Event → Bool
has_word (Access kind w site) = true
has_word (Show w) = true
has_word (Acquire l m) = false
has_word (Release l m) = false
has_word (Reuse range) = false
has_word IgnoreOn = false
has_word IgnoreOff = false
has_word (Level n) = false
has_word (Sync sync) = false

-- what is told of the word that the event accesses or shows
abbrev pub tale_in : Recording → ℕ → Event → Option WordTale
tale_in r k (Access kind w site) = Some (tale_of r k w)
tale_in r k (Show w) = Some (tale_of r k w)
tale_in r k (Acquire l m) = None
tale_in r k (Release l m) = None
tale_in r k (Reuse range) = None
tale_in r k IgnoreOn = None
tale_in r k IgnoreOff = None
tale_in r k (Level n) = None
tale_in r k (Sync sync) = None

-- the story of this step, which stands at position k
abbrev pub story_of : Recording → ℕ → Step → Story
story_of r k step =
    record {
      line = slice_index r.lines k;
      step = step;
      answer = answer r.steps k;
      held = (holdings_at r.steps step.thread k).held;
      write_held = (holdings_at r.steps step.thread k).write_held;
      word = tale_in r k step.event;
    }

-- the story of what stands at position k
abbrev pub story_by : Recording → ℕ → Option Step → Option Story
story_by r k None = None
story_by r k (Some step) = Some (story_of r k step)

-- the story of the step at position k
unfoldable pub story_at : Recording → ℕ → Option Story
story_at r k = story_by r k (slice_get r.steps k)

-- the story of the step at a position that was found
abbrev pub story_found : Recording → Option ℕ → Option Story
story_found r None = None
story_found r (Some k) = story_at r k

-- the story of the first step on a line of the trace
unfoldable pub story_on : Recording → ℕ → Option Story
story_on r line = story_found r (position (λ (l : ℕ). l == line) r.lines)
