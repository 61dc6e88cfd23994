-- What each step of a list is answered.
use Rattle.std.specs.Prelude.{ℕ, zero, suc, cond, List, [], ◌∷◌, ◌++◌, length, slice_get, Option, Some, None, Result, Ok, Err}
use Rattle.er_event.specs.declared.steps.Event.{Event}
use Rattle.er_event.specs.declared.steps.Event.TheVariants.{Acquire, Release, Access, Reuse, IgnoreOn, IgnoreOff, Show, Level, Sync}
use Rattle.er_event.specs.declared.steps.Kind.{Kind}
use Rattle.er_event.specs.declared.steps.Kind.TheVariants.{Read as reading, Write as writing}
use Rattle.er_event.specs.declared.refusals.Refusal.{Refusal}
use Rattle.er_event.specs.declared.steps.Reply.{Reply}
use Rattle.er_event.specs.declared.steps.Reply.TheVariants.{Done, Quiet, Race, Ignored, State}
use Rattle.er_event.specs.declared.steps.Step.{Step}
use Rattle.er_event.specs.declared.steps.WordState.{WordState}
use Rattle.er_model.specs.Words.{Mark, Counted, Reused, Shown, Nothing, Reading, reported, state}
use Rattle.er_model.specs.Threads.{held, write_held, is_ignoring, refusal, accepted}

-- the locks that cover an access of this kind: held in any mode for a read, in write mode for a write
abbrev pub covering : List Step → ℕ → Kind → List ℕ
covering past t reading = held past t
covering past t writing = write_held past t

-- what an event is to the words, after these accepted steps
unfoldable pub mark : List Step → ℕ → Event → Mark
mark past t (Access kind w site) = cond (is_ignoring past t) Nothing (Counted t kind w (covering past t kind))
mark past t (Reuse range) = Reused range
mark past t (Acquire l m) = Nothing
mark past t (Release l m) = Nothing
mark past t IgnoreOn = Nothing
mark past t IgnoreOff = Nothing
mark past t (Show w) = Shown w
mark past t (Level n) = Nothing
mark past t (Sync sync) = Nothing

-- past the list's end there is nothing
abbrev pub mark_of : List Step → Option Step → Mark
mark_of past None = Nothing
mark_of past (Some step) = mark past step.thread step.event

-- a list of steps, as its words see it
unfoldable pub reading_of : List Step → Reading
reading_of steps k = mark_of (accepted steps k) (slice_get steps k)

-- a word's state after the first n steps
abbrev pub state_at : List Step → ℕ → ℕ → WordState
state_at steps w n = state (reading_of steps) w n

-- the reply to the event at position k, where it isn't refused
unfoldable pub reply : List Step → ℕ → ℕ → Event → Reply
reply steps k t (Access kind w site) = cond (is_ignoring (accepted steps k) t) Ignored (cond (reported (reading_of steps) w k) Race Quiet)
reply steps k t (Show w) = State (state_at steps w k)
reply steps k t (Acquire l m) = Done
reply steps k t (Release l m) = Done
reply steps k t (Reuse range) = Done
reply steps k t IgnoreOn = Done
reply steps k t IgnoreOff = Done
reply steps k t (Level n) = Done
reply steps k t (Sync sync) = Done

-- the refusal where there is one, else the reply
abbrev pub answer_unless : Option Refusal → Reply → Result Reply Refusal
answer_unless None reply = Ok reply
answer_unless (Some refusal) reply = Err refusal

-- the answer to what stands at a position
abbrev pub answer_to : List Step → ℕ → Option Step → Result Reply Refusal
answer_to steps k None = Ok Done
answer_to steps k (Some step) = answer_unless (refusal (accepted steps k) step.thread step.event) (reply steps k step.thread step.event)

-- the answer to the step at position k
unfoldable pub answer : List Step → ℕ → Result Reply Refusal
answer steps k = answer_to steps k (slice_get steps k)

-- a word's state at the end of the list
abbrev pub state_end : List Step → ℕ → WordState
state_end steps w = state_at steps w (length steps)

-- the answer to a step that comes after the list
abbrev pub answer_next : List Step → Step → Result Reply Refusal
answer_next steps step = answer (steps ++ step ∷ []) (length steps)

-- the answers to the first n steps
unfoldable pub answers_below : List Step → ℕ → List (Result Reply Refusal)
answers_below steps zero = []
answers_below steps (suc n) = answers_below steps n ++ answer steps n ∷ []

-- the answers to the whole list
abbrev pub answers : List Step → List (Result Reply Refusal)
answers steps = answers_below steps (length steps)
