-- What one step is answered, and what it makes of a word, by its thread's holdings and the words' states when it is taken.
use Rattle.std.specs.Prelude.{ℕ, ◌≡◌, nat_lt, cond, List, Result}
use Rattle.er_event.specs.declared.steps.Event.{Event}
use Rattle.er_event.specs.declared.steps.Event.TheVariants.{Acquire, Release, Access, Reuse, IgnoreOn, IgnoreOff, Show, Level, Sync}
use Rattle.er_event.specs.declared.steps.Kind.{Kind}
use Rattle.er_event.specs.declared.steps.Kind.TheVariants.{Read as reading, Write as writing}
use Rattle.er_event.specs.declared.refusals.Refusal.{Refusal}
use Rattle.er_event.specs.declared.steps.Reply.{Reply}
use Rattle.er_event.specs.declared.steps.Reply.TheVariants.{Done, Quiet, Race, Ignored, State}
use Rattle.er_event.specs.declared.steps.Step.{Step}
use Rattle.er_event.specs.declared.steps.WordState.{WordState}
use Rattle.er_model.specs.Words.{Mark, Counted, Reused, Shown, Nothing}
use Rattle.er_model.specs.Table.{advanced, moved, reports}
use Rattle.er_model.specs.Holdings.{Holdings, holdings_end, refused_by}
use Rattle.er_model.specs.Answers.{answer_unless, state_end}

-- the locks for an access of this kind
abbrev pub locks_for : Holdings → Kind → List ℕ
locks_for h reading = h.held
locks_for h writing = h.write_held

-- what an event of thread t is to the words
abbrev pub marked : Holdings → ℕ → Event → Mark
marked h t (Access kind w site) = cond (nat_lt 0 h.depth) Nothing (Counted t kind w (locks_for h kind))
marked h t (Reuse range) = Reused range
marked h t (Acquire l m) = Nothing
marked h t (Release l m) = Nothing
marked h t IgnoreOn = Nothing
marked h t IgnoreOff = Nothing
marked h t (Show w) = Shown w
marked h t (Level n) = Nothing
marked h t (Sync sync) = Nothing

-- the state of word w after the step
abbrev pub state_after : Holdings → WordState → ℕ → Step → WordState
state_after h before w step = moved before w (marked h step.thread step.event)

-- the reply to an event of thread t that isn't refused
abbrev pub replied : Holdings → (ℕ → WordState) → ℕ → Event → Reply
replied h states t (Access kind w site) = cond (nat_lt 0 h.depth) Ignored (cond (reports (states w) (advanced (states w) t kind (locks_for h kind))) Race Quiet)
replied h states t (Show w) = State (states w)
replied h states t (Acquire l m) = Done
replied h states t (Release l m) = Done
replied h states t (Reuse range) = Done
replied h states t IgnoreOn = Done
replied h states t IgnoreOff = Done
replied h states t (Level n) = Done
replied h states t (Sync sync) = Done

-- the answer to the step that finds these
abbrev pub answered : Holdings → (ℕ → WordState) → Step → Result Reply Refusal
answered h states step = answer_unless (refused_by h step.event) (replied h states step.thread step.event)

-- holdings and states that are those at the end of the list: a machine that has them stands for it
abbrev pub StandsFor : (ℕ → Holdings) → (ℕ → WordState) → List Step → Type 0
StandsFor holding states steps = ((t : ℕ) → holding t ≡ holdings_end steps t) × ((w : ℕ) → states w ≡ state_end steps w)
