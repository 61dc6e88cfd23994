-- What a list of answers in brief stands for. No public clause cites this file.
use Rattle.std.specs.Prelude.{◌≡◌, ℕ, ◌<◌, List, length, map, slice_index_or, Result, Ok, Err}
use Rattle.er_event.specs.declared.refusals.Refusal.{Refusal}
use Rattle.er_event.specs.declared.steps.Reply.{Reply}
use Rattle.er_event.specs.declared.steps.Reply.TheVariants as reply
use Rattle.er_event.specs.declared.steps.WordState.{WordState}
use Rattle.er_event.specs.declared.steps.WordState.TheVariants.{Virgin}
use Rattle.er_journal.specs.declared.answers.Brief.{Brief}
use Rattle.er_journal.specs.declared.answers.Brief.TheVariants as brief

-- the answer of a brief, where these are the states that shows found
abbrev pub answer_of : List WordState → Brief → Result Reply Refusal
answer_of states brief.Done = Ok reply.Done
answer_of states brief.Quiet = Ok reply.Quiet
answer_of states brief.Race = Ok reply.Race
answer_of states brief.Ignored = Ok reply.Ignored
answer_of states (brief.Shown n) = Ok (reply.State (slice_index_or states n Virgin))
answer_of states (brief.Refused why) = Err why

-- the answers of a list of briefs
unfoldable pub answers_of : List WordState → List Brief → List (Result Reply Refusal)
answers_of states briefs = map (answer_of states) briefs

-- a show's number is that of a state
abbrev pub HasState : ℕ → Brief → Type 0
HasState count brief.Done = Unit {0}
HasState count brief.Quiet = Unit {0}
HasState count brief.Race = Unit {0}
HasState count brief.Ignored = Unit {0}
HasState count (brief.Shown n) = n < count
HasState count (brief.Refused why) = Unit {0}

-- the brief tells the answer, where these are the states that shows found
pub record IsBrief (states : List WordState) (answer : Result Reply Refusal) (b : Brief) : Type 0 where
  pub means : answer_of states b ≡ answer
  pub numbered : HasState (length states) b

-- earlier briefs tell the same of the new states as of the old ones
pub record KeepsStates (old new : List WordState) : Type 0 where
  pub means : (b : Brief) → HasState (length old) b → answer_of new b ≡ answer_of old b
  pub numbered : (b : Brief) → HasState (length old) b → HasState (length new) b
