-- The lists of steps that a machine stands for, and when it finds no room for one more.
use Rattle.std.specs.Prelude.{◌≡◌, ℕ, Bool, true, false, List, Result, Ok, Err}
use Rattle.er_event.specs.declared.refusals.Refusal.{Refusal}
use Rattle.er_event.specs.declared.refusals.Refusal.TheVariants.{JournalFull, TableFull, OutOfMemory}
use Rattle.er_event.specs.declared.steps.Event.{Event}
use Rattle.er_event.specs.declared.steps.Event.TheVariants.{Show}
use Rattle.er_event.specs.declared.steps.Reply.{Reply}
use Rattle.er_event.specs.declared.steps.Reply.TheVariants.{Done, Quiet, Race, Ignored, State}
use Rattle.er_event.specs.declared.steps.Step.{Step}
use Rattle.er_event.specs.declared.steps.WordState.{WordState}
use Rattle.er_event.specs.declared.steps.WordState.TheVariants.{Virgin}
use Rattle.er_model.specs.Following.{StandsFor}
use Rattle.er_model.specs.Holdings.{Holdings}
use Rattle.er_model.specs.Words.{Mark, Counted, Reused, Shown, Nothing}
use Rattle.er_held.specs.ThreadLocks.{holding_among}
use Rattle.er_replay.specs.declared.machine.Brief.{Brief}
use Rattle.er_replay.specs.declared.machine.Brief.TheVariants as brief
use Rattle.er_shadow.specs.Shadows.{Shadows, states as states_among}

-- the threads that took something, with their holdings, and the words
pub record Replayed : Type 0 where
  pub threads : List (ℕ × Holdings)
  pub words : Shadows

-- thread t's holdings
abbrev pub holding : Replayed → ℕ → Holdings
holding machine t = holding_among machine.threads t

-- the state of word w
abbrev pub states : Replayed → ℕ → WordState
states machine w = states_among machine.words w

-- its holdings and states are those at the end of the list
abbrev pub Stands : Replayed → List Step → Type 0
Stands machine steps = StandsFor (holding machine) (states machine) steps

-- a refusal that more room could have avoided
abbrev pub is_no_room : Refusal → Bool
is_no_room JournalFull = true
is_no_room TableFull = true
is_no_room OutOfMemory = true
is_no_room _ = false

-- the step found no room
abbrev pub found_no_room : {A : Type 0} → Result A Refusal → Bool
found_no_room (Ok reply) = false
found_no_room (Err why) = is_no_room why

-- the state that a show asks for, where these are the words' states
abbrev pub state_shown : (ℕ → WordState) → Event → WordState
state_shown states (Show w) = states w
state_shown states _ = Virgin

-- the whole answer to an event that is answered so in brief, where these are the words' states
abbrev pub in_full : (ℕ → WordState) → Event → Result Brief Refusal → Result Reply Refusal
in_full states event (Ok brief.Done) = Ok Done
in_full states event (Ok brief.Quiet) = Ok Quiet
in_full states event (Ok brief.First) = Ok Quiet
in_full states event (Ok brief.Race) = Ok Race
in_full states event (Ok brief.Ignored) = Ok Ignored
in_full states event (Ok brief.Shown) = Ok (State (state_shown states event))
in_full states event (Err why) = Err why

-- what is so to the words is an access that counts, of a word that was virgin, where these are the words' states
abbrev pub IsFirst : (ℕ → WordState) → Mark → Type 0
IsFirst states (Counted t kind word cover) = states word ≡ Virgin
IsFirst states (Reused range) = ⊥
IsFirst states (Shown word) = ⊥
IsFirst states Nothing = ⊥
