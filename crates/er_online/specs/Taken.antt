-- What a shard took, read as a list of marks with their replies.
use Rattle.std.specs.Prelude.{ℕ, ◌≡◌, Bool, List, map}
use Rattle.std.specs.Coded.{Coded, coded×, coded_ℕ, coded_list}
use Rattle.er_event.specs.declared.addresses.PageRange.{PageRange}
use Rattle.er_event.specs.declared.steps.Kind.{Kind}
use Rattle.er_event.specs.declared.steps.Reply.{Reply}
use Rattle.er_event.specs.declared.steps.Reply.TheVariants.{Done}
use Rattle.er_event.specs.declared.steps.WordState.{WordState}
use Rattle.er_model.specs.Words.{Mark, Counted, Reused}
use Rattle.er_model.specs.Parts.{Noted, IsLegal, state_of_notes}
use Rattle.er_shadow.specs.Replies.{reply_if}
use Rattle.er_shadow.specs.Shadows.{Shadows, states as states_among}
use Rattle.er_online.specs.declared.calls.ShardCall.{ShardCall}
use Rattle.er_online.specs.declared.calls.ShardCall.TheVariants.{Access, Reset}
use Rattle.er_online.specs.contracts.calls.ShardCall.{the_row}

-- an access that was answered with a race, or not
abbrev pub access_of : ℕ → Kind → ℕ → Bool → ShardCall
access_of thread kind word race = Access thread kind word race

-- a reuse of a range
abbrev pub reset_of : PageRange → ShardCall
reset_of range = Reset range

-- what a call with these locks is to the words
abbrev pub mark_of : ShardCall → List ℕ → Mark
mark_of (Access thread kind word race) cover = Counted thread kind word cover
mark_of (Reset range) cover = Reused range

-- what a call was answered
abbrev pub reply_of : ShardCall → Reply
reply_of (Access thread kind word race) = reply_if race
reply_of (Reset range) = Done

-- a call's mark and reply
abbrev pub note_of : ShardCall × List ℕ → Noted
note_of c = record { mark = mark_of c.0 c.1; reply = reply_of c.0 }

-- the calls as marks with their replies, in order
abbrev pub notes_of : List (ShardCall × List ℕ) → List Noted
notes_of calls = map note_of calls

-- the word's state after these calls, as the lockset rule gives it
abbrev pub state_now : List (ShardCall × List ℕ) → ℕ → WordState
state_now calls w = state_of_notes (notes_of calls) w

-- after the one list each word has the state that it has after the other
abbrev pub HasSameStates : List (ShardCall × List ℕ) → List (ShardCall × List ℕ) → Type 0
HasSameStates before after = (w : ℕ) → state_now after w ≡ state_now before w

-- each answer is the one that the definitions give of the list, and so is each word's state
pub record IsReplay (calls : List (ShardCall × List ℕ)) (words : Shadows) : Type 0 where
  pub legal : IsLegal (notes_of calls)
  pub states : (w : ℕ) → states_among words w ≡ state_now calls w

-- how a contract stores such a list
abbrev pub calls_coded : Coded (List (ShardCall × List ℕ))
calls_coded = coded_list (coded× the_row.coded (coded_list coded_ℕ))
