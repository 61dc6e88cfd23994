-- What a view of an answer shows.
use Rattle.std.specs.Prelude.{Bool, true, false, Result, Ok, Err}
use Rattle.er_event.specs.declared.refusals.Refusal.{Refusal}
use Rattle.er_event.specs.declared.steps.Reply.{Reply}
use Rattle.er_event.specs.declared.steps.Reply.TheVariants as reply
use Rattle.er_journal.specs.declared.answers.Answer.{Answer}
use Rattle.er_journal.specs.declared.answers.Answer.TheVariants as answer

-- the answer that a view of one shows
abbrev pub shown : Answer → Result Reply Refusal
shown answer.Done = Ok reply.Done
shown answer.Quiet = Ok reply.Quiet
shown answer.Race = Ok reply.Race
shown answer.Ignored = Ok reply.Ignored
shown (answer.State state) = Ok (reply.State state.now)
shown (answer.Refused why) = Err why

-- it is the answer of a show
abbrev pub is_state : Result Reply Refusal → Bool
is_state (Ok (reply.State state)) = true
is_state _ = false
