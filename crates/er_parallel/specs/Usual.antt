-- The usual answers. Workers keep the other ones alone.
use Rattle.std.specs.Prelude.{cond, List, map, Result, Ok}
use Rattle.er_event.specs.declared.refusals.Refusal.{Refusal}
use Rattle.er_event.specs.declared.steps.Event.{Event}
use Rattle.er_event.specs.declared.steps.Reply.{Reply}
use Rattle.er_event.specs.declared.steps.Reply.TheVariants.{Done, Quiet}
use Rattle.er_event.specs.declared.steps.Step.{Step}
use Rattle.er_replay.specs.Wants.{is_access}

-- the usual answer to a step: an access is quiet, and anything else is done
abbrev pub usual : Event → Result Reply Refusal
usual event = Ok (cond (is_access event) Quiet Done)

-- the usual answers to the steps
abbrev pub usual_answers : List Step → List (Result Reply Refusal)
usual_answers steps = map (λ step. usual step.event) steps
