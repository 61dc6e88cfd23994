-- Why a race is one: the accesses that its explanation names, as a report tells them.
use Rattle.std.specs.Prelude.{ℕ, List, [], ◌∷◌, ◌++◌, flat_map, slice_get, slice_index, Option, Some, None}
use Rattle.er_event.specs.declared.steps.Event.{Event}
use Rattle.er_event.specs.declared.steps.Event.TheVariants.{Access}
use Rattle.er_event.specs.declared.steps.Step.{Step}
use Rattle.er_trace.specs.Trace.{Recording}
use Rattle.er_explain.specs.Explaining.{explanation_at}
use Rattle.er_model.specs.Explanations.{Explanation}
use Rattle.er_report.specs.declared.report.Because.{Because}
use Rattle.er_report.specs.declared.report.Label.{Label}
use Rattle.er_report.specs.declared.report.Label.TheVariants as label

-- an access on this line of the text, with its label; of another event nothing is told
abbrev pub access_reason : Label → ℕ → ℕ → Event → List Because
access_reason name number thread (Access kind word site) = record { label = name; line = number; thread = thread; kind = kind } ∷ []
access_reason name number thread event = []

-- past the list's end there is nothing
abbrev pub step_reason : Label → ℕ → Option Step → List Because
step_reason name number None = []
step_reason name number (Some step) = access_reason name number step.thread step.event

-- the access at position i, with its label
abbrev pub reason_at : Recording → Label → ℕ → List Because
reason_at r name i = step_reason name (slice_index r.lines i) (slice_get r.steps i)

-- the accesses that an explanation names: the first, the joining, the write, and one for each lock
unfoldable pub reasons_of : Recording → Explanation → List Because
reasons_of r e =
    reason_at r label.First e.first ++ reason_at r label.Joined e.join ++ reason_at r label.Write e.write
    ++ flat_map (λ pair. reason_at r (label.Uncovered pair.0) pair.1) e.uncovered

-- without an explanation there are none
abbrev pub reasons_by : Recording → Option Explanation → List Because
reasons_by r None = []
reasons_by r (Some e) = reasons_of r e

-- why the step at position k is a race, if it is answered with one
abbrev pub reasons_at : Recording → ℕ → List Because
reasons_at r k = reasons_by r (explanation_at r.steps k)
