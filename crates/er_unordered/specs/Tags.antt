-- What is kept of a step for the reasons of unordered accesses, and what is told by it.
use Rattle.std.specs.Prelude.{ℕ, List, [], ◌∷◌, flat_map, slice_get, slice_index, Option, Some, None}
use Rattle.std.specs.Option.{option_map, option_to_list}
use Rattle.er_event.specs.declared.steps.Kind.TheVariants.{Read}
use Rattle.er_event.specs.declared.steps.Step.{Step}
use Rattle.er_explain.specs.Book.{event_kind}
use Rattle.er_order.specs.ByBytes.{Touched, unordered_by_bytes}
use Rattle.er_report.specs.declared.report.Because.{Because}
use Rattle.er_report.specs.declared.report.Label.TheVariants as label
use Rattle.er_trace.specs.Trace.{Recording}

-- a step on this line of the text, as the reason of a later race
abbrev pub line_reason : ℕ → Option Step → Because
line_reason number None = record { label = label.Unordered; line = number; thread = 0; kind = Read }
line_reason number (Some step) = record { label = label.Unordered; line = number; thread = step.thread; kind = event_kind step.event }

-- what is told of a race: the list of the reason that was found
abbrev pub one_told : Option Because → List (List Because)
one_told found = option_to_list found ∷ []

-- without reasons nothing is kept of a step
abbrev pub no_tag : ℕ → Option Step → Unit {0}
no_tag number step = tt

-- without reasons nothing is told of a race
abbrev pub none_told : Option (Unit {0}) → List (List Because)
none_told found = []

-- what is kept of the step at position i
unfoldable pub tag_at : {A : Type 0} → (ℕ → Option Step → A) → Recording → ℕ → A
tag_at tag_of r i = tag_of (slice_index r.lines i) (slice_get r.steps i)

-- what is told of the races at these positions
abbrev pub told_at : {A : Type 0} → (ℕ → Option Step → A) → (Option A → List (List Because)) → Touched → Recording → List ℕ → List (List Because)
told_at tag_of told_of touched r places = flat_map (λ k. told_of (option_map (tag_at tag_of r) (unordered_by_bytes touched r.steps k))) places
