-- Recordings in the order of their text.
use Rattle.std.specs.Prelude.{ℕ, ◌≡◌, ◌<◌, ◌⊎◌, slice_get, slice_index, Some}
use Rattle.er_event.specs.declared.steps.Event.{Event}
use Rattle.er_event.specs.declared.steps.Event.TheVariants.{Access, Reuse, Show}
use Rattle.er_event.specs.declared.steps.Step.{Step}
use Rattle.er_trace.specs.Trace.{Recording}

-- the word of an access or a show, or the first of a reuse; another event is of none, for which 0 stands
abbrev pub event_word : Event → ℕ
event_word (Access kind word site) = word
event_word (Reuse range) = range.lo
event_word (Show word) = word
event_word event = 0

-- each step is of a later line of the text than those before it, or of the same line and a greater word
abbrev pub IsOrdered : Recording → Type 0
IsOrdered r =
    (j k : ℕ) (a b : Step) → j < k → slice_get r.steps j ≡ Some a → slice_get r.steps k ≡ Some b
    → (slice_index r.lines j < slice_index r.lines k) ⊎ ((slice_index r.lines j ≡ slice_index r.lines k) × (event_word a.event < event_word b.event))
