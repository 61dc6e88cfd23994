-- The report of a recording's unordered accesses, and whether its steps order threads beside locks.
use Rattle.std.specs.Prelude.{◌≡◌, ◌+◌, ◌<◌, ℕ, Bool, true, false, List, length, slice_index, Option, Some, None}
use Rattle.std.specs.List.{list_any}
use Rattle.er_event.specs.declared.steps.Event.{Event}
use Rattle.er_event.specs.declared.steps.Event.TheVariants.{Sync}
use Rattle.er_event.specs.declared.steps.Step.{Step}
use Rattle.er_batch.specs.Touching.{touch_on}
use Rattle.er_lines.specs.declared.ready.Touch.{Touch}
use Rattle.er_order.specs.ByBytes.{Touched, whole, answer_by_bytes}
use Rattle.er_order.specs.declared.bytes.Bytes.{Bytes}
use Rattle.er_report.specs.Report.{Summary, report_by}
use Rattle.er_rules.specs.Rules.{Target}
use Rattle.er_trace.specs.Trace.{Recording}
use Rattle.er_unordered.specs.Reasons.{order_reasons_if}

-- the bytes that a touch is of; without one they are all
abbrev pub bytes_by : Option Touch → Bytes
bytes_by None = whole
bytes_by (Some touch) = record { first = touch.first; last = touch.last }

-- what positions with these lines touch, by what touches say of a line
abbrev pub touched_by : List Touch → List ℕ → Touched
touched_by touches lines k = bytes_by (touch_on touches (slice_index lines k))

-- behind so many positions, those of these lines touch what touches say of their lines
abbrev pub TouchAs : Touched → List Touch → List ℕ → ℕ → Type 0
TouchAs touched touches lines n = (k : ℕ) → k < length lines → touched (n + k) ≡ touched_by touches lines k

-- the report of a recording's unordered accesses, where positions touch these bytes, under these rules, with reasons or without
abbrev pub unordered_report : Recording → Touched → List Target → Bool → Summary
unordered_report recording touched rules explain = report_by (answer_by_bytes touched recording.steps) (order_reasons_if explain touched recording) recording rules None

-- the event starts or joins a thread, signals or awaits
abbrev pub is_sync : Event → Bool
is_sync (Sync sync) = true
is_sync _ = false

-- the step starts or joins a thread, signals or awaits
abbrev pub is_order : Step → Bool
is_order step = is_sync step.event

-- one of the steps starts or joins a thread, signals or awaits
abbrev pub has_order : List Step → Bool
has_order steps = list_any is_order steps
