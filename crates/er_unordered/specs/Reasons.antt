-- Why an access is a race by happens-before, as a report tells it: the earlier access that it is unordered with.
use Rattle.std.specs.Prelude.{ℕ, Bool, cond, List, [], Option, Some, None}
use Rattle.er_order.specs.ByBytes.{Touched, unordered_by_bytes}
use Rattle.er_report.specs.Reasons.{reason_at}
use Rattle.er_report.specs.declared.report.Because.{Because}
use Rattle.er_report.specs.declared.report.Label.TheVariants as label
use Rattle.er_trace.specs.Trace.{Recording}

-- the access at this position; without one there is nothing
abbrev pub reasons_with : Recording → Option ℕ → List Because
reasons_with r None = []
reasons_with r (Some j) = reason_at r label.Unordered j

-- the last access that the one at position k is unordered with, where positions touch these bytes
unfoldable pub order_reasons : Touched → Recording → ℕ → List Because
order_reasons touched r k = reasons_with r (unordered_by_bytes touched r.steps k)

-- the reasons of the access at position k, if reasons are asked for
abbrev pub order_reasons_if : Bool → Touched → Recording → ℕ → List Because
order_reasons_if explain touched r k = cond explain (order_reasons touched r k) []
