-- What happens-before keeps of the steps so far.
use Rattle.std.specs.Prelude.{◌≡◌, ◌<◌, ℕ, Bool, List, length, Option, None, IfSome}
use Rattle.er_batch.specs.Analysts.{Asked}
use Rattle.er_clock.specs.declared.clock.NoTick.{NoTick}
use Rattle.er_order.specs.ByBytes.{Touched}
use Rattle.er_report.specs.Builder.{Built}
use Rattle.er_report.specs.declared.report.Because.{Because}
use Rattle.er_trace.specs.Trace.{Recording}
use Rattle.er_unordered.specs.Answered.{HasGathered, tells}
use Rattle.er_unordered.specs.Reports.{has_order, touched_by}
use Rattle.er_unordered.specs.Stops.{IsStopIn}
use Rattle.er_unordered.specs.declared.ordering.Machines.{Machines}

-- an analyst: its machine, what is built for a report, the reasons that are told, why it has stopped, and whether a step was an order event
pub record OrderRan : Type 0 where
  pub machine : Machines
  pub built : Built
  pub told : List (List Because)
  pub stop : Option NoTick
  pub has_order : Bool

-- all of the recording's steps were answered by the bytes that they touch, which are those that are known, under the rules that are asked for
pub record HasGatheredFor (ran : OrderRan) (asked : Asked) (r : Recording) : Type 0 where
  pub touched : Touched
  pub says : IfSome asked.touches (λ all. (k : ℕ) → k < length r.steps → touched k ≡ touched_by all r.lines k)
  pub long : length r.lines ≡ length r.steps
  pub gathered : (others : Touched) → ((k : ℕ) → k < length r.steps → others k ≡ touched k) → HasGathered others ran.machine ran.built ran.told r
  pub rules : ran.built.rules ≡ asked.rules
  pub explain : tells ran.machine ≡ asked.explain

-- all of the recording's steps were answered, or one of them can't be
pub record HasOrdered (ran : OrderRan) (asked : Asked) (r : Recording) : Type 0 where
  pub all : ran.stop ≡ None → HasGatheredFor ran asked r
  pub stopped : IfSome ran.stop (λ why. IsStopIn r.steps why)
  pub order : ran.has_order ≡ has_order r.steps
