-- No step so far reuses words.
use Rattle.std.proofs.Common.{◌≡◌, ◌≤◌, ◌<◌, ℕ, Some, false, slice_get}
use Rattle.er_event.specs.declared.steps.Step.{Step}
use Rattle.er_batch.specs.Inner.Items.{is_reuse}
use Rattle.er_batch.proofs.crew.next_told.Given as goal

abbrev pub invariant-loop-k : goal.invariant-loop-k
invariant-loop-k l = (i : ℕ) (step : Step) → l.from ≤ i → i < l.k → slice_get l.steps i ≡ Some step → is_reuse step.event ≡ false
