-- The lines are those that `retain` leaves.
use Rattle.std.proofs.Common.{refl, rules}
use Rattle.std.proofs.lemmas.Fn.{filter_same}
use Rattle.er_run.specs.Inner.Outcomes.{is_own}
use Rattle.er_run.proofs.outcome.own_of.Goals as goal

pub returns : goal.returns
returns c = record {
  lines = filter_same _ is_own _ (λ x b f' k. search rules) _ _ c.retain.ensures.filtered;
  others = rw c.of_pages_in.ensures.value refl;
  few = c.of_pages_in.ensures.few;
}
