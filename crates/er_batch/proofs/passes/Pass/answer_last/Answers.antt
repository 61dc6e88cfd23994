-- Touches of lines before the last one that was answered are forgotten.
use Rattle.std.proofs.Common.{nat_le, rules}
use Rattle.std.proofs.lemmas.Fn.{filter_same}
use Rattle.er_batch.proofs.passes.Pass.answer_last.Goals as goal

pub returns-clause-touches : goal.returns-clause-touches
returns-clause-touches g c = filter_same _ (λ touch. nat_le c.in_ok-from.from touch.line) _ (λ x b f' k. search rules) _ _ c.retain.ensures.filtered
