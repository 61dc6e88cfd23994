use Rattle.er_parts.proofs.LocalLemmas.{alike, answers-kept}
use Rattle.er_parts.proofs.laws.a_part_answers_as_the_whole.Goals as goal

pub returns-clause-answers : goal.returns-clause-answers
returns-clause-answers c = answers-kept

pub returns-clause-holdings : goal.returns-clause-holdings
returns-clause-holdings c = λ part steps. (alike part steps).holdings

pub returns-clause-states : goal.returns-clause-states
returns-clause-states c = λ part steps. (alike part steps).states
