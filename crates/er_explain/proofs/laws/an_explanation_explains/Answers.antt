use Rattle.er_model.proofs.Explanations.{explained-race}
use Rattle.er_explain.proofs.Explained.{explained-at, unexplained-at}
use Rattle.er_explain.proofs.laws.an_explanation_explains.Goals as goal

pub returns-clause-explains : goal.returns-clause-explains
returns-clause-explains c = explained-at

pub returns-clause-none : goal.returns-clause-none
returns-clause-none c = unexplained-at

pub returns-clause-race : goal.returns-clause-race
returns-clause-race c = explained-race
