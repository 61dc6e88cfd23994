use Rattle.er_order.proofs.Growing.{clocks-access}
use Rattle.er_order.proofs.StepLemmas.{act-step, clocks-step, clocks-front, clocks-grow}
use Rattle.er_order.proofs.laws.a_clock_follows_its_step.Goals as goal

pub returns-clause-act : goal.returns-clause-act
returns-clause-act c = λ steps k step is. act-step steps k step is

pub returns-clause-clocks : goal.returns-clause-clocks
returns-clause-clocks c = λ steps k u step c is. clocks-step steps k step is c u

pub returns-clause-end : goal.returns-clause-end
returns-clause-end c = clocks-grow

pub returns-clause-access : goal.returns-clause-access
returns-clause-access c = λ steps step w site kind c u event. clocks-access steps step w site kind event c u

pub returns-clause-earlier : goal.returns-clause-earlier
returns-clause-earlier c = clocks-front
