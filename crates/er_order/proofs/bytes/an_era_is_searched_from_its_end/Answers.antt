use Rattle.er_order.proofs.ByBytes.{unordered-listed, use-listed, race-listed, listed-access, listed-reuse, listed-other}
use Rattle.er_order.proofs.bytes.an_era_is_searched_from_its_end.Goals as goal

pub returns-clause-unordered : goal.returns-clause-unordered
returns-clause-unordered c = λ touched order r w k here. unordered-listed r w order k touched here

pub returns-clause-used : goal.returns-clause-used
returns-clause-used c = λ order r w k. use-listed r w order k

pub returns-clause-race : goal.returns-clause-race
returns-clause-race c = λ order r w k. race-listed r w order k

pub returns-clause-accessed : goal.returns-clause-accessed
returns-clause-accessed c = listed-access

pub returns-clause-renewed : goal.returns-clause-renewed
returns-clause-renewed c = listed-reuse

pub returns-clause-other : goal.returns-clause-other
returns-clause-other c = listed-other
