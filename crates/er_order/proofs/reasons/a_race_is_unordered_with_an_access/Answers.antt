use Rattle.er_order.proofs.ReasonLemmas.{race-unordered, with-use, with-conflict, with-earlier, with-word, with-threads, with-last, with-last-use, word-raced-access}
use Rattle.er_order.proofs.ReasonsGrow.{unordered-stays}
use Rattle.er_order.proofs.Reuses.{reuse-parts}
use Rattle.er_order.proofs.reasons.a_race_is_unordered_with_an_access.Goals as goal

pub returns-clause-race : goal.returns-clause-race
returns-clause-race c = race-unordered

pub returns-clause-unordered : goal.returns-clause-unordered
returns-clause-unordered c = λ steps j k is. with-use steps k j is

pub returns-clause-conflict : goal.returns-clause-conflict
returns-clause-conflict c = λ steps j k w is word. with-conflict steps k j is w word

pub returns-clause-reuse : goal.returns-clause-reuse
returns-clause-reuse c = λ steps k w step range is event word. reuse-parts steps k step is range event w word

pub returns-clause-earlier : goal.returns-clause-earlier
returns-clause-earlier c = λ steps j k is. with-earlier steps k j is

pub returns-clause-access : goal.returns-clause-access
returns-clause-access c = λ steps k w word. word-raced-access steps k w word

pub returns-clause-word : goal.returns-clause-word
returns-clause-word c = λ steps j k w is word. with-word steps k j is w word

pub returns-clause-threads : goal.returns-clause-threads
returns-clause-threads c = λ steps j k step here is same. with-threads steps k j is step here same

pub returns-clause-last : goal.returns-clause-last
returns-clause-last c = λ steps i j k w is. with-last steps k j is i w

pub returns-clause-last_use : goal.returns-clause-last_use
returns-clause-last_use c = λ steps i j k w step range is here event word. with-last-use steps k j is i w step range here event word

pub returns-clause-stays : goal.returns-clause-stays
returns-clause-stays c = unordered-stays
