use Rattle.std.proofs.Common.{[], refl}
use Rattle.er_online.proofs.LeftOut.{go-on, legal-none}
use Rattle.er_online.proofs.laws.settled_accesses_may_be_left_out.Goals as goal

pub returns : goal.returns
returns c = λ made settled legal. go-on [] [] made (λ w. refl) legal-none settled legal
