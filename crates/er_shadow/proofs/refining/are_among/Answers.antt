-- All were found, so none is left out of what both lists have.
use Rattle.std.proofs.Common.{◌<◌, length, subst, sym}
use Rattle.std.proofs.lemmas.Bool.{eqb-true}
use Rattle.er_event.specs.Lockset.{has, meet}
use Rattle.er_event.proofs.Lists.{filter_all}
use Rattle.er_shadow.proofs.refining.are_among.Goals as goal

pub returns : goal.returns
unfolding meet
returns c = λ yes.
    let every = eqb-true c.loop-lock.found (length c.args.some.now) yes in
    filter_all (has c.args.all.now) c.args.some.now (λ k within. c.loop-lock.invariant.are k (subst (λ n. k < n) (sym every) within))
