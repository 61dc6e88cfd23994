use Rattle.std.proofs.lemmas.Bool.{ltb_from_iff}
use Rattle.er_check.proofs.AccessLemmas.{accessed-counts}
use Rattle.er_check.proofs.checking.Access.counts.Goals as goal

pub returns : goal.returns
returns c =
    let a = c.args.self.now in
    rw (ltb_from_iff c.ignoring.ensures) (accessed-counts a.held.now a.thread a.kind a.word)
