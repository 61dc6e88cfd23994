use Rattle.std.proofs.Common.{◌≡◌, true, refl, sym, ◌∙◌}
use Rattle.er_model.specs.Words.{counts}
use Rattle.er_check.specs.Access.{access_mark}
use Rattle.er_check.proofs.AccessLemmas.{accessed-writes}
use Rattle.er_check.proofs.checking.Access.counts_as_write.Goals as goal

pub returns-in-Write : goal.returns-in-Write
returns-in-Write c =
    let a = c.args.self.now in
    let counted : counts (access_mark a) a.word ≡ true = sym c.counts.ensures ∙ c.if-counts.true in
    rw (counted, accessed-writes a.held.now a.thread a.kind a.word counted, c.in-Write.is) refl

pub returns-in_default : goal.returns-in_default
returns-in_default c =
    let a = c.args.self.now in
    let counted : counts (access_mark a) a.word ≡ true = sym c.counts.ensures ∙ c.if-counts.true in
    rw (counted, accessed-writes a.held.now a.thread a.kind a.word counted, c.in_default.is) refl
