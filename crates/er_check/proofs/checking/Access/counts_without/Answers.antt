use Rattle.std.proofs.Common.{◌≡◌, ap, not, true, sym, ◌∙◌}
use Rattle.er_model.specs.Words.{counts}
use Rattle.er_check.specs.Access.{access_mark}
use Rattle.er_check.proofs.checking.Access.counts_without.Goals as goal

pub returns-then-counts : goal.returns-then-counts
returns-then-counts c =
    let a = c.args.self.now in
    let counted : counts (access_mark a) a.word ≡ true = sym c.counts.ensures ∙ c.if-counts.true in
    rw (counted, ← c.cover.ensures counted) (ap not c.contains.ensures)
