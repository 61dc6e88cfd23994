use Rattle.std.proofs.Common.{sym, ◌∙◌}
use Rattle.er_check.proofs.AccessLemmas.{accessed-cover}
use Rattle.er_check.proofs.checking.Access.cover.Goals as goal

pub returns : goal.returns
returns c counted =
    let a = c.args.self.now in
    c.cover.ensures ∙ sym (accessed-cover a.held.now a.thread a.kind a.word counted)
