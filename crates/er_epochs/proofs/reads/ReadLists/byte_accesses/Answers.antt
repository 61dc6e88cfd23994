use Rattle.std.proofs.Common.{◌∙◌, ap}
use Rattle.er_epochs.specs.Known.{known_of}
use Rattle.er_epochs.specs.Words.{list_of, stored_in}
use Rattle.er_keys.proofs.MapLemmas.{entry_found}
use Rattle.er_epochs.proofs.Listed.{list_found, if_ok}
use Rattle.er_epochs.proofs.reads.ReadLists.byte_accesses.Goals as goal

pub returns-in-Some : goal.returns-in-Some
returns-in-Some g c =
    if_ok c.byte_accesses.result _ _ c.byte_accesses.ensures (λ accesses is.
    is ∙ ap (λ reads. known_of (stored_in c.args.word reads))
    (list_found c.self.inside.lists.entries c.args.number c.index.result.now
    (entry_found c.self.inside.lists c.in-Some.index c.args.number c.index.result.now c.in-Some.ensures.unique c.in-Some.ensures.key c.index.ensures)
    ∙ ap (λ lists. list_of lists c.args.number) c.self.view_is))
