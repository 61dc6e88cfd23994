use Rattle.std.proofs.Common.{◌∙◌, ap}
use Rattle.er_clock.specs.Counts.{count_by}
use Rattle.er_epochs.specs.Epochs.{tag_of_first}
use Rattle.er_epochs.specs.Words.{list_of}
use Rattle.er_keys.proofs.MapLemmas.{entry_found}
use Rattle.er_epochs.proofs.Listed.{list_found}
use Rattle.er_epochs.proofs.reads.ReadLists.find.Goals as goal

pub returns-in-Some : goal.returns-in-Some
returns-in-Some g c =
    c.find.ensures
    ∙ ap (λ reads. tag_of_first (count_by c.args.clock.now) reads)
    (list_found c.self.inside.lists.entries c.args.number c.index.result.now
    (entry_found c.self.inside.lists c.in-Some.index c.args.number c.index.result.now c.in-Some.ensures.unique c.in-Some.ensures.key c.index.ensures)
    ∙ ap (λ lists. list_of lists c.args.number) c.self.view_is)
