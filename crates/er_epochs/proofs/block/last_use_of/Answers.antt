use Rattle.std.proofs.Common.{◌∙◌, [], refl, ap}
use Rattle.er_event.specs.declared.steps.Kind.TheVariants.{Write}
use Rattle.er_clock.specs.Counts.{count_by}
use Rattle.er_epochs.specs.Epochs.{tag_found}
use Rattle.er_epochs.specs.Words.{list_of}
use Rattle.er_epochs.proofs.block.last_use_of.Goals as goal

pub returns-else-has_list : goal.returns-else-has_list
returns-else-has_list g c =
    c.find-else-has_list.ensures [] refl
    ∙ ap (λ stored. tag_found (count_by c.args.clock.now) stored Write) (c.has_list.ensures c.if-has_list.false [] (list_of c.args.lists.now c.args.number))
