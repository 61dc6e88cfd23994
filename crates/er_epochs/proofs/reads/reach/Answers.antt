use Rattle.std.proofs.Common.{◌≡◌, ◌∷◌, ◌++◌, ◌∙◌, [], nat_eq, slice_get}
use Rattle.std.specs.Map.{keys_of}
use Rattle.indexmap.proofs.CallerLemmas.{insert_entry-new}
use Rattle.er_epochs.proofs.Maps.{last_key}
use Rattle.er_epochs.proofs.reads.reach.Goals as goal

pub returns-in_ok-insert-in-None-clause-key : goal.returns-in_ok-insert-in-None-clause-key
returns-in_ok-insert-in-None-clause-key g c =
    let entries : c.insert.new.self.entries ≡ c.args.lists.now.entries ++ (c.args.number, c.new.result) ∷ [] =
    c.in_ok-insert-in-None.ensures.entries ∙ insert_entry-new nat_eq c.args.lists.now c.args.number c.new.result c.in-None.ensures.none in
    (λ k. slice_get (keys_of (entries k)) (c.len-index.ensures.len k)) ∙ last_key c.args.lists.now.entries c.args.number c.new.result
