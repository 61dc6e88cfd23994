use Rattle.std.proofs.Common.{◌∙◌, ℕ, map, ap, sym}
use Rattle.er_event.specs.declared.steps.Kind.TheVariants.{Write}
use Rattle.er_clock.specs.Counts.{count_by}
use Rattle.er_epochs.specs.Epochs.{tag_found}
use Rattle.er_epochs.specs.Known.{Known, finds, reuse_query}
use Rattle.er_epochs.specs.Words.{BlockWords, known_beside, said, slot_at, stored_beside, word_at}
use Rattle.er_epochs.proofs.Split.{slot-found, slot-whole, split-none, split-there, whole-used}
use Rattle.er_epochs.proofs.block.Block.last_use.Goals as goal

pub returns-in-Some : goal.returns-in-Some
returns-in-Some g c =
    let items = c.self.inside.split.items in
    let old : BlockWords g.row.A.Denot = record { words = map said c.self.inside.words.items; split = items } in
    c.find.ensures
    ∙ ap (λ k. finds (count_by c.args.clock.now) k reuse_query)
    (ap (λ (e : ℕ × Known g.row.A.Denot). e.1) c.index.ensures
    ∙ sym (slot-found c.args.lists.now c.args.number c.args.place old _ (split-there items c.args.place c.in-Some.at c.index.result.now (sym c.in-Some.ensures)))
    ∙ ap (λ (block : BlockWords g.row.A.Denot). known_beside c.args.lists.now c.args.number (slot_at block c.args.place)) c.self.view_is)

pub returns-in-None : goal.returns-in-None
returns-in-None g c =
    let old : BlockWords g.row.A.Denot = record { words = map said c.self.inside.words.items; split = c.self.inside.split.items } in
    c.last_use_of.ensures
    ∙ ap (λ word. tag_found (count_by c.args.clock.now) (stored_beside c.args.lists.now c.args.number word) Write) c.get.ensures.said
    ∙ whole-used (count_by c.args.clock.now) (stored_beside c.args.lists.now c.args.number (word_at old.words c.args.place))
    ∙ ap (λ k. finds (count_by c.args.clock.now) k reuse_query)
    (sym (slot-whole c.args.lists.now c.args.number c.args.place old (split-none old.split c.args.place (sym c.in-None.ensures)))
    ∙ ap (λ (block : BlockWords g.row.A.Denot). known_beside c.args.lists.now c.args.number (slot_at block c.args.place)) c.self.view_is)
