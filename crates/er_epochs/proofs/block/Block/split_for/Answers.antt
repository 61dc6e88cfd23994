use Rattle.std.proofs.Common.{◌∙◌, map, nat_eq, refl, ap, sym, subst}
use Rattle.std.specs.Map.{lookup}
use Rattle.er_clock.specs.Counts.{count_by}
use Rattle.er_epochs.specs.Epochs.{tagged}
use Rattle.er_epochs.specs.Known.{Known, IsKnownBy, known_of}
use Rattle.er_epochs.specs.Words.{BlockWords, known_beside, said, slot_at, stored_beside, word_at}
use Rattle.er_epochs.proofs.Maps.{Puts}
use Rattle.er_epochs.proofs.Split.{slot-put, slot-whole, slots-stay, split-pushed}
use Rattle.er_epochs.proofs.block.Block.split_for.Goals as goal

pub returns-clause-ok : goal.returns-clause-ok
returns-clause-ok g c =
    let old : BlockWords g.row.A.Denot = record { words = map said c.self.inside.words.items; split = c.self.inside.split.items } in
    let new : BlockWords g.row.A.Denot = record { words = map said c.self.inside.words.items; split = c.push.new.self.items } in
    let puts : Puts old.split new.split c.args.place c.access.new.self = (λ q.
    ap (lookup (nat_eq q)) c.in_ok-push.ensures.items
    ∙ split-pushed c.self.inside.split.items c.args.place c.access.new.self (ap (λ (block : BlockWords g.row.A.Denot). lookup (nat_eq c.args.place) block.split) c.self.view_is ∙ c.requires.whole) q) in
    subst (λ (before : Known g.row.A.Denot). IsKnownBy (count_by c.args.clock.now) before (record { access = tagged c.args.clock.now.0 (count_by c.args.clock.now c.args.clock.now.0) c.args.tag; kind = c.args.kind; bytes = c.args.bytes }) (known_beside c.args.lists.now c.args.number (slot_at new c.args.place)))
    (c.in_ok-accesses.ensures
    ∙ ap (λ word. known_of (stored_beside c.args.lists.now c.args.number word)) (c.get-word.ensures.said ∙ ap (λ (block : BlockWords g.row.A.Denot). word_at block.words c.args.place) c.self.view_is)
    ∙ sym (slot-whole c.args.lists.now c.args.number c.args.place c.args.self.now c.requires.whole))
    (subst (λ (after : Known g.row.A.Denot). IsKnownBy (count_by c.args.clock.now) c.in_ok-accesses.accesses (record { access = tagged c.args.clock.now.0 (count_by c.args.clock.now c.args.clock.now.0) c.args.tag; kind = c.args.kind; bytes = c.args.bytes }) after)
    (sym (slot-put c.args.lists.now c.args.number c.args.place old new c.access.new.self puts))
    c.in_ok-rival.ensures.ok)

pub returns-clause-places : goal.returns-clause-places
returns-clause-places g c = λ i apart.
    let old : BlockWords g.row.A.Denot = record { words = map said c.self.inside.words.items; split = c.self.inside.split.items } in
    let new : BlockWords g.row.A.Denot = record { words = map said c.self.inside.words.items; split = c.push.new.self.items } in
    let puts : Puts old.split new.split c.args.place c.access.new.self = (λ q.
    ap (lookup (nat_eq q)) c.in_ok-push.ensures.items
    ∙ split-pushed c.self.inside.split.items c.args.place c.access.new.self (ap (λ (block : BlockWords g.row.A.Denot). lookup (nat_eq c.args.place) block.split) c.self.view_is ∙ c.requires.whole) q) in
    slots-stay old new c.args.place c.access.new.self puts refl i apart ∙ ap (λ (block : BlockWords g.row.A.Denot). slot_at block i) c.self.view_is
