use Rattle.std.proofs.Common.{◌≡◌, ◌∙◌, ℕ, map, nat_eq, slice_set, None, refl, ap, ap₂, sym, subst}
use Rattle.std.specs.Map.{lookup}
use Rattle.er_event.proofs.Results.{on_ok}
use Rattle.er_clock.specs.Counts.{count_by}
use Rattle.er_epochs.specs.Epochs.{tagged}
use Rattle.er_epochs.specs.Known.{Known, IsKnownBy, finds, known_of, query_of}
use Rattle.er_epochs.specs.Words.{BlockWords, known_beside, said, slot_at, stored_beside, word_at}
use Rattle.er_epochs.proofs.KnownLemmas.{known-stored}
use Rattle.er_epochs.proofs.Listed.{if_ok}
use Rattle.er_epochs.proofs.Maps.{Puts}
use Rattle.er_epochs.proofs.Split.{slot-found, slot-put, slot-whole, slots-stay, split-none, split-put, split-there, whole-found}
use Rattle.er_epochs.proofs.block.Block.access.Goals as goal

pub returns-in-Some-clause-ok : goal.returns-in-Some-clause-ok
returns-in-Some-clause-ok g c =
    let items = c.self.inside.split.items in
    let old : BlockWords g.row.A.Denot = record { words = map said c.self.inside.words.items; split = items } in
    let new : BlockWords g.row.A.Denot = record { words = map said c.self.inside.words.items; split = slice_set items c.in-Some.at (c.index_mut.result.now.0, c.access.new.self) } in
    let puts : Puts old.split new.split c.args.place c.access.new.self = (λ q.
    ap (λ (e : ℕ × Known g.row.A.Denot). lookup (nat_eq q) (slice_set items c.in-Some.at (e.0, c.access.new.self))) c.index_mut.ensures.value
    ∙ split-put items c.args.place c.in-Some.at c.index_mut.result.now (sym c.in-Some.ensures) c.access.new.self q) in
    on_ok c.access.result _ _ c.access.ensures.ok (λ on.
    subst (λ (before : Known g.row.A.Denot). IsKnownBy (count_by c.args.clock.now) before (record { access = tagged c.args.clock.now.0 (count_by c.args.clock.now c.args.clock.now.0) c.args.tag; kind = c.args.kind; bytes = c.args.bytes }) (known_beside c.args.lists.now c.args.number (slot_at new c.args.place)))
    (ap (λ (e : ℕ × Known g.row.A.Denot). e.1) c.index_mut.ensures.value
    ∙ sym (slot-found c.args.lists.now c.args.number c.args.place old _ (split-there items c.args.place c.in-Some.at c.index_mut.result.now (sym c.in-Some.ensures)))
    ∙ ap (λ (block : BlockWords g.row.A.Denot). known_beside c.args.lists.now c.args.number (slot_at block c.args.place)) c.self.view_is)
    (subst (λ (after : Known g.row.A.Denot). IsKnownBy (count_by c.args.clock.now) c.index_mut.result.now.1 (record { access = tagged c.args.clock.now.0 (count_by c.args.clock.now c.args.clock.now.0) c.args.tag; kind = c.args.kind; bytes = c.args.bytes }) after)
    (sym (slot-put c.args.lists.now c.args.number c.args.place old new c.access.new.self puts))
    on))

pub returns-in-Some-clause-found : goal.returns-in-Some-clause-found
returns-in-Some-clause-found g c =
    let items = c.self.inside.split.items in
    let old : BlockWords g.row.A.Denot = record { words = map said c.self.inside.words.items; split = items } in
    if_ok c.access.result _ _ c.access.ensures.found (λ r found.
    found ∙ ap (λ k. finds (count_by c.args.clock.now) k (query_of c.args.kind c.args.bytes))
    (ap (λ (e : ℕ × Known g.row.A.Denot). e.1) c.index_mut.ensures.value
    ∙ sym (slot-found c.args.lists.now c.args.number c.args.place old _ (split-there items c.args.place c.in-Some.at c.index_mut.result.now (sym c.in-Some.ensures)))
    ∙ ap (λ (block : BlockWords g.row.A.Denot). known_beside c.args.lists.now c.args.number (slot_at block c.args.place)) c.self.view_is))

pub returns-in-Some-clause-places : goal.returns-in-Some-clause-places
returns-in-Some-clause-places g c = λ i apart.
    let items = c.self.inside.split.items in
    let old : BlockWords g.row.A.Denot = record { words = map said c.self.inside.words.items; split = items } in
    let new : BlockWords g.row.A.Denot = record { words = map said c.self.inside.words.items; split = slice_set items c.in-Some.at (c.index_mut.result.now.0, c.access.new.self) } in
    let puts : Puts old.split new.split c.args.place c.access.new.self = (λ q.
    ap (λ (e : ℕ × Known g.row.A.Denot). lookup (nat_eq q) (slice_set items c.in-Some.at (e.0, c.access.new.self))) c.index_mut.ensures.value
    ∙ split-put items c.args.place c.in-Some.at c.index_mut.result.now (sym c.in-Some.ensures) c.access.new.self q) in
    slots-stay old new c.args.place c.access.new.self puts refl i apart ∙ ap (λ (block : BlockWords g.row.A.Denot). slot_at block i) c.self.view_is

pub split_for-requires-clause-whole : goal.split_for-requires-clause-whole
split_for-requires-clause-whole g c =
    sym (ap (λ (block : BlockWords g.row.A.Denot). lookup (nat_eq c.args.place) block.split) c.self.view_is) ∙ split-none c.self.inside.split.items c.args.place (sym c.in-None.ensures)

pub returns-in-None-clause-ok : goal.returns-in-None-clause-ok
returns-in-None-clause-ok g c =
    let absent : lookup (nat_eq c.args.place) c.args.self.now.split ≡ None =
    sym (ap (λ (block : BlockWords g.row.A.Denot). lookup (nat_eq c.args.place) block.split) c.self.view_is) ∙ split-none c.self.inside.split.items c.args.place (sym c.in-None.ensures) in
    on_ok c.access_whole.result _ _ c.access_whole.ensures.ok (λ on.
    subst (λ (before : Known g.row.A.Denot). IsKnownBy (count_by c.args.clock.now) before (record { access = tagged c.args.clock.now.0 (count_by c.args.clock.now c.args.clock.now.0) c.args.tag; kind = c.args.kind; bytes = c.args.bytes }) (known_beside c.access_whole.new.lists c.args.number (slot_at c.access_whole.new.self c.args.place)))
    (sym (slot-whole c.args.lists.now c.args.number c.args.place c.args.self.now absent))
    (subst (λ (after : Known g.row.A.Denot). IsKnownBy (count_by c.args.clock.now) (known_of (stored_beside c.args.lists.now c.args.number (word_at c.args.self.now.words c.args.place))) (record { access = tagged c.args.clock.now.0 (count_by c.args.clock.now c.args.clock.now.0) c.args.tag; kind = c.args.kind; bytes = c.args.bytes }) after)
    (sym (slot-whole c.access_whole.new.lists c.args.number c.args.place c.access_whole.new.self (ap (λ split. lookup (nat_eq c.args.place) split) (c.access_whole.ensures.split) ∙ absent)))
    (rw (c.is_whole.ensures c.if-is_whole.true)
    (known-stored (count_by c.args.clock.now) (stored_beside c.args.lists.now c.args.number (word_at c.args.self.now.words c.args.place)) (stored_beside c.access_whole.new.lists c.args.number (word_at c.access_whole.new.self.words c.args.place))
    (tagged c.args.clock.now.0 (count_by c.args.clock.now c.args.clock.now.0) c.args.tag) c.args.kind on))))

pub returns-in-None-clause-found : goal.returns-in-None-clause-found
returns-in-None-clause-found g c =
    let absent : lookup (nat_eq c.args.place) c.args.self.now.split ≡ None =
    sym (ap (λ (block : BlockWords g.row.A.Denot). lookup (nat_eq c.args.place) block.split) c.self.view_is) ∙ split-none c.self.inside.split.items c.args.place (sym c.in-None.ensures) in
    if_ok c.access_whole.result _ _ c.access_whole.ensures.found (λ r found.
    found ∙ whole-found (count_by c.args.clock.now) (stored_beside c.args.lists.now c.args.number (word_at c.args.self.now.words c.args.place)) c.args.kind
    ∙ ap₂ (λ k bytes. finds (count_by c.args.clock.now) k (query_of c.args.kind bytes))
    (sym (slot-whole c.args.lists.now c.args.number c.args.place c.args.self.now absent))
    (sym (c.is_whole.ensures c.if-is_whole.true)))
