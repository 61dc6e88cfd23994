-- The word's block was found, or made for it: in each case one word of one block goes on, with its list.
use Rattle.std.proofs.Common.{◌≡◌, ◌==◌, ◌∙◌, ℕ, false, refl, ap, subst}
use Rattle.er_event.proofs.Results.{on_ok, on_err, on_err_of}
use Rattle.er_epochs.specs.Epochs.{tagged}
use Rattle.er_epochs.specs.Known.{IsKnownBy, finds, query_of}
use Rattle.er_clock.specs.Counts.{count_by}
use Rattle.er_epochs.specs.Words.{AllWords, known_among}
use Rattle.indexmap.specs.IndexMap.{with_value_at}
use Rattle.er_keys.proofs.MapLemmas.{entry_found, entry_put}
use Rattle.er_epochs.proofs.Listed.{if_ok}
use Rattle.er_epochs.proofs.Blocks.{has_found, has_none, found_word, accessed, others_stay, same_words, same_absent}
use Rattle.er_epochs.proofs.words.OrderWords.access.Goals as goal

pub returns-in-Some-clause-ok : goal.returns-in-Some-clause-ok
returns-in-Some-clause-ok g c =
    let old : AllWords g.row.A.Denot = record { blocks = c.self.inside.blocks.entries; lists = c.self.inside.lists } in
    let new : AllWords g.row.A.Denot = record { blocks = (with_value_at c.self.inside.blocks c.in-Some.index c.access.new.self).entries; lists = c.access.new.lists } in
    on_ok c.access.result _ _ c.access.ensures.ok (λ on.
    subst (λ (before : AllWords g.row.A.Denot). IsKnownBy (count_by c.args.clock.now) (known_among before c.args.word) (record { access = tagged c.args.clock.now.0 (count_by c.args.clock.now c.args.clock.now.0) c.args.tag; kind = c.args.kind; bytes = c.args.bytes }) (known_among new c.args.word)) c.self.view_is
    (accessed old c.args.word c.number.result c.block-number.result c.place_in_block-place.result c.index_mut-block.result.now c.number.ensures.value c.block-number.ensures.value c.place_in_block-place.ensures.value
    (has_found c.self.inside.blocks.entries c.block-number.result c.index_mut-block.result.now
    (entry_found c.self.inside.blocks c.in-Some.index c.block-number.result c.index_mut-block.result.now c.in-Some.ensures.unique c.in-Some.ensures.key c.index_mut-block.ensures.value))
    new c.access.new.self
    (entry_put c.self.inside.blocks c.in-Some.index c.block-number.result c.index_mut-block.result.now c.in-Some.ensures.unique c.in-Some.ensures.key c.index_mut-block.ensures.value c.access.new.self)
    c.access.ensures.places c.access.ensures.lists (λ before after. IsKnownBy (count_by c.args.clock.now) before (record { access = tagged c.args.clock.now.0 (count_by c.args.clock.now c.args.clock.now.0) c.args.tag; kind = c.args.kind; bytes = c.args.bytes }) after) on))

pub returns-in-Some-clause-others : goal.returns-in-Some-clause-others
returns-in-Some-clause-others g c =
    let old : AllWords g.row.A.Denot = record { blocks = c.self.inside.blocks.entries; lists = c.self.inside.lists } in
    let new : AllWords g.row.A.Denot = record { blocks = (with_value_at c.self.inside.blocks c.in-Some.index c.access.new.self).entries; lists = c.access.new.lists } in
    subst (λ (before : AllWords g.row.A.Denot). (w : ℕ) → (c.args.word == w) ≡ false → known_among new w ≡ known_among before w) c.self.view_is
    (others_stay old c.args.word c.number.result c.block-number.result c.place_in_block-place.result c.index_mut-block.result.now c.number.ensures.value c.block-number.ensures.value c.place_in_block-place.ensures.value
    (has_found c.self.inside.blocks.entries c.block-number.result c.index_mut-block.result.now
    (entry_found c.self.inside.blocks c.in-Some.index c.block-number.result c.index_mut-block.result.now c.in-Some.ensures.unique c.in-Some.ensures.key c.index_mut-block.ensures.value))
    new c.access.new.self
    (entry_put c.self.inside.blocks c.in-Some.index c.block-number.result c.index_mut-block.result.now c.in-Some.ensures.unique c.in-Some.ensures.key c.index_mut-block.ensures.value c.access.new.self)
    c.access.ensures.places c.access.ensures.lists)

pub returns-in-Some-clause-found : goal.returns-in-Some-clause-found
returns-in-Some-clause-found g c =
    let old : AllWords g.row.A.Denot = record { blocks = c.self.inside.blocks.entries; lists = c.self.inside.lists } in
    if_ok c.access.result _ _ c.access.ensures.found (λ r found.
    found ∙ ap (λ k. finds (count_by c.args.clock.now) k (query_of c.args.kind c.args.bytes))
    (found_word old c.args.word c.number.result c.block-number.result c.place_in_block-place.result c.index_mut-block.result.now c.number.ensures.value c.block-number.ensures.value c.place_in_block-place.ensures.value
    (has_found c.self.inside.blocks.entries c.block-number.result c.index_mut-block.result.now
    (entry_found c.self.inside.blocks c.in-Some.index c.block-number.result c.index_mut-block.result.now c.in-Some.ensures.unique c.in-Some.ensures.key c.index_mut-block.ensures.value))
    ∙ ap (λ (before : AllWords g.row.A.Denot). known_among before c.args.word) c.self.view_is))

pub returns-in-Some-clause-err : goal.returns-in-Some-clause-err
returns-in-Some-clause-err g c =
    let old : AllWords g.row.A.Denot = record { blocks = c.self.inside.blocks.entries; lists = c.self.inside.lists } in
    let new : AllWords g.row.A.Denot = record { blocks = (with_value_at c.self.inside.blocks c.in-Some.index c.access.new.self).entries; lists = c.access.new.lists } in
    on_err c.access.result _ _ c.access.ensures.err (λ same.
    subst (λ (before : AllWords g.row.A.Denot). (w : ℕ) → known_among new w ≡ known_among before w) c.self.view_is
    (same_words old c.args.word c.number.result c.block-number.result c.place_in_block-place.result c.index_mut-block.result.now c.number.ensures.value c.block-number.ensures.value c.place_in_block-place.ensures.value
    (has_found c.self.inside.blocks.entries c.block-number.result c.index_mut-block.result.now
    (entry_found c.self.inside.blocks c.in-Some.index c.block-number.result c.index_mut-block.result.now c.in-Some.ensures.unique c.in-Some.ensures.key c.index_mut-block.ensures.value))
    new c.access.new.self
    (entry_put c.self.inside.blocks c.in-Some.index c.block-number.result c.index_mut-block.result.now c.in-Some.ensures.unique c.in-Some.ensures.key c.index_mut-block.ensures.value c.access.new.self)
    c.access.ensures.places c.access.ensures.lists same))

pub returns-in_ok-insert-in-None-clause-ok : goal.returns-in_ok-insert-in-None-clause-ok
returns-in_ok-insert-in-None-clause-ok g c =
    let old : AllWords g.row.A.Denot = record { blocks = c.self.inside.blocks.entries; lists = c.self.inside.lists } in
    let new : AllWords g.row.A.Denot = record { blocks = c.insert.new.self.entries; lists = c.access-in-None.new.lists } in
    subst (λ (before : AllWords g.row.A.Denot). IsKnownBy (count_by c.args.clock.now) (known_among before c.args.word) (record { access = tagged c.args.clock.now.0 (count_by c.args.clock.now c.args.clock.now.0) c.args.tag; kind = c.args.kind; bytes = c.args.bytes }) (known_among new c.args.word)) c.self.view_is
    (accessed old c.args.word c.number-in-None.result c.block-number.result c.place_in_block-place.result c.in_ok-block-in-None.block c.number-in-None.ensures.value c.block-number.ensures.value c.place_in_block-place.ensures.value
    (has_none c.self.inside.blocks.entries c.block-number.result c.in_ok-block-in-None.block c.in-None.ensures.none c.in_ok-block-in-None.ensures)
    new c.access-in-None.new.self c.in_ok-insert-in-None.ensures.updates.0
    c.access-in-None.ensures.places c.access-in-None.ensures.lists (λ before after. IsKnownBy (count_by c.args.clock.now) before (record { access = tagged c.args.clock.now.0 (count_by c.args.clock.now c.args.clock.now.0) c.args.tag; kind = c.args.kind; bytes = c.args.bytes }) after) c.in_ok-rival-in-None.ensures.ok)

pub returns-in_ok-insert-in-None-clause-others : goal.returns-in_ok-insert-in-None-clause-others
returns-in_ok-insert-in-None-clause-others g c =
    let old : AllWords g.row.A.Denot = record { blocks = c.self.inside.blocks.entries; lists = c.self.inside.lists } in
    let new : AllWords g.row.A.Denot = record { blocks = c.insert.new.self.entries; lists = c.access-in-None.new.lists } in
    subst (λ (before : AllWords g.row.A.Denot). (w : ℕ) → (c.args.word == w) ≡ false → known_among new w ≡ known_among before w) c.self.view_is
    (others_stay old c.args.word c.number-in-None.result c.block-number.result c.place_in_block-place.result c.in_ok-block-in-None.block c.number-in-None.ensures.value c.block-number.ensures.value c.place_in_block-place.ensures.value
    (has_none c.self.inside.blocks.entries c.block-number.result c.in_ok-block-in-None.block c.in-None.ensures.none c.in_ok-block-in-None.ensures)
    new c.access-in-None.new.self c.in_ok-insert-in-None.ensures.updates.0
    c.access-in-None.ensures.places c.access-in-None.ensures.lists)

pub returns-in_ok-insert-in-None-clause-found : goal.returns-in_ok-insert-in-None-clause-found
returns-in_ok-insert-in-None-clause-found g c =
    let old : AllWords g.row.A.Denot = record { blocks = c.self.inside.blocks.entries; lists = c.self.inside.lists } in
    c.in_ok-rival-in-None.ensures.found ∙ ap (λ k. finds (count_by c.args.clock.now) k (query_of c.args.kind c.args.bytes))
    (found_word old c.args.word c.number-in-None.result c.block-number.result c.place_in_block-place.result c.in_ok-block-in-None.block c.number-in-None.ensures.value c.block-number.ensures.value c.place_in_block-place.ensures.value
    (has_none c.self.inside.blocks.entries c.block-number.result c.in_ok-block-in-None.block c.in-None.ensures.none c.in_ok-block-in-None.ensures)
    ∙ ap (λ (before : AllWords g.row.A.Denot). known_among before c.args.word) c.self.view_is)

pub returns-in_err-rival-in-None-clause-err : goal.returns-in_err-rival-in-None-clause-err
returns-in_err-rival-in-None-clause-err g c =
    let old : AllWords g.row.A.Denot = record { blocks = c.self.inside.blocks.entries; lists = c.self.inside.lists } in
    let new : AllWords g.row.A.Denot = record { blocks = c.self.inside.blocks.entries; lists = c.access-in-None.new.lists } in
    on_err_of _ _
    (subst (λ (before : AllWords g.row.A.Denot). (w : ℕ) → known_among new w ≡ known_among before w) c.self.view_is
    (same_absent old new c.args.word c.number-in-None.result c.block-number.result c.number-in-None.ensures.value c.block-number.ensures.value c.in-None.ensures.none refl c.access-in-None.ensures.lists))

pub returns-in_err-insert-in-None-clause-err : goal.returns-in_err-insert-in-None-clause-err
returns-in_err-insert-in-None-clause-err g c =
    let old : AllWords g.row.A.Denot = record { blocks = c.self.inside.blocks.entries; lists = c.self.inside.lists } in
    let new : AllWords g.row.A.Denot = record { blocks = c.insert.new.self.entries; lists = c.access-in-None.new.lists } in
    on_err_of _ _
    (subst (λ (before : AllWords g.row.A.Denot). (w : ℕ) → known_among new w ≡ known_among before w) c.self.view_is
    (same_absent old new c.args.word c.number-in-None.result c.block-number.result c.number-in-None.ensures.value c.block-number.ensures.value c.in-None.ensures.none c.in_err-insert-in-None.ensures.err c.access-in-None.ensures.lists))

pub returns-in_err-rival-in-None-clause-others : goal.returns-in_err-rival-in-None-clause-others
returns-in_err-rival-in-None-clause-others g c w apart =
    let old : AllWords g.row.A.Denot = record { blocks = c.self.inside.blocks.entries; lists = c.self.inside.lists } in
    let new : AllWords g.row.A.Denot = record { blocks = c.self.inside.blocks.entries; lists = c.access-in-None.new.lists } in
    subst (λ (before : AllWords g.row.A.Denot). (w : ℕ) → known_among new w ≡ known_among before w) c.self.view_is
    (same_absent old new c.args.word c.number-in-None.result c.block-number.result c.number-in-None.ensures.value c.block-number.ensures.value c.in-None.ensures.none refl c.access-in-None.ensures.lists) w

pub returns-in_err-insert-in-None-clause-others : goal.returns-in_err-insert-in-None-clause-others
returns-in_err-insert-in-None-clause-others g c w apart =
    let old : AllWords g.row.A.Denot = record { blocks = c.self.inside.blocks.entries; lists = c.self.inside.lists } in
    let new : AllWords g.row.A.Denot = record { blocks = c.insert.new.self.entries; lists = c.access-in-None.new.lists } in
    subst (λ (before : AllWords g.row.A.Denot). (w : ℕ) → known_among new w ≡ known_among before w) c.self.view_is
    (same_absent old new c.args.word c.number-in-None.result c.block-number.result c.number-in-None.ensures.value c.block-number.ensures.value c.in-None.ensures.none c.in_err-insert-in-None.ensures.err c.access-in-None.ensures.lists) w
