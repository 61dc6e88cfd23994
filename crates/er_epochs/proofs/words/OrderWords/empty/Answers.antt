use Rattle.std.proofs.Common.{◌≡◌, ◌∙◌, ℕ, ◌+◌, ◌*◌, ◌&&◌, cond, [], false, Option, Some, IfSome, ap, sym, subst}
use Rattle.std.specs.Option.{option_map}
use Rattle.er_epochs.specs.Known.{Since}
use Rattle.er_clock.specs.Counts.{count_by}
use Rattle.er_epochs.specs.Words.{AllWords, known_among, is_place_in, IsLowest}
use Rattle.indexmap.specs.IndexMap.{with_value_at}
use Rattle.er_keys.proofs.MapLemmas.{entry_found, entry_put}
use Rattle.er_epochs.proofs.Blocks.{reset_block, absent_block}
use Rattle.er_epochs.proofs.Lowest.{is_used, use_found, lowest_in_block, named_in_block, none_in_absent}
use Rattle.er_epochs.proofs.words.OrderWords.empty.Goals as goal

pub returns-in_ok-place-in-Some-clause-reset : goal.returns-in_ok-place-in-Some-clause-reset
returns-in_ok-place-in-Some-clause-reset g c =
    let old : AllWords g.row.A.Denot = record { blocks = c.self.inside.blocks.entries; lists = c.self.inside.lists } in
    let new : AllWords g.row.A.Denot = record { blocks = (with_value_at c.self.inside.blocks c.in-Some.index c.reset.new.self).entries; lists = c.forget_lists.new.lists } in
    subst (λ (before : AllWords g.row.A.Denot). (w : ℕ) → known_among new w ≡ cond (is_place_in c.args.number c.args.«from» c.args.to w) (Since []) (known_among before w)) c.self.view_is
    (reset_block old new c.args.number c.args.«from» c.args.to c.index_mut-block.result.now c.reset.new.self
    (entry_found c.self.inside.blocks c.in-Some.index c.args.number c.index_mut-block.result.now c.in-Some.ensures.unique c.in-Some.ensures.key c.index_mut-block.ensures.value)
    (entry_put c.self.inside.blocks c.in-Some.index c.args.number c.index_mut-block.result.now c.in-Some.ensures.unique c.in-Some.ensures.key c.index_mut-block.ensures.value c.reset.new.self)
    c.reset.ensures c.forget_lists.ensures)

pub returns-in_ok-place-in-Some-clause-in_use : goal.returns-in_ok-place-in-Some-clause-in_use
returns-in_ok-place-in-Some-clause-in_use g c =
    let old : AllWords g.row.A.Denot = record { blocks = c.self.inside.blocks.entries; lists = c.self.inside.lists } in
    subst (λ (found : Option ℕ). IsLowest (λ w. is_place_in c.args.number c.args.«from» c.args.to w && is_used (count_by c.args.clock.now) (known_among c.args.self.now w)) found)
    (ap (λ (o : Option (ℕ × g.row.A.Denot)). option_map (λ place. c.args.number * 32 + place) (option_map (λ (found : ℕ × g.row.A.Denot). found.0) o)) c.in_ok-place-in-Some.was ∙ ap (λ (n : ℕ). Some n) (sym c.new.ensures))
    (subst (λ (before : AllWords g.row.A.Denot). IsLowest (λ w. is_place_in c.args.number c.args.«from» c.args.to w && is_used (count_by c.args.clock.now) (known_among before w)) (option_map (λ place. c.args.number * 32 + place) (option_map (λ (found : ℕ × g.row.A.Denot). found.0) c.first_in_use-found.result))) c.self.view_is
    (lowest_in_block old c.args.number c.args.«from» c.args.to c.index_mut-block.result.now (count_by c.args.clock.now) (option_map (λ (found : ℕ × g.row.A.Denot). found.0) c.first_in_use-found.result)
    (entry_found c.self.inside.blocks c.in-Some.index c.args.number c.index_mut-block.result.now c.in-Some.ensures.unique c.in-Some.ensures.key c.index_mut-block.ensures.value)
    c.requires.to c.first_in_use-found.ensures.lowest))

pub returns-in_ok-place-in-Some-clause-named : goal.returns-in_ok-place-in-Some-clause-named
returns-in_ok-place-in-Some-clause-named g c =
    let old : AllWords g.row.A.Denot = record { blocks = c.self.inside.blocks.entries; lists = c.self.inside.lists } in
    subst (λ (o : Option (ℕ × g.row.A.Denot)). IfSome {T = ℕ × g.row.A.Denot} (option_map (λ (found : ℕ × g.row.A.Denot). (c.args.number * 32 + found.0, found.1)) o) (λ found. Some found.1 ≡ use_found (count_by c.args.clock.now) (known_among c.args.self.now found.0))) c.in_ok-place-in-Some.was
    (subst (λ (before : AllWords g.row.A.Denot). IfSome {T = ℕ × g.row.A.Denot} (option_map (λ (found : ℕ × g.row.A.Denot). (c.args.number * 32 + found.0, found.1)) c.first_in_use-found.result) (λ found. Some found.1 ≡ use_found (count_by c.args.clock.now) (known_among before found.0))) c.self.view_is
    (named_in_block old c.args.number c.args.«from» c.args.to c.index_mut-block.result.now (count_by c.args.clock.now) c.first_in_use-found.result
    (entry_found c.self.inside.blocks c.in-Some.index c.args.number c.index_mut-block.result.now c.in-Some.ensures.unique c.in-Some.ensures.key c.index_mut-block.ensures.value)
    c.requires.to c.first_in_use-found.ensures.lowest c.first_in_use-found.ensures.named))
    ∙ ap (λ (n : ℕ). use_found (count_by c.args.clock.now) (known_among c.args.self.now n)) (sym c.new.ensures)

pub returns-in_err-place-in-Some-clause-reset : goal.returns-in_err-place-in-Some-clause-reset
returns-in_err-place-in-Some-clause-reset g c =
    let old : AllWords g.row.A.Denot = record { blocks = c.self.inside.blocks.entries; lists = c.self.inside.lists } in
    let new : AllWords g.row.A.Denot = record { blocks = (with_value_at c.self.inside.blocks c.in-Some.index c.reset.new.self).entries; lists = c.forget_lists.new.lists } in
    subst (λ (before : AllWords g.row.A.Denot). (w : ℕ) → known_among new w ≡ cond (is_place_in c.args.number c.args.«from» c.args.to w) (Since []) (known_among before w)) c.self.view_is
    (reset_block old new c.args.number c.args.«from» c.args.to c.index_mut-block.result.now c.reset.new.self
    (entry_found c.self.inside.blocks c.in-Some.index c.args.number c.index_mut-block.result.now c.in-Some.ensures.unique c.in-Some.ensures.key c.index_mut-block.ensures.value)
    (entry_put c.self.inside.blocks c.in-Some.index c.args.number c.index_mut-block.result.now c.in-Some.ensures.unique c.in-Some.ensures.key c.index_mut-block.ensures.value c.reset.new.self)
    c.reset.ensures c.forget_lists.ensures)

pub returns-in_err-place-in-Some-clause-in_use : goal.returns-in_err-place-in-Some-clause-in_use
returns-in_err-place-in-Some-clause-in_use g c =
    let old : AllWords g.row.A.Denot = record { blocks = c.self.inside.blocks.entries; lists = c.self.inside.lists } in
    subst (λ (found : Option ℕ). IsLowest (λ w. is_place_in c.args.number c.args.«from» c.args.to w && is_used (count_by c.args.clock.now) (known_among c.args.self.now w)) found)
    (ap (λ (o : Option (ℕ × g.row.A.Denot)). option_map (λ place. c.args.number * 32 + place) (option_map (λ (found : ℕ × g.row.A.Denot). found.0) o)) c.in_err-place-in-Some.was ∙ ap (λ (o : Option (ℕ × g.row.A.Denot)). option_map (λ (found : ℕ × g.row.A.Denot). found.0) o) (sym c.from_residual.ensures))
    (subst (λ (before : AllWords g.row.A.Denot). IsLowest (λ w. is_place_in c.args.number c.args.«from» c.args.to w && is_used (count_by c.args.clock.now) (known_among before w)) (option_map (λ place. c.args.number * 32 + place) (option_map (λ (found : ℕ × g.row.A.Denot). found.0) c.first_in_use-found.result))) c.self.view_is
    (lowest_in_block old c.args.number c.args.«from» c.args.to c.index_mut-block.result.now (count_by c.args.clock.now) (option_map (λ (found : ℕ × g.row.A.Denot). found.0) c.first_in_use-found.result)
    (entry_found c.self.inside.blocks c.in-Some.index c.args.number c.index_mut-block.result.now c.in-Some.ensures.unique c.in-Some.ensures.key c.index_mut-block.ensures.value)
    c.requires.to c.first_in_use-found.ensures.lowest))

pub returns-in-None-clause-reset : goal.returns-in-None-clause-reset
returns-in-None-clause-reset g c =
    subst (λ (v : AllWords g.row.A.Denot). (w : ℕ) → known_among v w ≡ cond (is_place_in c.args.number c.args.«from» c.args.to w) (Since []) (known_among v w)) c.self.view_is
    (absent_block (record { blocks = c.self.inside.blocks.entries; lists = c.self.inside.lists }) c.args.number c.args.«from» c.args.to c.in-None.ensures.none)

pub returns-in-None-clause-in_use : goal.returns-in-None-clause-in_use
returns-in-None-clause-in_use g c =
    subst (λ (v : AllWords g.row.A.Denot). (w : ℕ) → (is_place_in c.args.number c.args.«from» c.args.to w && is_used (count_by c.args.clock.now) (known_among v w)) ≡ false) c.self.view_is
    (none_in_absent (record { blocks = c.self.inside.blocks.entries; lists = c.self.inside.lists }) c.args.number c.args.«from» c.args.to (count_by c.args.clock.now) c.in-None.ensures.none)
