-- What the map answers for a text is the place of its bytes.
use Rattle.std.proofs.Common.{◌≡◌, ℕ, true, false, List, map, IfSome, IfNone, subst, ◌∙◌}
use Rattle.std.specs.String.{string_bytes}
use Rattle.er_trace.specs.Names.{is_known, number_of}
use Rattle.er_trace.proofs.NamesLemmas.{known_at, number_at, found_at, found_none}
use Rattle.er_trace.proofs.list.NameList.find.Goals as goal

pub returns-clause-some : goal.returns-clause-some
returns-clause-some c =
    let name = c.args.name.now in
    let keys = c.self.inside.names.keys in
    let P : List (List ℕ) → Type 0 = λ names. IfSome c.get_index_of.result (λ n. (n ≡ number_of names name) × (is_known names name ≡ true)) in
    subst P c.self.view_is
    (found_at c.get_index_of.result _ (is_known (map string_bytes keys) name) _ (number_of (map string_bytes keys) name) c.get_index_of.ensures.index (number_at name keys)
    (c.get_index_of.ensures.found ∙ known_at name keys))

pub returns-clause-none : goal.returns-clause-none
returns-clause-none c =
    let name = c.args.name.now in
    let keys = c.self.inside.names.keys in
    let P : List (List ℕ) → Type 0 = λ names. IfNone c.get_index_of.result (is_known names name ≡ false) in
    subst P c.self.view_is (found_none c.get_index_of.result (is_known (map string_bytes keys) name) (c.get_index_of.ensures.found ∙ known_at name keys))
