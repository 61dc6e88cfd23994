-- What is inserted is what the record says, and of other locks nothing changes.
use Rattle.std.proofs.Common.{◌≡◌, ◌∙◌, ℕ, Bool, List, Option, Some, cond, ap, sym, rules}
use Rattle.std.specs.Cmp.Lexicographic.{slice_cmp}
use Rattle.std.specs.Ordering.{is_eq, nat_cmp}
use Rattle.std.specs.Str.{bytes_eq}
use Rattle.std.proofs.lemmas.Map.Text.{is_eq-slice_cmp}
use Rattle.er_binary.specs.Numbers.{name_at}
use Rattle.er_places.specs.Inner.Noting.{birth_behind, birth_by, birth_in}
use Rattle.er_places.specs.declared.facts.Birth.{Birth}
use Rattle.er_places.proofs.facts.Facts.add_lock.Goals as goal

pub returns-in_ok-insert-clause-births : goal.returns-in_ok-insert-clause-births
returns-in_ok-insert-clause-births c = λ name.
    let before = birth_in c.args.self.now name in
    let lock : List ℕ = name_at c.args.state.now.locks c.in-Some.lock in
    let said : birth_by c.args.state.now c.args.body.now ≡ Some (c.in-Some.lock, c.in-Some.birth) = first_of (search rules, cc) in
    let named : c.in_ok-key.key.items ≡ lock = c.in_ok-key.ensures.items ∙ c.get.ensures in
    let same : is_eq (slice_cmp nat_cmp c.in_ok-key.key.items name.items) ≡ bytes_eq lock name.items =
    is_eq-slice_cmp c.in_ok-key.key.items name.items ∙ ap (λ (key : List ℕ). bytes_eq key name.items) named in
    c.in_ok-insert.ensures.updates.0 name
    ∙ (ap (λ (here : Bool). cond here (Some c.in-Some.birth) before) same
    ∙ ap (λ (born : Option (ℕ × Birth)). birth_behind c.args.state.now born name.items before) (sym said))
