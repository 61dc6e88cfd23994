-- What both reports ask is asked, in whatever order.
use Rattle.std.proofs.Common.{◌≡◌, ◌∙◌, ◌||◌, ℕ, Bool, List, [], ◌∷◌, nat_eq, ap, sym, vec_items}
use Rattle.std.specs.List.{list_any}
use Rattle.std.proofs.lemmas.List.Sorted.{list_any-IsPermutation}
use Rattle.er_places.proofs.finding.asked_of_races.Goals as goal

-- numbers that one report and then the other asks, and that are then sorted
both_asked : (none first second sorted asked : List ℕ) (n : ℕ) (a b : Bool) → none ≡ [] → list_any (nat_eq n) first ≡ (list_any (nat_eq n) none || a)
    → list_any (nat_eq n) second ≡ (list_any (nat_eq n) first || b) → list_any (nat_eq n) second ≡ list_any (nat_eq n) sorted → asked ≡ sorted → list_any (nat_eq n) asked ≡ (a || b)
both_asked [] first second sorted asked n a b empty one two same is = ap (list_any (nat_eq n)) is ∙ (sym same ∙ (two ∙ ap (λ (x : Bool). x || b) one))
both_asked (x ∷ xs) first second sorted asked n a b empty one two same is = absurd (cc)

pub returns-clause-asked : goal.returns-clause-asked
returns-clause-asked c = λ line.
    let sorted : List ℕ = c.sort_unstable.new.self.items in
    both_asked c.new-lines.result.items c.add_races.new.lines.items c.add_races-2.new.lines.items sorted (vec_items c.asked.result.wanted) line _ _ c.new-lines.ensures.items
    (c.in_ok-add_races.ensures.lines line) (c.in_ok-add_races-2.ensures.lines line)
    (list_any-IsPermutation (nat_eq line) c.add_races-2.new.lines.items sorted c.sort_unstable.ensures.permutation) (ap vec_items c.asked.ensures.wanted)

pub returns-clause-accessed : goal.returns-clause-accessed
returns-clause-accessed c = λ word.
    let sorted : List ℕ = c.sort_unstable-2.new.self.items in
    both_asked c.new-words.result.items c.add_races.new.words.items c.add_races-2.new.words.items sorted (vec_items c.asked.result.words) word _ _ c.new-words.ensures.items
    (c.in_ok-add_races.ensures.words word) (c.in_ok-add_races-2.ensures.words word)
    (list_any-IsPermutation (nat_eq word) c.add_races-2.new.words.items sorted c.sort_unstable-2.ensures.permutation) (ap vec_items c.asked.ensures.words)
