use Rattle.std.proofs.Common.{◌≡◌, ◌∙◌, ℕ, List, Some, slice_get, option_map, take, map, refl, sym, ap, arith}
use Rattle.std.proofs.lemmas.Option.{slice_get_read, slice_get-map}
use Rattle.std.proofs.lemmas.List.{take_all}
use Rattle.er_explain.specs.Book.{name_of}
use Rattle.er_explain.specs.Naming.{named_option, named_pair, named_joining}
use Rattle.er_explain.specs.declared.book.Access.{Access}
use Rattle.er_explain.specs.declared.book.Pair.{Pair}
use Rattle.er_explain.proofs.BookLemmas.{told-joining, untold-pair}
use Rattle.er_explain.proofs.one_access.told_by.Goals as goal

-- what the joining says, by the names alone
pub returns-in_default-at : goal.returns-in_default-at
returns-in_default-at c =
    let pairs : List (Pair (Access ℕ)) = c.pairs-pair-items.result.now in
    let here : slice_get pairs c.loop-pair.pair-index ≡ Some c.pair-item.result = slice_get_read pairs _ c.loop-pair.pair-index c.pair-item.result refl (omega arith) c.pair-item.is in
    let there : slice_get c.args.joint.now.pairs c.loop-pair.pair-index ≡ Some c.pair-item.result = rw c.pairs-pair-items.ensures at here in
    untold-pair (named_joining name_of c.args.joint.now) c.loop-pair.pair-index (named_pair name_of c.pair-item.result)
    (slice_get-map (named_pair name_of) c.args.joint.now.pairs c.loop-pair.pair-index ∙ ap (option_map (named_pair name_of)) there)
    (ap (named_option name_of) c.in_default-at.is)

pub returns : goal.returns
returns c =
    let pairs : List (Pair (Access ℕ)) = c.pairs-pair-items.result.now in
    let all : take c.loop-pair.pair-index pairs ≡ pairs = take_all c.loop-pair.pair-index pairs (omega arith) in
    let told : map (named_pair name_of) c.args.joint.now.pairs ≡ map (λ u. record { lock = u.lock; at = Some u.at }) c.loop-pair.uncovered.items =
    ap (map (named_pair name_of)) (sym c.pairs-pair-items.ensures ∙ sym all) ∙ c.loop-pair.invariant in
    told-joining (named_joining name_of c.args.joint.now) c.first.result.at c.join.result.at c.in-Some.write.at c.loop-pair.uncovered.items
    (λ i. record { first = name_of (sym c.first.ensures i); join = name_of (sym c.join.ensures i); write = named_option name_of ((sym c.write.ensures ∙ c.in-Some.is) i); pairs = told i })
