-- The book of a place without one says nothing.
use Rattle.std.proofs.Common.{◌∙◌, slice_get, ap, sym, arith}
use Rattle.er_explain.specs.Inner.Places.{opened}
use Rattle.er_explain.specs.WordBooks.{joining_in}
use Rattle.er_explain.proofs.BlockLemmas.{own_book}
use Rattle.er_explain.proofs.PlaceLemmas.{found-by}
use Rattle.er_explain.proofs.block.Block.joining.Goals as goal

pub returns : goal.returns
returns g c =
    c.joining_at.ensures
    ∙ (ap (λ bs. joining_in (opened (slice_get bs c.number_at-number.result))) c.deref.ensures.value
    ∙ ap joining_in
    (ap opened (found-by c.self.inside.places c.self.inside.books.items c.args.place c.number_at-number.result
    (let few = c.self.invariant.few in let long = c.self.invariant.long in omega (arith, few, long))
    (λ below. c.number_at-number.ensures.found (omega (arith, below, c.len.ensures)))
    (λ past. let none = c.number_at-number.ensures.none (omega (arith, past, c.len.ensures)) in omega (arith, none, c.len.ensures)))
    ∙ sym (own_book c.self.inside.places c.self.inside.books.items c.args.self.now c.args.place c.self.view_is c.requires)))
