-- The book at the place goes on, or it gets one.
use Rattle.std.proofs.Common.{◌≡◌, ◌∙◌, ◌<◌, ◌≤◌, cond, length, nat_eq, slice_get, slice_set, refl, sym, ap, arith}
use Rattle.std.proofs.lemmas.Option.{slice_get_past, slice_get_read}
use Rattle.std.proofs.lemmas.Result.{on_ok_weaker}
use Rattle.er_explain.specs.Book.{Untouched}
use Rattle.er_explain.specs.Books.{book_accessed}
use Rattle.er_explain.specs.Inner.Places.{number_at, found_at, opened}
use Rattle.er_explain.specs.WordBooks.{book_at_place}
use Rattle.er_explain.proofs.BlockLemmas.{goes_on, own_book}
use Rattle.er_explain.proofs.PlaceLemmas.{found-number, found-set}
use Rattle.er_explain.proofs.block.Block.access.Goals as goal

pub returns-then-number-count : goal.returns-then-number-count
returns-then-number-count g c =
    let below : c.number_at-number.result < length c.self.inside.books.items = omega (arith, c.if-number-count.true, c.len-count.ensures) in
    let own : c.number_at-number.result ≡ number_at c.self.inside.places c.args.place = c.number_at-number.ensures.found c.if-number-count.true in
    let room : length c.self.inside.books.items ≤ length c.self.inside.places = let few = c.self.invariant.few in let long = c.self.invariant.long in omega (arith, few, long) in
    on_ok_weaker c.access.result
    (λ went. goes_on c.self.inside.places c.self.inside.places c.self.inside.books.items _ c.args.self.now c.args.place c.access.new.self
    (λ b. book_accessed b c.args.access c.args.access.thread c.args.access.kind c.args.cover.now)
    c.self.view_is c.requires
    (λ i. ap (λ n. found_at c.self.inside.places (slice_set c.self.inside.books.items n c.access.new.self) i) own
    ∙ found-set c.self.inside.places c.self.inside.books.items c.args.place c.access.new.self i room (omega (arith, own, below)))
    (went ∙ ap (λ o. book_accessed (opened o) c.args.access c.args.access.thread c.args.access.kind c.args.cover.now)
    (sym (found-number c.self.inside.places c.self.inside.books.items c.args.place room
    ∙ (ap (slice_get c.self.inside.books.items) (sym own) ∙ slice_get_read c.self.inside.books.items _ c.number_at-number.result c.index_mut.result.now refl below c.index_mut.ensures.value)))))
    c.access.ensures

pub returns : goal.returns
returns g c =
    let count : length c.self.inside.books.items ≡ c.len-count.result = omega (arith, c.len-count.ensures) in
    let room : length c.self.inside.books.items ≤ length c.self.inside.places = let few = c.self.invariant.few in let long = c.self.invariant.long in omega (arith, few, long) in
    let past : length c.self.inside.books.items ≤ number_at c.self.inside.places c.args.place =
    let none = c.number_at-number.ensures.none (omega (arith, c.if-number-count.false)) in omega (arith, none, count) in
    let empty : book_at_place c.args.self.now c.args.place ≡ Untouched =
    own_book c.self.inside.places c.self.inside.books.items c.args.self.now c.args.place c.self.view_is c.requires
    ∙ ap opened (found-number c.self.inside.places c.self.inside.books.items c.args.place room ∙ slice_get_past c.self.inside.books.items (number_at c.self.inside.places c.args.place) past) in
    on_ok_weaker c.put.result
    (λ put i. put i ∙ ap (λ b. cond (nat_eq c.args.place i) (book_accessed b c.args.access c.args.access.thread c.args.access.kind c.args.cover.now) (book_at_place c.args.self.now i)) (sym empty))
    (c.put.ensures empty)
