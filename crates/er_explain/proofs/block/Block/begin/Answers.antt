-- One book more than none.
use Rattle.std.proofs.Common.{◌≡◌, ◌∙◌, [], ◌∷◌, ◌++◌, cond, length, nat_eq, replicate, slice_set, ap, arith, length-set}
use Rattle.er_explain.specs.Book.{Untouched}
use Rattle.er_explain.specs.Inner.Places.{kept_books}
use Rattle.er_explain.specs.WordBooks.{book_at_place}
use Rattle.er_explain.proofs.BlockLemmas.{one_kept}
use Rattle.er_explain.proofs.PlaceLemmas.{found-first}
use Rattle.er_explain.proofs.block.Block.begin.Goals as goal

pub invariant_of-result : goal.invariant_of-result
invariant_of-result g c =
    let one : length c.push_reserved.new.self.items ≡ 1 =
    ap (λ bs. length bs) c.push_reserved.ensures.items ∙ ap (λ bs. length (bs ++ (c.begin.result ∷ []))) c.in_ok-books.ensures.items in
    record { few = omega (arith, one); long = length-set (replicate 256 0) 0 c.args.place }

pub returns : goal.returns
returns g c i =
    ap (λ bs. book_at_place (kept_books (slice_set (replicate 256 0) 0 c.args.place) bs) i) (c.push_reserved.ensures.items ∙ ap (λ bs. bs ++ (c.begin.result ∷ [])) c.in_ok-books.ensures.items)
    ∙ one_kept (slice_set (replicate 256 0) 0 c.args.place) (c.begin.result ∷ []) c.args.place c.begin.result c.requires (λ k. found-first (replicate 256 0) c.begin.result c.args.place k (omega arith)) i
    ∙ ap (λ b. cond (nat_eq c.args.place i) b Untouched) c.begin.ensures
