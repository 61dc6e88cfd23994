-- One book more, which counts if its place has none.
use Rattle.std.proofs.Common.{◌≡◌, ◌∙◌, ◌+◌, ℕ, List, [], ◌∷◌, ◌++◌, cond, length, nat_eq, slice_set, sym, ap, arith, length-append, length-set}
use Rattle.er_explain.specs.Inner.Places.{found_at, kept_books}
use Rattle.er_explain.specs.WordBooks.{book_at_place}
use Rattle.er_explain.proofs.BlockLemmas.{one_put}
use Rattle.er_explain.proofs.PlaceLemmas.{found-put}
use Rattle.er_explain.proofs.block.Block.put.Goals as goal

-- the books are one more
one_longer : {X : Type 0} (books more : List X) (book : X) (n : ℕ) → more ≡ books ++ (book ∷ []) → length books ≡ n → length more ≡ n + 1
one_longer books more book n is long = ap (λ xs. length xs) is ∙ omega (arith, long, length-append books (book ∷ []))

pub invariant_of-self-2 : goal.invariant_of-self-2
invariant_of-self-2 g c =
    let more = one_longer c.self.inside.books.items c.push_reserved.new.self.items c.begin.result c.len-count.result
    (c.push_reserved.ensures.items ∙ ap (λ bs. bs ++ (c.begin.result ∷ [])) c.in_ok-reserve.ensures.items) (omega (arith, c.len-count.ensures)) in
    record {
      few = omega (arith, more, c.if-count-ge256.false);
      long = length-set c.self.inside.places c.len-count.result _ ∙ c.self.invariant.long;
    }

pub returns : goal.returns
returns g c empty i =
    let count : length c.self.inside.books.items ≡ c.len-count.result = omega (arith, c.len-count.ensures) in
    ap (λ bs. book_at_place (kept_books (slice_set c.self.inside.places c.len-count.result c.args.place) bs) i)
    (c.push_reserved.ensures.items ∙ ap (λ bs. bs ++ (c.begin.result ∷ [])) c.in_ok-reserve.ensures.items)
    ∙ one_put c.self.inside.places (slice_set c.self.inside.places c.len-count.result c.args.place) c.self.inside.books.items (c.self.inside.books.items ++ (c.begin.result ∷ [])) c.args.self.now c.args.place
    c.begin.result c.self.view_is c.requires empty
    (λ k. ap (λ n. found_at (slice_set c.self.inside.places n c.args.place) (c.self.inside.books.items ++ (c.begin.result ∷ [])) k) (sym count)
    ∙ found-put c.self.inside.places c.self.inside.books.items c.begin.result c.args.place k (let long = c.self.invariant.long in omega (arith, count, long, c.if-count-ge256.false))) i
    ∙ ap (λ b. cond (nat_eq c.args.place i) b (book_at_place c.args.self.now i)) c.begin.ensures
