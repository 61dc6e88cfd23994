use Rattle.std.proofs.Common.{◌∙◌, ◌/◌, ◌%◌, Some, None, refl, sym, ap}
use Rattle.er_explain.specs.WordBooks.{Blocks, book_in, joining_in}
use Rattle.er_explain.specs.declared.book.Access.{Access}
use Rattle.er_explain.proofs.BlockLemmas.{found_book}
use Rattle.er_keys.proofs.MapLemmas.{entry_found}
use Rattle.er_explain.proofs.word_books.WordBooks.joining.Goals as goal

pub returns-in-Some : goal.returns-in-Some
returns-in-Some g c =
    c.joining.ensures
    ∙ ap joining_in (found_book c.self.inside.blocks.entries c.args.word (c.number-at.result / 256) (c.number-at.result % 256) (Some c.index.result.now) (ap (λ n. n / 256) c.number-at.ensures.value) (ap (λ n. n % 256) c.number-at.ensures.value)
    (entry_found c.self.inside.blocks c.in-Some.index (c.number-at.result / 256) c.index.result.now c.in-Some.ensures.unique c.in-Some.ensures.key c.index.ensures))
    ∙ ap (λ (v : Blocks (Access g.row.A.Denot)). joining_in (book_in v c.args.word)) c.self.view_is

pub returns-in-None : goal.returns-in-None
returns-in-None g c =
    ap joining_in (found_book c.self.inside.blocks.entries c.args.word (c.number-at.result / 256) (c.args.word % 256) None (ap (λ n. n / 256) c.number-at.ensures.value) refl (sym c.in-None.ensures.none))
    ∙ ap (λ (v : Blocks (Access g.row.A.Denot)). joining_in (book_in v c.args.word)) c.self.view_is
