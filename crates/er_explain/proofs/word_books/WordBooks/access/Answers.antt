use Rattle.std.proofs.Common.{◌≡◌, ◌==◌, ◌/◌, ◌%◌, ℕ, cond, Some, ap, subst}
use Rattle.er_explain.specs.Books.{book_accessed}
use Rattle.er_explain.specs.WordBooks.{book_in}
use Rattle.indexmap.specs.IndexMap.{with_value_at}
use Rattle.er_explain.proofs.BlockLemmas.{one_book}
use Rattle.er_keys.proofs.MapLemmas.{entry_found, entry_put}
use Rattle.er_explain.proofs.word_books.WordBooks.access.Goals as goal

pub returns-in_ok-access-in-Some : goal.returns-in_ok-access-in-Some
returns-in_ok-access-in-Some g c =
    subst (λ old. (w : ℕ) → book_in (with_value_at c.self.inside.blocks c.in-Some.index c.access.new.self).entries w
    ≡ cond (c.args.word == w) (book_accessed (book_in old c.args.word) c.args.access c.args.access.thread c.args.access.kind c.args.cover.now) (book_in old w)) c.self.view_is
    (one_book c.self.inside.blocks.entries (with_value_at c.self.inside.blocks c.in-Some.index c.access.new.self).entries c.args.word (c.number-at.result / 256) (c.number-at.result % 256) (Some c.index_mut-block.result.now) c.access.new.self
    (λ b. book_accessed b c.args.access c.args.access.thread c.args.access.kind c.args.cover.now)
    (ap (λ n. n / 256) c.number-at.ensures.value) (ap (λ n. n % 256) c.number-at.ensures.value)
    (entry_found c.self.inside.blocks c.in-Some.index (c.number-at.result / 256) c.index_mut-block.result.now c.in-Some.ensures.unique c.in-Some.ensures.key c.index_mut-block.ensures.value)
    (entry_put c.self.inside.blocks c.in-Some.index (c.number-at.result / 256) c.index_mut-block.result.now c.in-Some.ensures.unique c.in-Some.ensures.key c.index_mut-block.ensures.value c.access.new.self)
    c.in_ok-access-in-Some.ensures)
