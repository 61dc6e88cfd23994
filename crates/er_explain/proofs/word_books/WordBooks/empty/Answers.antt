use Rattle.std.proofs.Common.{◌≡◌, ℕ, cond, subst}
use Rattle.er_explain.specs.WordBooks.{book_in, is_place_in}
use Rattle.indexmap.specs.IndexMap.{with_value_at}
use Rattle.er_explain.proofs.BlockLemmas.{emptied_block, absent_block}
use Rattle.er_keys.proofs.MapLemmas.{entry_found, entry_put}
use Rattle.er_explain.specs.Book.{Untouched}
use Rattle.er_explain.proofs.word_books.WordBooks.empty.Goals as goal

pub returns-in-Some : goal.returns-in-Some
returns-in-Some g c =
    subst (λ old. (w : ℕ) → book_in (with_value_at c.self.inside.blocks c.in-Some.index c.empty.new.self).entries w ≡ cond (is_place_in c.args.number c.args.«from» c.args.to w) Untouched (book_in old w)) c.self.view_is
    (emptied_block c.self.inside.blocks.entries (with_value_at c.self.inside.blocks c.in-Some.index c.empty.new.self).entries c.args.number c.args.«from» c.args.to c.index_mut.result.now c.empty.new.self
    (entry_found c.self.inside.blocks c.in-Some.index c.args.number c.index_mut.result.now c.in-Some.ensures.unique c.in-Some.ensures.key c.index_mut.ensures.value)
    (entry_put c.self.inside.blocks c.in-Some.index c.args.number c.index_mut.result.now c.in-Some.ensures.unique c.in-Some.ensures.key c.index_mut.ensures.value c.empty.new.self)
    c.empty.ensures)

pub returns-in_default : goal.returns-in_default
returns-in_default g c =
    subst (λ v. (w : ℕ) → book_in v w ≡ cond (is_place_in c.args.number c.args.«from» c.args.to w) Untouched (book_in v w)) c.self.view_is
    (absent_block c.self.inside.blocks.entries c.args.number c.args.«from» c.args.to c.in_default.ensures.none)
