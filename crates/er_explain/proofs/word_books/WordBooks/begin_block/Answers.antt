use Rattle.std.proofs.Common.{◌≡◌, ◌==◌, ◌∙◌, ◌/◌, ◌%◌, ℕ, [], cond, nat_eq, None, refl, sym, ap, subst}
use Rattle.std.specs.Map.{lookup}
use Rattle.er_explain.specs.Book.{Owned}
use Rattle.er_explain.specs.WordBooks.{book_in}
use Rattle.er_explain.proofs.BlockLemmas.{first_book, found_book}
use Rattle.er_explain.proofs.word_books.WordBooks.begin_block.Goals as goal

pub returns-clause-books : goal.returns-clause-books
returns-clause-books g c =
    subst (λ old. (w : ℕ) → book_in c.insert.new.self.entries w ≡ cond (c.args.word == w) (Owned c.args.access.thread c.args.access) (book_in old w)) c.self.view_is
    (first_book c.self.inside.blocks.entries c.insert.new.self.entries c.args.word (c.number-at.result / 256) (c.number-at.result % 256) [] c.in_ok-block.block (λ _. Owned c.args.access.thread c.args.access)
    (ap (λ n. n / 256) c.number-at.ensures.value) (ap (λ n. n % 256) c.number-at.ensures.value)
    ((λ k. lookup (nat_eq (c.number-at.ensures.value k / 256)) (c.self.view_is k)) ∙ c.requires) c.in_ok-insert.ensures.updates.0 (λ i. refl) c.in_ok-block.ensures)

pub returns-clause-first : goal.returns-clause-first
returns-clause-first g c = sym (found_book c.args.self.now c.args.word (c.args.word / 256) (c.args.word % 256) None refl refl (sym c.requires))
