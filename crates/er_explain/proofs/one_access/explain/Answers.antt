use Rattle.std.proofs.Common.{◌≡◌, ◌+◌, ℕ, List, Option, Some, slice_get, sym, rules}
use Rattle.er_event.specs.declared.steps.Step.{Step}
use Rattle.er_model.specs.Answers.{reading_of}
use Rattle.er_model.specs.Explanations.{Explanation, latest, word_of}
use Rattle.er_explain.proofs.FoundLemmas.{found-at, unfound-at, found-explains, found-none}
use Rattle.er_explain.specs.Book.{Book, Joined, name_of}
use Rattle.er_explain.specs.Books.{book_at, joining_of}
use Rattle.er_explain.specs.Explaining.{explanation_at}
use Rattle.er_explain.specs.Naming.{named_book}
use Rattle.er_explain.specs.WordBooks.{book_in}
use Rattle.er_explain.proofs.one_access.explain.Goals as goal

pub returns-in_default-clause-none : goal.returns-in_default-clause-none
returns-in_default-clause-none c = found-none c.args.steps.now c.args.k _ (unfound-at c.args.steps.now c.args.k (sym c.in_default.ensures.word))

pub returns-in_default-clause-value : goal.returns-in_default-clause-value
returns-in_default-clause-value c = unfound-at c.args.steps.now c.args.k (sym c.in_default.ensures.word)

-- what is found is the step's explanation
found : (steps : List Step) (k w : ℕ) (b : Book ℕ) (told last : Option Explanation) → word_of (slice_get steps k) ≡ Some w → b ≡ book_at (reading_of steps) w (k + 1)
    → ((e : Explanation) → (told ≡ Some e → b ≡ Joined (joining_of e)) × (b ≡ Joined (joining_of e) → told ≡ Some e))
    → ((e : Explanation) → (last ≡ Some e → (told ≡ Some e) × (latest e.write e.uncovered ≡ k)) × ((told ≡ Some e) × (latest e.write e.uncovered ≡ k) → last ≡ Some e))
    → last ≡ explanation_at steps k
found steps k w b told last accesses known tells ends =
    found-at steps k w accesses b known last
    (λ e. ((λ is. let both = (ends e).0 is in ((tells e).0 both.0, both.1)), (λ both. (ends e).1 ((tells e).1 both.0, both.1))))

pub returns-clause-explained : goal.returns-clause-explained
returns-clause-explained c =
    found-explains c.args.steps.now c.args.k c.filter.result
    (found c.args.steps.now c.args.k c.in-Some.word (named_book name_of (book_in c.in_ok-books.books c.in-Some.word)) c.in_ok-found.found c.filter.result (sym c.in-Some.ensures.word) (c.in_ok-books.ensures c.in-Some.word) c.in_ok-found.ensures (λ e. search rules))

pub returns-clause-none : goal.returns-clause-none
returns-clause-none c =
    found-none c.args.steps.now c.args.k c.filter.result
    (found c.args.steps.now c.args.k c.in-Some.word (named_book name_of (book_in c.in_ok-books.books c.in-Some.word)) c.in_ok-found.found c.filter.result (sym c.in-Some.ensures.word) (c.in_ok-books.ensures c.in-Some.word) c.in_ok-found.ensures (λ e. search rules))

pub returns-clause-value : goal.returns-clause-value
returns-clause-value c =
    found c.args.steps.now c.args.k c.in-Some.word (named_book name_of (book_in c.in_ok-books.books c.in-Some.word)) c.in_ok-found.found c.filter.result (sym c.in-Some.ensures.word) (c.in_ok-books.ensures c.in-Some.word) c.in_ok-found.ensures (λ e. search rules)
