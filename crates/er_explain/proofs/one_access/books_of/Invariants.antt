-- The book of each word, and what each thread holds, are those of the steps so far.
use Rattle.std.proofs.Common.{ℕ}
use Rattle.er_explain.specs.Book.{name_of}
use Rattle.er_explain.specs.Following.{HasFollowed}
use Rattle.er_explain.specs.Naming.{named_book}
use Rattle.er_explain.specs.WordBooks.{book_in}
use Rattle.er_explain.proofs.one_access.books_of.Given as goal

abbrev pub invariant-loop-at : goal.invariant-loop-at
invariant-loop-at l = (w : ℕ) → HasFollowed l.steps w l.locks (named_book name_of (book_in l.books w)) l.at
