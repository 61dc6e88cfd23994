-- The first books have been moved together, and those behind them are dropped.
use Rattle.std.proofs.Common.{◌≡◌, ◌≤◌, length, take}
use Rattle.er_explain.proofs.PlaceLemmas.{AreKeptTo}
use Rattle.er_explain.proofs.block.remove_between.Given as goal

abbrev pub invariant-loop-number : goal.invariant-loop-number
invariant-loop-number g l = AreKeptTo l.fn.places l.fn.books.items l.places l.books.items l.lo l.hi l.kept l.number

abbrev pub invariant-loop-books : goal.invariant-loop-books
invariant-loop-books g l = record {
  front : l.books.items ≡ take (length l.books.items) l.initial.books.items;
  more : l.kept ≤ length l.books.items;
}

abbrev pub decreases-loop-books : goal.decreases-loop-books
decreases-loop-books g l = length l.books.items
