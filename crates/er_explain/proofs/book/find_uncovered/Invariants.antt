use Rattle.std.proofs.Common.{◌≡◌, ◌++◌, take, drop, map}
use Rattle.er_explain.specs.Books.{pair_after}
use Rattle.er_explain.proofs.book.find_uncovered.Given as goal

abbrev pub invariant-loop-i : goal.invariant-loop-i
invariant-loop-i g l =
    l.pairs ≡ map (pair_after l.access l.cover) (take l.i l.fn.pairs) ++ drop l.i l.fn.pairs
