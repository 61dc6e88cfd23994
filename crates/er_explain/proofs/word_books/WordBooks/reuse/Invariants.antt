use Rattle.er_explain.proofs.BlockLemmas.{AreEmptiedTo}
use Rattle.er_explain.proofs.word_books.WordBooks.reuse.Given as goal

abbrev pub invariant-loop-number : goal.invariant-loop-number
invariant-loop-number g l = AreEmptiedTo l.fn.self l.self l.fn.range l.number
