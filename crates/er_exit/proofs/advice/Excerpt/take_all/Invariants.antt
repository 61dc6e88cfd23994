use Rattle.std.proofs.Common.{◌≡◌, ◌++◌, ℕ, List, drop}
use Rattle.er_exit.specs.Inner.Excerpts.{line_with}
use Rattle.er_exit.proofs.advice.Excerpt.take_all.Given as goal

abbrev pub invariant-loop-byte : goal.invariant-loop-byte
invariant-loop-byte l =
    (rest : List ℕ) → line_with l.self.before l.self.ended l.self.line.items (drop l.byte-index l.piece ++ rest) ≡ line_with l.fn.self.before l.fn.self.ended l.fn.self.line.items (l.piece ++ rest)
