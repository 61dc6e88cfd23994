use Rattle.std.proofs.Common.{◌≡◌, ◌+◌, drop}
use Rattle.er_merge.specs.Merging.{gap_from}
use Rattle.er_merge.proofs.merging.gap_in.Given as goal

abbrev pub invariant-loop-before : goal.invariant-loop-before
invariant-loop-before l = gap_from l.fn.parts (l.before + 1) (drop l.before l.places) ≡ gap_from l.fn.parts 1 l.places
