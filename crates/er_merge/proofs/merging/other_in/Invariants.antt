use Rattle.std.proofs.Common.{◌≡◌, ◌+◌, drop}
use Rattle.er_merge.specs.Merging.{other_from}
use Rattle.er_merge.proofs.merging.other_in.Given as goal

abbrev pub invariant-loop-place : goal.invariant-loop-place
invariant-loop-place l = other_from (l.place + 2) l.first (drop l.place l.others) ≡ other_from 2 l.first l.others
