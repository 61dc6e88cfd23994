use Rattle.std.proofs.Common.{◌≡◌, take}
use Rattle.std.specs.List.{sum_by}
use Rattle.er_merge.specs.Merging.{figure_of}
use Rattle.er_merge.proofs.merging.sum_of.Given as goal

abbrev pub invariant-loop-part : goal.invariant-loop-part
invariant-loop-part l = l.sum ≡ sum_by (figure_of l.figure) (take l.part-index l.parts)
