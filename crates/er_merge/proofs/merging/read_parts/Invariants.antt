use Rattle.std.proofs.Common.{take, map}
use Rattle.std.specs.Prelude.{vec_items}
use Rattle.er_merge.specs.Merging.{AreParts}
use Rattle.er_merge.proofs.merging.read_parts.Given as goal

abbrev pub invariant-loop-place : goal.invariant-loop-place
invariant-loop-place l = AreParts (take l.place (map vec_items l.texts)) l.parts.items
