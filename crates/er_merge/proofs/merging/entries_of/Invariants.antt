use Rattle.std.proofs.Common.{◌≡◌, take, flat_map}
use Rattle.er_merge.specs.Merging.{entries_in}
use Rattle.er_merge.proofs.merging.entries_of.Given as goal

abbrev pub invariant-loop-part : goal.invariant-loop-part
invariant-loop-part l = l.entries.items ≡ flat_map entries_in (take l.part-index l.parts)
