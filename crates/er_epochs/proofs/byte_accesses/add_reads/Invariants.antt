use Rattle.std.proofs.Common.{◌≡◌, ◌++◌, map, take}
use Rattle.er_event.specs.declared.steps.Kind.TheVariants.{Read}
use Rattle.er_epochs.specs.Known.{whole_access}
use Rattle.er_epochs.proofs.byte_accesses.add_reads.Given as goal

abbrev pub invariant-loop-read : goal.invariant-loop-read
invariant-loop-read g l = l.accesses.items ≡ l.fn.accesses.items ++ map (whole_access Read) (take l.read-index l.reads.items)
