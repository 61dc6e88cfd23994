-- The digits so far write the value.
use Rattle.er_text.specs.Inner.FastPath.{HexSoFar}
use Rattle.er_text.proofs.fast_path.digits_by_one.Given as goal

abbrev pub invariant-loop-i : goal.invariant-loop-i
invariant-loop-i l = HexSoFar l.bytes l.value l.i
