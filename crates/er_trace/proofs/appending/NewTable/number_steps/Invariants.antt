use Rattle.std.proofs.Common.{◌≡◌, All, map, take, drop, length}
use Rattle.er_trace.specs.Appended.{AreNumbers, renumbered_step}
use Rattle.er_trace.specs.Names.{NameTable}
use Rattle.er_trace.specs.Trace.{IsNamed}
use Rattle.er_trace.proofs.appending.NewTable.number_steps.Given as goal

-- the first steps have their new numbers, and the others are as they were
abbrev pub invariant-loop-at : goal.invariant-loop-at
invariant-loop-at l = record {
  len : length l.steps ≡ length l.fn.steps;
  done : (old new : NameTable) → AreNumbers l.self old new → All (IsNamed old) l.fn.steps → take l.at l.steps ≡ map (renumbered_step old new) (take l.at l.fn.steps);
  rest : drop l.at l.steps ≡ drop l.at l.fn.steps;
}
