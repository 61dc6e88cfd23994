use Rattle.std.proofs.Common.{◌≡◌, ◌++◌, take, flat_map}
use Rattle.er_json.specs.Sarif.{reason_stack}
use Rattle.er_json.proofs.stacks.put_reason_stacks.Given as goal

abbrev pub invariant-loop-because : goal.invariant-loop-because
invariant-loop-because l = l.out.items ≡ l.fn.out.items ++ flat_map (reason_stack l.places l.line) (take l.because-index l.explained)
