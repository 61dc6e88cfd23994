use Rattle.std.proofs.Common.{◌≡◌, ◌++◌, take, flat_map}
use Rattle.er_json.specs.Sarif.{call_frame}
use Rattle.er_json.proofs.stacks.put_calls.Given as goal

abbrev pub invariant-loop-call : goal.invariant-loop-call
invariant-loop-call l = l.out.items ≡ l.fn.out.items ++ flat_map (call_frame l.places) (take l.call-index l.calls)
