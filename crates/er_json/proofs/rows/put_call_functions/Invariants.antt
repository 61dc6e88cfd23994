use Rattle.std.proofs.Common.{◌≡◌, ◌++◌, take, flat_map}
use Rattle.er_json.specs.Document.{function_item}
use Rattle.er_json.proofs.rows.put_call_functions.Given as goal

abbrev pub invariant-loop-call : goal.invariant-loop-call
invariant-loop-call l = l.out.items ≡ l.fn.out.items ++ flat_map (function_item l.places) (take l.call-index l.calls)
