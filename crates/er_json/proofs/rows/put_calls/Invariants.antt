use Rattle.std.proofs.Common.{◌≡◌, ◌++◌, take, codes}
use Rattle.er_json.specs.Document.{call_text}
use Rattle.er_print.specs.Values.{values_text}
use Rattle.er_json.proofs.rows.put_calls.Given as goal

abbrev pub invariant-loop-place : goal.invariant-loop-place
invariant-loop-place l = l.out.items ≡ (l.fn.out.items ++ codes ",\"calls\":[") ++ values_text (call_text l.places) (take l.place l.calls)
