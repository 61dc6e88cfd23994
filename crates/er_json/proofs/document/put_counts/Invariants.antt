use Rattle.std.proofs.Common.{◌≡◌, ◌++◌, take, decimal, codes}
use Rattle.er_print.specs.Values.{values_text}
use Rattle.er_json.proofs.document.put_counts.Given as goal

abbrev pub invariant-loop-place : goal.invariant-loop-place
invariant-loop-place l = l.out.items ≡ (l.fn.out.items ++ codes ",\n\"suppressions\":[") ++ values_text decimal (take l.place l.counts)
