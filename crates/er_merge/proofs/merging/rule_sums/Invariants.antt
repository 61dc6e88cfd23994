use Rattle.std.proofs.Common.{◌≡◌, map}
use Rattle.std.specs.List.{range_with_len}
use Rattle.er_merge.specs.Merging.{rule_sum}
use Rattle.er_merge.proofs.merging.rule_sums.Given as goal

abbrev pub invariant-loop-place : goal.invariant-loop-place
invariant-loop-place l = l.sums.items ≡ map (rule_sum l.parts) (range_with_len 0 l.place)
