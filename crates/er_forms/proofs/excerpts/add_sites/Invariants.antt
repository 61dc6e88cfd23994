use Rattle.std.proofs.Common.{◌≤◌, length}
use Rattle.er_forms.proofs.excerpts.add_sites.Given as goal

abbrev pub invariant-loop-line : goal.invariant-loop-line
invariant-loop-line l = length l.sites.items ≤ 1000
