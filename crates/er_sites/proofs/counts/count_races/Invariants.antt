use Rattle.std.proofs.Common.{take}
use Rattle.er_sites.specs.Counted.{AreCounts}
use Rattle.er_sites.proofs.counts.count_races.Given as goal

abbrev pub invariant-loop-line : goal.invariant-loop-line
invariant-loop-line l = AreCounts (take l.line-index l.lines) l.counts
