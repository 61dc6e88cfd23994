use Rattle.std.proofs.Common.{◌≤◌, ◌<◌, ℕ}
use Rattle.er_clock.specs.Clock.{count_in_part}
use Rattle.er_clock.proofs.rows.cover.Given as goal

abbrev pub invariant-loop-at : goal.invariant-loop-at
invariant-loop-at g l = (b o : ℕ) → b < l.at → count_in_part g.P.Part.counts l.others b o ≤ count_in_part g.P.Part.counts l.parts b o
