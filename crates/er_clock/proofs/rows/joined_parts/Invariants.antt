use Rattle.std.proofs.Common.{◌≡◌, ◌<◌, ℕ, max, length}
use Rattle.er_clock.specs.Clock.{count_in_part}
use Rattle.er_clock.proofs.rows.joined_parts.Given as goal

abbrev pub invariant-loop-at : goal.invariant-loop-at
invariant-loop-at g l =
    (length l.all.items ≡ l.at) × ((b o : ℕ) → b < l.at → count_in_part g.P.Part.counts l.all.items b o ≡ max (count_in_part g.P.Part.counts l.parts b o) (count_in_part g.P.Part.counts l.others b o))
