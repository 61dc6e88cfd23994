use Rattle.std.proofs.Common.{◌≡◌, flat_map, take}
use Rattle.er_sites.specs.Sites.{if_elsewhere}
use Rattle.er_sites.proofs.text.other_rows.Given as goal

-- of the rows so far those that are elsewhere were put
abbrev pub invariant-loop-row : goal.invariant-loop-row
invariant-loop-row l = l.others.items ≡ flat_map (if_elsewhere l.lines) (take l.row-index l.rows)
