use Rattle.std.proofs.Common.{◌≡◌, All, map, take, drop, length}
use Rattle.er_trace.specs.Appended.{AreNumbers, renumbered_site}
use Rattle.er_trace.specs.Names.{NameTable}
use Rattle.er_trace.specs.Trace.{HasSiteName}
use Rattle.er_trace.proofs.appending.NewTable.number_sites.Given as goal

-- the first sites have their new numbers, and the others are as they were
abbrev pub invariant-loop-at : goal.invariant-loop-at
invariant-loop-at l = record {
  len : length l.sites ≡ length l.fn.sites;
  done : (old new : NameTable) → AreNumbers l.self old new → All (HasSiteName old) l.fn.sites → take l.at l.sites ≡ map (renumbered_site old.sites new.sites) (take l.at l.fn.sites);
  rest : drop l.at l.sites ≡ drop l.at l.fn.sites;
}
