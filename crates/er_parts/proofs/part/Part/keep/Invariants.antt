use Rattle.std.proofs.Common.{◌≡◌, take}
use Rattle.std.specs.List.{count_by}
use Rattle.er_parts.specs.Parts.{is_of_page}
use Rattle.er_parts.proofs.KeepLemmas.{IsKept}
use Rattle.er_parts.proofs.part.Part.keep.Given as goal

abbrev pub invariant-loop-i : goal.invariant-loop-i
invariant-loop-i l = record {
  steps : IsKept l.self l.fn.steps.items l.fn.steps.items l.steps.items l.kept l.i;
  lines : IsKept l.self l.fn.steps.items l.fn.lines.items l.lines.items l.kept l.i;
  sites : IsKept l.self l.fn.steps.items l.fn.sites.items l.sites.items l.kept l.i;
  counted : l.counted ≡ count_by is_of_page (take l.kept l.steps.items);
}
