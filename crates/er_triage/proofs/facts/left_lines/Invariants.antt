-- The lines that are left so far and those to come are all that will be left, and so it is of the counts.
use Rattle.std.proofs.Common.{◌≡◌, ◌++◌, ℕ, filter, option_map, slice_get}
use Rattle.std.specs.Vec.Iter.{into_iter_items}
use Rattle.er_rules.specs.Rules.{targets_of}
use Rattle.er_triage.specs.Facts.{taken_by, with_more}
use Rattle.er_triage.proofs.FactLemmas.{stays}
use Rattle.er_triage.proofs.facts.left_lines.Given as goal

abbrev pub invariant-loop-line : goal.invariant-loop-line
invariant-loop-line l = record {
  lines : l.left.items ++ filter (stays l.fn.places (targets_of l.fn.suppressions)) (into_iter_items l.line-iterator) ≡ filter (stays l.fn.places (targets_of l.fn.suppressions)) l.fn.lines.items;
  counts : (i : ℕ) → option_map (with_more (taken_by l.fn.places (targets_of l.fn.suppressions) (into_iter_items l.line-iterator) i)) (slice_get l.counts.items i)
      ≡ option_map (with_more (taken_by l.fn.places (targets_of l.fn.suppressions) l.fn.lines.items i)) (slice_get l.fn.counts.items i);
}
