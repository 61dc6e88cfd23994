use Rattle.std.proofs.Common.{◌≡◌, ◌++◌, ℕ, List}
use Rattle.er_json.specs.Document.{rows_text}
use Rattle.er_json.specs.Inner.Sections.{has_none}
use Rattle.er_rules.specs.Rules.{targets_of}
use Rattle.er_json.specs.Sarif.{suppressed_below}
use Rattle.er_json.proofs.suppressed.put_suppressed.Given as goal

-- the results of the rules so far are put behind the others
abbrev pub invariant-loop-place : goal.invariant-loop-place
invariant-loop-place l = record {
  first : (rows : List (List ℕ)) → l.fn.is_first ≡ has_none rows → l.still_first ≡ has_none (rows ++ suppressed_below l.of l.rule_counts (targets_of l.rules) l.place);
  text : (old : List ℕ) (rows : List (List ℕ)) → l.fn.is_first ≡ has_none rows → l.fn.out.items ≡ old ++ rows_text rows → l.out.items ≡ old ++ rows_text (rows ++ suppressed_below l.of l.rule_counts (targets_of l.rules) l.place);
}
