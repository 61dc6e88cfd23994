-- A line that a rule takes is gone, and counted at the rule.
use Rattle.std.proofs.Common.{◌≡◌, ◌∙◌, ◌∷◌, ◌++◌, List, Some, filter, option_map, rules, slice_get, subst, sym}
use Rattle.std.specs.Vec.Iter.{into_iter_items}
use Rattle.er_report.specs.declared.report.Line.{Line}
use Rattle.er_rules.specs.Rules.{targets_of}
use Rattle.er_triage.specs.Facts.{line_rule, taken_by, with_more}
use Rattle.er_triage.proofs.FactLemmas.{counted_on, gone_on, stays}
use Rattle.er_triage.proofs.facts.left_lines.Goals as goal

pub loop-line-preserved-in-Some-line_rule : goal.loop-line-preserved-in-Some-line_rule
loop-line-preserved-in-Some-line_rule c =
    let table = c.args.places.now in
    let targets = targets_of c.args.suppressions.now in
    let line = c.in-Some.line in
    let place = c.in-Some-line_rule.rule in
    let rest : List Line = into_iter_items c.next.new.self in
    let comes : into_iter_items c.loop-line.line-iterator ≡ line ∷ rest = search rules in
    let rule : line_rule table targets line ≡ Some place = sym c.line_rule.ensures ∙ c.in-Some-line_rule.is in
    record {
      lines = gone_on table targets line rest c.loop-line.left.items (filter (stays table targets) c.args.lines.items) place rule
          (subst (λ (lines : List Line). c.loop-line.left.items ++ filter (stays table targets) lines ≡ filter (stays table targets) c.args.lines.items) comes c.loop-line.invariant.lines);
      counts = λ i. counted_on table targets line rest i place (slice_get c.loop-line.counts.items i) (slice_get c.count_one.new.counts.items i)
          (option_map (with_more (taken_by table targets c.args.lines.items i)) (slice_get c.args.counts.now.items i)) rule
          (subst (λ (lines : List Line). option_map (with_more (taken_by table targets lines i)) (slice_get c.loop-line.counts.items i) ≡ option_map (with_more (taken_by table targets c.args.lines.items i)) (slice_get c.args.counts.now.items i)) comes (c.loop-line.invariant.counts i))
          (c.count_one.ensures i);
    }
