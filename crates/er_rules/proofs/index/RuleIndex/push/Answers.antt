use Rattle.std.proofs.Common.{◌∙◌, cond, Some, None, sym, ap}
use Rattle.std.specs.Option.{option_or}
use Rattle.er_rules.specs.declared.index.Pattern.{Pattern}
use Rattle.er_rules.specs.declared.rules.Rule.{Rule}
use Rattle.er_rules.specs.Targets.{target_of, takes_name}
use Rattle.er_rules.specs.Inner.Index.{first_taking, is_of_pattern}
use Rattle.er_rules.proofs.IndexLemmas.{taking-push}
use Rattle.er_rules.proofs.index.RuleIndex.push.Goals as goal

pub returns-in_ok-bytes-in-Sites-clause-patterns : goal.returns-in_ok-bytes-in-Sites-clause-patterns
returns-in_ok-bytes-in-Sites-clause-patterns c = λ site.
    let pattern : Pattern = record { bytes = c.in_ok-bytes-in-Sites.bytes; rule = c.args.number } in
    ap (λ ps. first_taking ps site) c.push_reserved.ensures.items
    ∙ (taking-push c.reserve.new.self.items pattern site
    ∙ ((λ k. option_or (first_taking (c.reserve.ensures.items k) site) (cond (takes_name (c.in_ok-bytes-in-Sites.ensures.cases k) site) (Some c.args.number) None))
    ∙ ap (λ (r : Rule). option_or (first_taking c.args.self.now.patterns.items site) (cond (is_of_pattern (target_of r) site) (Some c.args.number) None)) (sym c.in-Sites.is)))
