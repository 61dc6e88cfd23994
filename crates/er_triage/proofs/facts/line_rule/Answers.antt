-- The rules say what their targets say.
use Rattle.std.proofs.Common.{◌∙◌, List, ap, map, position}
use Rattle.er_rules.specs.Rules.{target_of}
use Rattle.er_rules.specs.declared.rules.Rule.{Rule}
use Rattle.er_triage.specs.Facts.{fact_rule, takes_fact}
use Rattle.er_triage.proofs.FactLemmas.{position-map}
use Rattle.er_triage.proofs.facts.line_rule.Goals as goal

pub returns : goal.returns
returns c =
    let table = c.args.places.now in
    let race = c.in_ok-race.race in
    let rules : List Rule = c.args.suppressions.now.rules.items in
    c.fact_rule.ensures
    ∙ (ap (λ (rs : List Rule). position (λ rule. takes_fact table race (target_of rule)) rs) c.deref.ensures.value
    ∙ (position-map (takes_fact table race) rules ∙ ap (fact_rule table (map target_of rules)) c.in_ok-race.ensures.value))
