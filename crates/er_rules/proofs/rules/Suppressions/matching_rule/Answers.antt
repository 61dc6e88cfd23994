use Rattle.std.proofs.Common.{◌∙◌, map, option_copied, ap₂}
use Rattle.er_rules.specs.Targets.{target_of}
use Rattle.er_rules.specs.Inner.Index.{least_of}
use Rattle.er_rules.proofs.MatchLemmas.{matching_is}
use Rattle.er_rules.proofs.rules.Suppressions.matching_rule.Goals as goal

pub returns-clause-matching_rule : goal.returns-clause-matching_rule
returns-clause-matching_rule c =
    c.rule_of.ensures
    ∙ (ap₂ least_of (ap₂ least_of (c.args.self.now.by_site (option_copied c.args.site)) (c.args.self.now.by_pattern (option_copied c.args.site))) (c.args.self.now.by_words c.args.word c.args.word) ∙ matching_is (map target_of c.args.self.now.rules.items) (option_copied c.args.site) c.args.word)
