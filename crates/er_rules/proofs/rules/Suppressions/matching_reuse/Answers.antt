use Rattle.std.proofs.Common.{◌∙◌, map, option_copied, ap, ap₂}
use Rattle.er_rules.specs.Targets.{target_of}
use Rattle.er_rules.specs.Inner.Index.{least_of}
use Rattle.er_rules.proofs.MatchLemmas.{matching_reuse_at}
use Rattle.er_rules.proofs.rules.Suppressions.matching_reuse.Goals as goal

pub returns-in-Some-clause-matching_rule : goal.returns-in-Some-clause-matching_rule
returns-in-Some-clause-matching_rule c =
    c.rule_of.ensures
    ∙ (ap₂ least_of (ap₂ least_of (c.args.self.now.by_site (option_copied c.args.site)) (c.args.self.now.by_pattern (option_copied c.args.site))) (c.args.self.now.by_words c.args.range.lo c.args.range.hi)
    ∙ matching_reuse_at (map target_of c.args.self.now.rules.items) (option_copied c.args.site) _ c.args.range.lo c.args.range.hi (ap option_copied c.in-Some.is))
