-- The rules of a list of suppressions.
use Rattle.std.specs.Prelude.{List, map}
use Rattle.er_rules.specs.declared.rules.Suppressions.{Suppressions}
pub use Rattle.er_rules.specs.Targets.{Target, AtSite, AtSites, AtWords, AtFact, span_of, target_of, same_site, takes_name, is_among, takes, takes_reuse, asks_facts, ask_facts, matching_rule, matching_reuse_rule}

-- the targets of the rules, in their order
abbrev pub targets_of : Suppressions → List Target
targets_of s = map target_of s.rules.items
