-- What an index of rules answers.
use Rattle.std.specs.Prelude.{ℕ, List, Option, Some, None}
use Rattle.std.specs.BTreeMap.{get_by_text}
use Rattle.er_rules.specs.Inner.Index.{first_of, first_taking}
use Rattle.er_rules.specs.declared.index.RuleIndex.{RuleIndex}

-- the first rule of the site
abbrev pub rule_of_site : RuleIndex → Option (List ℕ) → Option ℕ
rule_of_site index None = index.missing
rule_of_site index (Some name) = get_by_text index.named name

-- the first rule of a pattern that takes the site's name
abbrev pub rule_of_pattern : RuleIndex → Option (List ℕ) → Option ℕ
rule_of_pattern index site = first_taking index.patterns.items site

-- the first rule whose words have both
abbrev pub rule_of_words : RuleIndex → ℕ → ℕ → Option ℕ
rule_of_words index lo hi = first_of index.words.entries.items lo hi
