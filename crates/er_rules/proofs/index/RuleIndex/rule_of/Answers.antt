use Rattle.std.proofs.Common.{◌∙◌, option_copied, sym, ap, Option, List, ℕ}
use Rattle.er_rules.specs.Inner.Index.{least_of}
use Rattle.er_rules.specs.Inner.Rules.{rule_of_pattern, rule_of_site, rule_of_words}
use Rattle.er_rules.proofs.IndexLemmas.{least-nowhere}
use Rattle.er_rules.proofs.index.RuleIndex.rule_of.Goals as goal

pub returns-in-None : goal.returns-in-None
returns-in-None c =
    let index = c.args.self.now in
    c.lesser-in-None.ensures ∙ (ap (least_of index.missing) c.of_words-of_words.ensures ∙ (least-nowhere index.missing (rule_of_words index c.args.lo c.args.hi) index.patterns.items
    ∙ ap (λ (site : Option (List ℕ)). least_of (least_of (rule_of_site index site) (rule_of_pattern index site)) (rule_of_words index c.args.lo c.args.hi)) (sym (ap option_copied c.in-None.is))))
