use Rattle.std.proofs.Common.{◌∙◌, map, ap}
use Rattle.er_rules.specs.Targets.{ask_facts, target_of}
use Rattle.er_rules.proofs.MatchLemmas.{asking_is}
use Rattle.er_rules.proofs.rules.Suppressions.ask_facts.Goals as goal

pub returns : goal.returns
returns c = c.ask_facts.ensures ∙ (asking_is c.deref.result.now ∙ ap (λ rules. ask_facts (map target_of rules)) c.deref.ensures.value)
