use Rattle.std.proofs.Common.{◌+◌, ap}
use Rattle.er_rules.proofs.ReachLemmas.{of_words-one}
use Rattle.er_rules.proofs.reach.Reach.of_words.Goals as goal

pub returns : goal.returns
returns c = λ w. of_words-one _ _ _ c.args.words.now.first (c.args.words.now.last + 1) c.new-borders.ensures.items c.in_ok-push.ensures.items c.number.ensures.value (ap (λ n. n + 1) c.number-2.ensures.value) w
