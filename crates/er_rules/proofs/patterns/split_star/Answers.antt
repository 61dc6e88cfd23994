use Rattle.std.proofs.Common.{◌+◌, ◌-◌, ◌∷◌, ◌++◌, ◌∙◌, List, ℕ, length, take, drop, ap, sym, refl, arith}
use Rattle.std.proofs.lemmas.List.{length-drop, take_all}
use Rattle.er_rules.specs.Patterns.{star}
use Rattle.er_rules.proofs.PatternLemmas.{no_star_in, star_splits}
use Rattle.er_rules.proofs.patterns.split_star.Goals as goal

pub returns-in-Some : goal.returns-in-Some
returns-in-Some c =
    let pattern = c.args.pattern.now in
    let place = c.in-Some.place in
    let split = star_splits pattern place (sym c.star_in.ensures ∙ c.in-Some.is) in
    let rest = drop (place + 1) pattern in
    (split.0, split.1 ∙ ap (λ (r : List ℕ). take place pattern ++ star ∷ r) (sym (take_all (length pattern - (place + 1)) rest (omega (arith, length-drop (place + 1) pattern)))))

pub returns-in-None : goal.returns-in-None
returns-in-None c = (no_star_in c.args.pattern.now (sym c.star_in.ensures ∙ c.in-None.is), refl)
