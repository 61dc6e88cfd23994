use Rattle.std.proofs.Common.{◌∙◌, sym, ap}
use Rattle.er_rules.specs.Patterns.{pattern_takes, takes_end}
use Rattle.er_rules.proofs.PatternLemmas.{first_place, next_place, nowhere}
use Rattle.er_rules.proofs.patterns.behind_first.Goals as goal

pub returns-in-Some-default : goal.returns-in-Some-default
returns-in-Some-default c = λ more.
    let cases = c.in-Some-default.ensures.cases in
    c.loop-behind.invariant more ∙ (first_place c.args.piece.now more c.loop-behind.left.now c.requires cases.0 ∙ ap (takes_end (pattern_takes more)) (sym cases.1))

pub loop-behind-preserved : goal.loop-behind-preserved
loop-behind-preserved c = λ more.
    c.loop-behind.invariant more
    ∙ next_place c.args.piece.now more c.loop-behind.left.now c.in-None-Some.field-0-0-1.now c.in-None-Some.rest.now c.in-None-Some.ensures'.cases.0 c.requires c.in-None-Some.ensures.cases

pub returns-in-None-None : goal.returns-in-None-None
returns-in-None-None c = λ more.
    c.loop-behind.invariant more ∙ nowhere c.args.piece.now more c.loop-behind.left.now c.requires c.in-None-None.ensures.cases c.in-None-None.ensures'.cases
