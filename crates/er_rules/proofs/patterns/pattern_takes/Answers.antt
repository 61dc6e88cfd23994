use Rattle.std.proofs.Common.{◌∙◌, ap}
use Rattle.er_rules.specs.Inner.Pieces.{rejoined}
use Rattle.er_rules.proofs.PatternLemmas.{alone, parted, apart}
use Rattle.er_rules.proofs.patterns.pattern_takes.Goals as goal

pub returns-in-None-default : goal.returns-in-None-default
returns-in-None-default c =
    let split = c.split_star.ensures in
    let piece = c.split_star.result.0.now in
    c.eq.ensures ∙ alone c.args.pattern.now piece c.args.name.now split.0 (split.1 ∙ ap (rejoined piece) c.in-None-default.is-0)

pub returns-in-Some-Some : goal.returns-in-Some-Some
returns-in-Some-Some c =
    let split = c.split_star.ensures in
    let piece = c.split_star.result.0.now in
    let cases = c.in-Some-Some.ensures.cases in
    c.takes_end.ensures
    ∙ parted c.args.pattern.now piece c.in-Some-Some.more.now c.args.name.now c.in-Some-Some.behind.now split.0 (split.1 ∙ ap (rejoined piece) c.in-Some-Some.is-0) cases.0 cases.1

pub returns-in-Some-None : goal.returns-in-Some-None
returns-in-Some-None c =
    let split = c.split_star.ensures in
    let piece = c.split_star.result.0.now in
    apart c.args.pattern.now piece c.in-Some-None.field-0-0.now c.args.name.now split.0 (split.1 ∙ ap (rejoined piece) c.in-Some-None.is-0) c.in-Some-None.ensures.cases
