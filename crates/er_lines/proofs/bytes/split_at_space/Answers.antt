-- The search gives the place of the first space.
use Rattle.std.proofs.Common.{◌≡◌, position, arith, rules, tests}
use Rattle.std.proofs.lemmas.Grind.{common_steps}
use Rattle.std.proofs.lemmas.Iterator.{YieldsList-from_slice}
use Rattle.std.proofs.lemmas.Iterator.Search.{position_from_yields_List}
use Rattle.er_lines.specs.Lines.{is_space}
use Rattle.er_lines.proofs.bytes.split_at_space.Goals as goal

pub returns-in-Some-clause-before : goal.returns-in-Some-clause-before
returns-in-Some-clause-before c =
    let found : c.position.result ≡ position is_space c.args.bytes.now = position_from_yields_List is_space _ _ c.position.result c.position.ensures.ran (YieldsList-from_slice _ c.iter.ensures.rest) (λ x b q k. search (rules, tests)) in
    grind (arith, common_steps, found, c.in-Some.is)

pub returns-in-Some-clause-behind : goal.returns-in-Some-clause-behind
returns-in-Some-clause-behind c =
    let found : c.position.result ≡ position is_space c.args.bytes.now = position_from_yields_List is_space _ _ c.position.result c.position.ensures.ran (YieldsList-from_slice _ c.iter.ensures.rest) (λ x b q k. search (rules, tests)) in
    grind (arith, common_steps, found, c.in-Some.is)

pub returns-in-None-clause-before : goal.returns-in-None-clause-before
returns-in-None-clause-before c =
    let found : c.position.result ≡ position is_space c.args.bytes.now = position_from_yields_List is_space _ _ c.position.result c.position.ensures.ran (YieldsList-from_slice _ c.iter.ensures.rest) (λ x b q k. search (rules, tests)) in
    grind (arith, common_steps, found, c.in-None.is)

pub returns-in-None-clause-behind : goal.returns-in-None-clause-behind
returns-in-None-clause-behind c =
    let found : c.position.result ≡ position is_space c.args.bytes.now = position_from_yields_List is_space _ _ c.position.result c.position.ensures.ran (YieldsList-from_slice _ c.iter.ensures.rest) (λ x b q k. search (rules, tests)) in
    grind (arith, common_steps, found, c.in-None.is)
