use Rattle.std.proofs.Common.{◌≡◌, arith, rules, tests}
use Rattle.std.specs.List.{list_all}
use Rattle.std.proofs.lemmas.Grind.{common_steps}
use Rattle.std.proofs.lemmas.Iterator.{YieldsList-from_slice}
use Rattle.std.proofs.lemmas.Iterator.Search.{all_from_yields_List}
use Rattle.er_lines.specs.Naming.{is_site_byte}
use Rattle.er_lines.proofs.naming.is_site_name.Goals as goal

pub returns-then-word-le128 : goal.returns-then-word-le128
returns-then-word-le128 c =
    let all : c.all.result ≡ list_all is_site_byte c.args.word.now = all_from_yields_List is_site_byte _ _ c.all.result c.all.ensures.ran (YieldsList-from_slice _ c.iter.ensures.rest) (λ x b q k. search (rules, tests)) in
    grind (arith, common_steps, all)
