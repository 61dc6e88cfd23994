-- The place of the first byte that is no digit.
use Rattle.std.proofs.Common.{◌≡◌, length, position, unwrap_or, ap, ◌∙◌, rules, tests}
use Rattle.std.proofs.lemmas.Iterator.{YieldsList-from_slice}
use Rattle.std.proofs.lemmas.Iterator.Search.{position_from_yields_List}
use Rattle.er_lines.proofs.WordLemmas.{place_of}
use Rattle.er_merge.specs.Lines.{is_no_digit}
use Rattle.er_merge.proofs.lines.digits_len.Goals as goal

pub returns-clause-place : goal.returns-clause-place
returns-clause-place c =
    let bytes = c.args.text.now in
    let found : c.position-end.result ≡ position is_no_digit bytes = position_from_yields_List is_no_digit _ _ c.position-end.result c.position-end.ensures.ran (YieldsList-from_slice _ c.iter.ensures.rest) (λ x b q k. search (rules, tests)) in
    c.unwrap_or.ensures ∙ ap (λ r. unwrap_or r (length bytes)) found ∙ place_of is_no_digit bytes
