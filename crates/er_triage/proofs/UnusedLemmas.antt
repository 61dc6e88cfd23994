-- The line of the next rule, if it took no race, and those of the rules behind it.
use Rattle.std.proofs.Common.{◌≡◌, ◌<◌, ◌+◌, ◌∙◌, ℕ, cond, List, [], ◌∷◌, ◌++◌, length, map, drop, get_or, sym, ap, append_assoc, add-one}
use Rattle.std.proofs.Math.Seq.{drop-cons}
use Rattle.er_report.specs.declared.reports.Reports.{Reports}
use Rattle.er_rules.specs.Rules.{Target, target_of}
use Rattle.er_rules.specs.declared.rules.Rule.{Rule}
use Rattle.er_triage.specs.Texts.{is_unused, unused_from, unused_text}

abbrev pub line_of : Reports → ℕ → Target → List ℕ
line_of reports k target = cond (is_unused reports k) (unused_text (k + 1) target) []

next : (reports : Reports) (rules : List Rule) (k : ℕ) (d : Rule) → k < length rules
    → unused_from k reports (map target_of (drop k rules)) ≡ line_of reports k (target_of (get_or rules k d)) ++ unused_from (k + 1) reports (map target_of (drop (k + 1) rules))
next reports rules k d h =
    let step : drop k rules ≡ get_or rules k d ∷ drop (k + 1) rules = rw (add-one k) (drop-cons rules k d h) in
    ap (λ (rest : List Rule). unused_from k reports (map target_of rest)) step

pub unused_more : (before after whole : List ℕ) (reports : Reports) (rules : List Rule) (k : ℕ) (d : Rule) → k < length rules
    → after ≡ before ++ line_of reports k (target_of (get_or rules k d))
    → before ++ unused_from k reports (map target_of (drop k rules)) ≡ whole
    → after ++ unused_from (k + 1) reports (map target_of (drop (k + 1) rules)) ≡ whole
unused_more before after whole reports rules k d h put so_far =
    ap (λ (text : List ℕ). text ++ unused_from (k + 1) reports (map target_of (drop (k + 1) rules))) put
    ∙ append_assoc before (line_of reports k (target_of (get_or rules k d))) (unused_from (k + 1) reports (map target_of (drop (k + 1) rules)))
    ∙ ap (λ (text : List ℕ). before ++ text) (sym (next reports rules k d h)) ∙ so_far
