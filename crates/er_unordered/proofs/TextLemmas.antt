-- Where each access touches its whole word, the report is that by words.
use Rattle.std.proofs.Common.{◌≡◌, ℕ, Bool, cond, List, [], None, ap, ap₂}
use Rattle.std.proofs.Math.Path.{fun_ext}
use Rattle.er_order.proofs.ByBytes.{whole-answers, whole-named}
use Rattle.er_order.specs.ByBytes.{Touched, whole}
use Rattle.er_order.specs.Races.{order_answer}
use Rattle.er_order.specs.Reasons.{unordered_with}
use Rattle.er_report.specs.Report.{Answering, report_by}
use Rattle.er_report.specs.declared.report.Because.{Because}
use Rattle.er_rules.specs.Rules.{Target}
use Rattle.er_trace.specs.Trace.{Recording}
use Rattle.er_unordered.specs.Reasons.{order_reasons, reasons_with}
use Rattle.er_unordered.specs.Reports.{unordered_report}

reasons-whole : (r : Recording) (touched : Touched) → ((k : ℕ) → touched k ≡ whole) → (k : ℕ) → order_reasons touched r k ≡ reasons_with r (unordered_with r.steps k)
unfolding order_reasons
reasons-whole r touched all k = ap (reasons_with r) (whole-named touched all r.steps k)

pub report-whole : (r : Recording) (touched : Touched) (rules : List Target) (explain : Bool) → ((k : ℕ) → touched k ≡ whole)
    → unordered_report r touched rules explain ≡ report_by (order_answer r.steps) (λ k. cond explain (reasons_with r (unordered_with r.steps k)) []) r rules None
report-whole r touched rules explain all =
    ap₂ (λ (answers : Answering) (reasons : ℕ → List Because). report_by answers reasons r rules None) (fun_ext (λ k. whole-answers touched all r.steps k))
    (fun_ext (λ k. ap (λ (reasons : List Because). cond explain reasons []) (reasons-whole r touched all k)))
