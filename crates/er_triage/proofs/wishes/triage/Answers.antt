-- The notes are the lines of rules, if they are wanted, and then the count of races left out.
use Rattle.std.proofs.Common.{◌≡◌, ◌-◌, ◌++◌, ◌∙◌, ℕ, Bool, true, false, List, [], length, Option, Some, None, ap, arith}
use Rattle.er_report.specs.declared.report.Line.{Line}
use Rattle.er_report.specs.declared.report.Report.{Report}
use Rattle.er_report.specs.declared.reports.Reports.{Reports}
use Rattle.er_triage.specs.First.{KeepsFirst}
use Rattle.er_triage.specs.Known.{lines_in, lines_of}
use Rattle.er_triage.specs.Notes.{AreNotes, notes_text}
use Rattle.er_triage.specs.Texts.{left_out_text}
use Rattle.er_rules.specs.Rules.{Target, targets_of}
use Rattle.er_triage.proofs.wishes.triage.Goals as goal

noted : (wanted : Bool) (reports : Reports) (rules : List Target) (left_out : ℕ) (text : List ℕ) → text ≡ notes_text wanted reports rules left_out → AreNotes text
noted true reports rules left_out text is = record { reports = reports; rules = rules; left_out = left_out; says = is }
noted false reports rules left_out text is = record { reports = reports; rules = []; left_out = left_out; says = is }

none_left : (xs n : ℕ) → n ≡ xs → xs - n ≡ 0
none_left xs n same = omega arith

quiet : (wanted : Bool) (most : Option ℕ) (reports kept : Reports) (rules : List Target) (text : List ℕ) → wanted ≡ false → most ≡ None
    → KeepsFirst most reports.lockset kept.lockset → KeepsFirst most reports.unordered kept.unordered
    → text ≡ notes_text wanted reports rules (length (lines_of reports) - length (lines_of kept)) → text ≡ []
quiet true most reports kept rules text unasked unlimited lockset unordered says = absurd (cc)
quiet false (Some n) reports kept rules text unasked unlimited lockset unordered says = absurd (cc)
quiet false None reports kept rules text unasked unlimited lockset unordered says =
    let same : lines_of kept ≡ lines_of reports =
    ap (λ (r : Option Report). lines_in r ++ lines_in kept.unordered) lockset ∙ ap (λ (r : Option Report). lines_in reports.lockset ++ lines_in r) unordered in
    says ∙ ap left_out_text (none_left (length (lines_of reports)) (length (lines_of kept)) (ap (λ (lines : List Line). length lines) same))

says : goal.returns-clause-says
says c =
    let rules : List Target = targets_of c.args.suppressions.now in
    let wanted : Bool = c.args.wishes.unused_rules in
    let left : ℕ = c.saturating_sub-left_out.result in
    c.in_ok-extend_from_slice.ensures.items
    ∙ ap (λ (back : List ℕ). c.in_ok-notes.notes.items ++ back) (c.deref.ensures.value ∙ c.in_ok-left_out_text.ensures)
    ∙ ap (λ (front : List ℕ). front ++ left_out_text left) c.in_ok-notes.ensures
    ∙ ap (λ (n : ℕ). notes_text wanted c.args.reports rules n) (omega (arith, c.count_lines-all.ensures, c.count_lines.ensures))

pub returns-clause-says : goal.returns-clause-says
returns-clause-says = says

pub returns-clause-notes : goal.returns-clause-notes
returns-clause-notes c = noted c.args.wishes.unused_rules c.args.reports (targets_of c.args.suppressions.now) _ _ (says c)

pub returns-clause-quiet : goal.returns-clause-quiet
returns-clause-quiet c = λ unasked unlimited.
    quiet c.args.wishes.unused_rules c.args.wishes.max_races c.args.reports _ (targets_of c.args.suppressions.now) _ unasked unlimited
    c.in_ok-keep_first_races.ensures.report c.in_ok-keep_first_races-2.ensures.report (says c)
