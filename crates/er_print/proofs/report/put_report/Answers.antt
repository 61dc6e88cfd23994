-- The lines are those that the report tells, and then comes the end.
use Rattle.std.proofs.Common.{◌≡◌, ◌≤◌, ◌++◌, ◌∙◌, ℕ, List, length, take, map, flat_map, ap}
use Rattle.std.proofs.lemmas.List.{take_all}
use Rattle.std.proofs.lemmas.Result.{on_ok_weaker}
use Rattle.er_trace.specs.Names.{NameTable}
use Rattle.er_report.specs.Lines.{line_view}
use Rattle.er_report.specs.declared.report.Line.{Line}
use Rattle.er_print.proofs.DigitLemmas.{put_two}
use Rattle.er_print.proofs.LineLemmas.{told-lines, one_more}
use Rattle.er_print.specs.Printed.{line_text, text_of_report}
use Rattle.er_print.proofs.report.put_report.Goals as goal

pub returns : goal.returns
unfolding text_of_report
returns c =
    let names : NameTable = c.args.names.now in
    let items : List Line = c.args.report.now.lines.items in
    let old : List ℕ = c.args.out.now.items in
    let past : length items ≤ c.loop-line.line-index = rw c.deref-line-items.ensures.value at c.loop-line-test.false in
    let done : take c.loop-line.line-index items ≡ items = take_all c.loop-line.line-index items past in
    let lines : c.loop-line.out.items ≡ old ++ flat_map (line_text c.args.of names) (map line_view items) =
    c.loop-line.invariant ∙ ap (λ (all : List Line). old ++ flat_map (λ (line : Line). line_text c.args.of names (line_view line)) all) done
    ∙ ap (λ (text : List ℕ). old ++ text) (told-lines c.args.of names items) in
    on_ok_weaker c.put_end.result (put_two old _ _ _ _ lines) c.put_end.ensures

pub loop-line-preserved : goal.loop-line-preserved
loop-line-preserved c =
    let items : List Line = c.args.report.now.lines.items in
    one_more (λ (line : Line). line_text c.args.of c.args.names.now (line_view line)) items c.loop-line.line-index _ c.line-item.result _ _ _
    (rw c.deref-line-items.ensures.value at c.loop-line-test.true) (rw c.deref-line-items.ensures.value at c.line-item.is)
    c.loop-line.invariant c.in_ok-put_line.ensures
