use Rattle.std.proofs.Common.{Box, Global, ◌≡◌, ◌∙◌, ◌+◌, ◌++◌, ℕ, List, length, map, take, drop, set, get_or, sym, ap, arith}
use Rattle.std.proofs.lemmas.List.{get_or-map, map-set, length-map}
use Rattle.std.specs.Vec.Iter.{into_iter_items}
use Rattle.er_report.specs.Inner.Explained.{line_told, with_told}
use Rattle.er_report.specs.Lines.{LineView, line_view}
use Rattle.er_report.specs.declared.report.Because.{Because}
use Rattle.er_report.specs.declared.report.Details.{Details}
use Rattle.er_report.specs.declared.report.Line.{Line}
use Rattle.er_report.proofs.ReasonLemmas.{explained-next, explained-end}
use Rattle.er_report.proofs.reasons.give_reasons.Goals as goal

pub loop-i-preserved : goal.loop-i-preserved
loop-i-preserved c =
    let items : List Line = c.loop-i.lines in
    let i : ℕ = c.loop-i.i in
    let lines : List LineView = map line_view items in
    let line : LineView = line_view (get_or items i c.index-lines-i.result) in
    let told : List (List Because) = map (λ reasons. reasons.value.explained.items) (into_iter_items c.loop-i.to_come) in
    let long : length lines ≡ length items = length-map items line_view in
    let here : line ≡ get_or lines i line = sym (get_or-map line_view items i c.index-lines-i.result line (omega (arith, c.loop-i-test.true, c.loop-i.auto.lines))) in
    let next : map line_view (set items i c.explain_line.new.line) ≡ set lines i (line_told told line) =
    map-set line_view items i c.explain_line.new.line ∙ ap (set lines i) c.explain_line.ensures.line in
    c.loop-i.invariant
    ∙ explained-next lines i line told (omega (arith, long, c.loop-i-test.true, c.loop-i.auto.lines)) here
    ∙ sym (ap (λ (all : List LineView). take (i + 1) all ++ with_told (map (λ reasons. reasons.value.explained.items) (into_iter_items c.explain_line.new.to_come)) (drop (i + 1) all)) next
    ∙ ap (λ (rest : List (List Because)). take (i + 1) (set lines i (line_told told line)) ++ with_told rest (drop (i + 1) (set lines i (line_told told line)))) c.explain_line.ensures.left)

pub returns : goal.returns
returns c =
    let lines : List LineView = map line_view c.loop-i.lines in
    let long : length lines ≡ length c.loop-i.lines = length-map c.loop-i.lines line_view in
    sym (c.loop-i.invariant
    ∙ explained-end lines c.loop-i.i (map (λ reasons. reasons.value.explained.items) (into_iter_items c.loop-i.to_come)) (omega (arith, long, c.loop-i-test.false, c.loop-i.auto.lines)))
    ∙ ap (λ (told : List (Box Details Global)). with_told (map (λ reasons. reasons.value.explained.items) told) (map line_view c.args.lines.now)) c.into_iter-to_come.ensures.rest
