-- One race more, if the place has a line.
use Rattle.std.proofs.Common.{◌∙◌, ◌++◌, ℕ, List, Option, option_copied, slice_get, sym, ap}
use Rattle.std.proofs.lemmas.List.{append-nil}
use Rattle.er_print.proofs.LineLemmas.{one_more}
use Rattle.er_report.specs.declared.report.Line.{Line}
use Rattle.er_sites.proofs.SiteLemmas.{got}
use Rattle.er_sites.specs.Text.{example_of}
use Rattle.er_sites.specs.declared.row.SiteRow.{SiteRow}
use Rattle.er_sites.proofs.text.put_examples.Goals as goal
use Rattle.er_sites.proofs.text.put_examples.Goals.{in-Some+in_ok-put_example, in_default}

pub loop-row-preserved : goal.loop-row-preserved
loop-row-preserved c =
    let text = λ (found : Option Line). example_of c.args.legend.now.names.now c.args.legend.now.places.now found in
    let before : List ℕ = c.loop-row.out.items in
    let read = got c.args.lines.now c.row-item.result.example c.get.result c.get.ensures.lookup in
    one_more (λ (row : SiteRow). text (slice_get c.args.lines.now row.example)) c.args.rows.now c.loop-row.row-index c.row-item.result c.row-item.result c.args.out.now.items
    before c.match-get.out.items c.loop-row-test.true c.row-item.is c.loop-row.invariant
    (elim c.match-get.branch [
      | in-Some+in_ok-put_example w ↦
          ap (λ v. v.items) w.out-is ∙ w.in_ok-put_example.ensures ∙ ap (λ (found : Option Line). before ++ text found) (ap option_copied (sym w.in-Some.is) ∙ read)
      | in_default w ↦
          ap (λ v. v.items) w.out-is ∙ sym (append-nil before) ∙ ap (λ (found : Option Line). before ++ text found) (ap option_copied (sym w.in_default.is) ∙ read)
    ])
