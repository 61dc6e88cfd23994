-- One row more, if its place has a line.
use Rattle.std.proofs.Common.{◌∙◌, ℕ, nat_eq, List, Option, option_copied, sym, ap}
use Rattle.er_report.specs.declared.report.Line.{Line}
use Rattle.er_sites.proofs.SiteLemmas.{got}
use Rattle.er_sites.proofs.MentionLemmas.{insert_next}
use Rattle.er_sites.specs.Mentions.{example_mentions, row_mentions}
use Rattle.indexmap.specs.IndexSet.{insert_all}
use Rattle.er_sites.proofs.mentions.add_examples.Goals as goal
use Rattle.er_sites.proofs.mentions.add_examples.Goals.{in-Some+in_ok-add_line, in_default}

pub loop-row-preserved : goal.loop-row-preserved
loop-row-preserved c =
    let before : List ℕ = c.loop-row.numbers.keys in
    let read = got c.args.lines.now c.row-item.result.example c.get.result c.get.ensures.lookup in
    insert_next (example_mentions c.args.of c.args.places.now c.args.lines.now) c.args.rows.now c.loop-row.row-index c.row-item.result c.row-item.result c.args.numbers.now.keys before c.match-get.numbers.keys
    c.loop-row-test.true c.row-item.is c.loop-row.invariant
    (elim c.match-get.branch [
      | in-Some+in_ok-add_line w ↦
          ap (λ v. v.keys) w.numbers-is ∙ w.in_ok-add_line.ensures ∙ ap (λ (found : Option Line). insert_all nat_eq before (row_mentions c.args.of c.args.places.now found)) (ap option_copied (sym w.in-Some.is) ∙ read)
      | in_default w ↦
          ap (λ v. v.keys) w.numbers-is ∙ ap (λ (found : Option Line). insert_all nat_eq before (row_mentions c.args.of c.args.places.now found)) (ap option_copied (sym w.in_default.is) ∙ read)
    ])
