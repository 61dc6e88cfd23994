-- One line more.
use Rattle.std.proofs.Common.{ℕ, cond, Option, Some, None, ◌∙◌, sym, ap}
use Rattle.er_sites.proofs.ExampleLemmas.{position_next}
use Rattle.er_sites.specs.Inner.Rows.{or_first}
use Rattle.er_sites.specs.Table.{is_at}
use Rattle.er_sites.proofs.table.find_examples.Goals as goal

pub loop-place-preserved : goal.loop-place-preserved
loop-place-preserved c = λ s.
    c.in_ok-note_example.ensures s
    ∙ ap (λ (o : Option ℕ). or_first o (cond (is_at s c.index-lines-place.result) (Some c.loop-place.place) None)) (c.loop-place.invariant s)
    ∙ sym (position_next (is_at s) c.args.lines.now c.loop-place.place c.index-lines-place.result c.loop-place-test.true c.index-lines-place.is)
