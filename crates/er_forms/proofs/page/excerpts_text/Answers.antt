-- One excerpt more.
use Rattle.std.proofs.Common.{ℕ, List, ◌++◌, ◌∙◌, codes, ap}
use Rattle.er_forms.specs.Page.{excerpt_text}
use Rattle.er_print.proofs.ValueLemmas.{values_next}
use Rattle.er_forms.proofs.page.excerpts_text.Goals as goal

pub loop-place-preserved : goal.loop-place-preserved
loop-place-preserved c =
    values_next excerpt_text c.args.excerpts.now c.loop-place.place c.index-excerpts-place.result c.index-excerpts-place.result (codes "[") c.loop-place.json.items
    c.extend_from_slice-in-loop-place.new.self.items c.put_excerpt.new.out.items c.loop-place-test.true c.index-excerpts-place.is c.loop-place.invariant
    (c.in_ok-extend_from_slice-2.ensures.items ∙ ap (λ (text : List ℕ). c.loop-place.json.items ++ text) c.comma_before.ensures) c.in_ok-put_excerpt.ensures
