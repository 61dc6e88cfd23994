-- One reason more, which has names.
use Rattle.std.proofs.Common.{ℕ, List, ◌++◌, ◌∙◌, ap, subst, sym}
use Rattle.er_json.specs.Inner.Sections.{reason_in}
use Rattle.er_print.proofs.ValueLemmas.{values_next}
use Rattle.er_report.specs.Names.{HasReasonNames}
use Rattle.er_json.proofs.rows.put_reasons.Goals as goal

pub put_reason_in-requires : goal.put_reason_in-requires
put_reason_in-requires c = subst (HasReasonNames c.args.legend.now.names.now) (sym c.index-reasons-place.is) (c.requires c.loop-place.place c.index-reasons-place.result c.loop-place-test.true)

pub loop-place-preserved : goal.loop-place-preserved
loop-place-preserved c =
    values_next (reason_in c.args.form c.args.legend.now.names.now c.args.legend.now.places.now) c.args.reasons.now c.loop-place.place c.index-reasons-place.result c.index-reasons-place.result c.args.out.now.items c.loop-place.out.items
    c.extend_from_slice.new.self.items c.put_reason_in.new.out.items c.loop-place-test.true c.index-reasons-place.is c.loop-place.invariant
    (c.in_ok-extend_from_slice.ensures.items ∙ ap (λ (text : List ℕ). c.loop-place.out.items ++ text) c.comma_before.ensures) c.in_ok-put_reason_in.ensures
