-- One count more.
use Rattle.std.proofs.Common.{ℕ, List, ◌++◌, ◌∙◌, codes, decimal, get_or, ap, refl}
use Rattle.er_print.proofs.ValueLemmas.{values_next}
use Rattle.er_json.proofs.document.put_counts.Goals as goal

pub loop-place-preserved : goal.loop-place-preserved
loop-place-preserved c =
    values_next decimal c.args.counts.now c.loop-place.place 0 (get_or c.args.counts.now c.loop-place.place 0) (c.args.out.now.items ++ codes ",\n\"suppressions\":[") c.loop-place.out.items
    c.extend_from_slice-in-loop-place.new.self.items c.put_number.new.out.items c.loop-place-test.true refl c.loop-place.invariant
    (c.in_ok-extend_from_slice-2.ensures.items ∙ ap (λ (text : List ℕ). c.loop-place.out.items ++ text) c.comma_before.ensures) c.in_ok-put_number.ensures
