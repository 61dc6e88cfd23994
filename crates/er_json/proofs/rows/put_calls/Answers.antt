-- One call more.
use Rattle.std.proofs.Common.{ℕ, List, ◌++◌, ◌∙◌, codes, ap, get_or, refl}
use Rattle.er_json.specs.Document.{call_text}
use Rattle.er_print.proofs.ValueLemmas.{values_next}
use Rattle.er_print.specs.Styles.{string_text}
use Rattle.er_json.proofs.rows.put_calls.Goals as goal

pub loop-place-preserved : goal.loop-place-preserved
loop-place-preserved c =
    values_next (call_text c.args.places.now) c.args.calls.now c.loop-place.place 0 (get_or c.args.calls.now c.loop-place.place 0) (c.args.out.now.items ++ codes ",\"calls\":[") c.loop-place.out.items
    c.extend_from_slice-in-loop-place.new.self.items c.put_string.new.out.items c.loop-place-test.true refl c.loop-place.invariant
    (c.in_ok-extend_from_slice-2.ensures.items ∙ ap (λ (text : List ℕ). c.loop-place.out.items ++ text) c.comma_before.ensures)
    (c.in_ok-put_string.ensures ∙ ap (λ (name : List ℕ). c.extend_from_slice-in-loop-place.new.self.items ++ string_text name) c.call_name.ensures)
