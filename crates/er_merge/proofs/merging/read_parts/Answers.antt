-- One report more, or the first text that is none.
use Rattle.std.proofs.Common.{◌≡◌, ◌<◌, ◌∙◌, ℕ, List, [], length, map, get_or, sym, arith}
use Rattle.std.specs.Prelude.{vec_items}
use Rattle.std.proofs.lemmas.List.{length-map}
use Rattle.er_merge.specs.Parts.{report_view}
use Rattle.er_merge.proofs.PartLemmas.{at_map, not_read, one_part_more}
use Rattle.er_merge.proofs.merging.read_parts.Goals as goal

pub returns-in-Err : goal.returns-in-Err
returns-in-Err c =
    let texts : List (List ℕ) = map vec_items c.args.texts.now in
    let same : length texts ≡ length c.args.texts.now = length-map c.args.texts.now vec_items in
    let inside = c.loop-place-test.true in
    let within : c.loop-place.place < length texts = omega (arith, same, inside) in
    let here : get_or texts c.loop-place.place [] ≡ c.deref.result.now = at_map vec_items c.args.texts.now c.loop-place.place c.index-texts-place.result inside c.index-texts-place.is ∙ sym c.deref.ensures.value in
    not_read report_view texts c.loop-place.place c.deref.result.now c.loop-place.parts.items c.in-Err.fault within here c.loop-place.invariant c.in-Err.ensures

pub loop-place-preserved : goal.loop-place-preserved
loop-place-preserved c =
    let texts : List (List ℕ) = map vec_items c.args.texts.now in
    let same : length texts ≡ length c.args.texts.now = length-map c.args.texts.now vec_items in
    let inside = c.loop-place-test.true in
    let within : c.loop-place.place < length texts = omega (arith, same, inside) in
    let here : get_or texts c.loop-place.place [] ≡ c.deref.result.now = at_map vec_items c.args.texts.now c.loop-place.place c.index-texts-place.result inside c.index-texts-place.is ∙ sym c.deref.ensures.value in
    one_part_more texts c.loop-place.place c.deref.result.now c.loop-place.parts.items c.push_part.new.parts.items c.in-Ok.part within here c.loop-place.invariant c.in-Ok.ensures c.in_ok-push_part-in-Ok.ensures
