-- The four parts, one behind another.
use Rattle.std.proofs.Common.{codes}
use Rattle.er_places.specs.Places.{PlaceTable}
use Rattle.er_places.specs.Reasons.{reason_place}
use Rattle.er_json.proofs.PutLemmas.{put_four}
use Rattle.er_json.specs.Sarif.{holding_words, opening_text, reason_location, sentence_words}
use Rattle.er_json.proofs.locations.put_reason.Goals as goal

pub returns : goal.returns
unfolding reason_location sentence_words
returns c =
    let table : PlaceTable = c.args.legend.now.places.now in
    let place = c.of_reason-place.ensures.place in
    put_four _ _ _ _ _ (opening_text table (reason_place table c.args.because.now)) (sentence_words c.args.legend.now.names.now c.args.because.now)
    (holding_words table.names (reason_place table c.args.because.now)) (codes "\"}}")
    (rw place at c.in_ok-put_opening.ensures) c.in_ok-put.ensures.joined
    (rw (c.names-names.ensures, place) at c.in_ok-put_holding.ensures) c.in_ok-extend_from_slice.ensures.items
