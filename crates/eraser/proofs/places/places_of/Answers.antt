-- What was read again is the text that a file means.
use Rattle.std.proofs.Common.{IfSome, ℕ, Bool, List, Option, Some, None, inr, option_map, subst, sym}
use Rattle.er_binary.specs.Decoded.{source_of, to_come}
use Rattle.er_binary.specs.Meaning.{meant}
use Rattle.er_device.specs.Device.{inner_of}
use Rattle.er_places.specs.Places.{ArePlaces, PlaceTable}
use Rattle.er_places.specs.Facts.{FactTable}
use Rattle.er_places.specs.Wanted.{are_asked}
use Rattle.eraser.proofs.TextLemmas.{of-bytes}
use Rattle.eraser.proofs.places.places_of.Goals as goal

-- facts change nothing of the places
with-facts : (wants : ℕ → Bool) (told : Option (List ℕ)) (limit : ℕ) (table : PlaceTable) (facts : FactTable)
    → IfSome told (λ text. ArePlaces wants text limit table) → IfSome told (λ text. ArePlaces wants text limit (record table { facts = facts }))
with-facts wants None limit table facts are = tt
with-facts wants (Some text) limit table facts are = λ r trace. let found = are r trace in record { places = found.places; names = found.names }

pub returns : goal.returns
returns g c =
    let again = (inner_of c.in-Some.again).decoded in
    let known = g.R.File.Read.remaining (source_of again) in
    let told = option_map (to_come again) known in
    let wants = are_asked c.args.reports.now in
    let found : IfSome told (λ text. ArePlaces wants text c.args.job.options.now.byte_limit c.with_facts.result)
    = subst (λ (table : PlaceTable). IfSome told (λ text. ArePlaces wants text c.args.job.options.now.byte_limit table)) (sym c.with_facts.ensures)
    (with-facts wants told c.args.job.options.now.byte_limit c.in-Ok.places _ c.in-Ok.ensures.found) in
    inr (
      c.in-Some.ensures.shown,
      (
        source_of again,
        of-bytes known (to_come again) meant (λ text. ArePlaces wants text c.args.job.options.now.byte_limit c.with_facts.result) c.in-Some.ensures.fresh found,
      ),
    )
