-- The places of the whole pass are those of the text, and have names. The wanted lines are those that are asked about, of which there may be none.
use Rattle.std.proofs.Common.{◌∙◌, ℕ, List, Option, Ok, subst, sym, IfSome}
use Rattle.er_device.specs.Device.{inner_of}
use Rattle.er_places.proofs.TextLemmas.{places-asked, places-found, places-none}
use Rattle.er_places.specs.Inner.Following.{AreNamed}
use Rattle.er_places.specs.Places.{ArePlaces}
use Rattle.er_places.specs.Wanted.{are_asked, is_wanted}
use Rattle.er_places.proofs.finding.places_of_reports.Goals as goal

pub of-requires : goal.of-requires
of-requires g c =
    let told : Option (List ℕ) = g.D.Read.remaining (inner_of c.args.reader.now) in
    let ended = c.in-Ok.ensures.ended told (c.in_ok-finder.ensures.come c.in_ok-wanted.wanted.lines.keys told) in
    subst (AreNamed c.run.new.self.trace.names) (sym c.into_places.ensures) ended.named

pub returns-in-Ok-clause-found : goal.returns-in-Ok-clause-found
returns-in-Ok-clause-found g c =
    let told : Option (List ℕ) = g.D.Read.remaining (inner_of c.args.reader.now) in
    let ended = c.in-Ok.ensures.ended told (c.in_ok-finder.ensures.come c.in_ok-wanted.wanted.lines.keys told) in
    places-asked (is_wanted c.in_ok-wanted.wanted.lines.keys) (are_asked c.args.reports.now) told c.args.byte_limit (Ok c.of.result) c.in_ok-wanted.ensures
    (subst (λ (n : ℕ). IfSome told (λ text. ArePlaces (is_wanted c.in_ok-wanted.wanted.lines.keys) text n c.of.result)) c.in_ok-finder.ensures.limit
    (places-found (is_wanted c.in_ok-wanted.wanted.lines.keys) told c.in_ok-finder.finder.lines.place.limit c.run.new.self.trace c.run.new.self.follower c.of.result ended (c.of.ensures.places ∙ c.into_places.ensures)
    c.of.ensures.names))

pub returns-then-is_empty-clause-found : goal.returns-then-is_empty-clause-found
returns-then-is_empty-clause-found g c =
    places-none (are_asked c.args.reports.now) (g.D.Read.remaining (inner_of c.args.reader.now)) c.args.byte_limit c.new.result
    (λ line. sym (c.in_ok-wanted.ensures line) ∙ c.is_empty.ensures c.if-is_empty.true line) c.new.ensures.none c.new.ensures.names
