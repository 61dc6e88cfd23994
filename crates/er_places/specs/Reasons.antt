-- The place of an access that a report names.
use Rattle.std.specs.Prelude.{ℕ, ◌==◌, ◌&&◌, Bool, cond, Option, Some, None}
use Rattle.er_event.specs.declared.steps.Kind.{Kind}
use Rattle.er_places.specs.Places.{PlaceTable, place_at}
use Rattle.er_places.specs.Wanted.{same_kind}
use Rattle.er_places.specs.declared.places.Place.{Place}
use Rattle.er_report.specs.Lines.{RaceView}
use Rattle.er_report.specs.declared.report.Because.{Because}
use Rattle.er_report.specs.declared.report.Deed.{Deed}
use Rattle.er_report.specs.declared.report.Deed.TheVariants as deed

-- the access has this thread and this kind
abbrev pub fits : ℕ → Kind → Place → Bool
fits thread kind place = place.thread == thread && same_kind place.kind kind

-- what is known on the access's line, if it fits
abbrev pub if_fits : ℕ → Kind → Option Place → Option Place
if_fits thread kind None = None
if_fits thread kind (Some place) = cond (fits thread kind place) (Some place) None

-- the place of the access on this line, by this thread and of this kind
abbrev pub access_place : PlaceTable → ℕ → ℕ → Kind → Option Place
access_place table line thread kind = if_fits thread kind (place_at table line)

-- the place of the access that a reason names
abbrev pub reason_place : PlaceTable → Because → Option Place
reason_place table because = access_place table because.line because.thread because.kind

-- the place of a race's access; a reuse has none
abbrev pub deed_place : PlaceTable → RaceView → Deed → Option Place
deed_place table race (deed.Access kind word) = access_place table race.line race.thread kind
deed_place table race (deed.Reuse range) = None

-- the place of a race's own access, if it is known
abbrev pub race_place : PlaceTable → RaceView → Option Place
race_place table race = deed_place table race race.deed
