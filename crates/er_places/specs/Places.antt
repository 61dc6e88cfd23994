-- Where the accesses of a recording stood, by the definitions of the whole list of its steps.
use Rattle.std.specs.Prelude.{◌≡◌, ℕ, zero, suc, ◌≤◌, ◌==◌, nat_eq, Bool, cond, List, [], drop, slice_get, slice_index, length, Option, Some, None, IfSome, Err}
use Rattle.std.specs.Map.{lookup}
use Rattle.er_binary.specs.Numbers.{name_at}
use Rattle.er_event.specs.declared.steps.Event.{Event}
use Rattle.er_event.specs.declared.steps.Event.TheVariants.{Access}
use Rattle.er_event.specs.declared.steps.Kind.{Kind}
use Rattle.er_event.specs.declared.steps.Step.{Step}
use Rattle.er_model.specs.Holdings.{Holdings, holdings_at}
use Rattle.er_places.specs.Facts.{FactTable, way_on}
use Rattle.er_places.specs.declared.places.Place.{Place}
use Rattle.er_report.specs.Names.{HasLockNames}
use Rattle.er_text.specs.Named.{KeepsNames}
use Rattle.er_text.specs.Trace.{IsTrace, Tells}
use Rattle.er_lines.specs.declared.faults.ReadFault.{ReadFault}
use Rattle.er_trace.specs.Names.{NameTable}
pub use Rattle.er_trace.specs.Names.{no_names}
use Rattle.er_trace.specs.Trace.{Recording}

-- where an access on this line stood, by a thread that holds these locks
abbrev pub stood_at : Holdings → ℕ → ℕ → Kind → ℕ → Place
stood_at h line t kind site = record { line = line; thread = t; kind = kind; site = site; held = h.held; write_held = h.write_held }

-- the place of an event, if it is an access
abbrev pub place_by : Holdings → ℕ → ℕ → Event → Option Place
place_by h line t (Access kind word site) = Some (stood_at h line t kind site)
place_by h line t _ = None

-- the place of the step at position k, if it is an access
abbrev pub place_of : List Step → List ℕ → ℕ → Option Step → Option Place
place_of steps lines k None = None
place_of steps lines k (Some step) = place_by (holdings_at steps step.thread k) (slice_index lines k) step.thread step.event

-- the first, or the other where there is no first
abbrev pub or_else : Option Place → Option Place → Option Place
or_else None other = other
or_else (Some place) other = Some place

-- the place of the first access on this line, among the first n steps
unfoldable pub place_below : List Step → List ℕ → ℕ → ℕ → Option Place
place_below steps lines line zero = None
place_below steps lines line (suc n) =
    cond (slice_index lines n == line) (or_else (place_below steps lines line n) (place_of steps lines n (slice_get steps n))) (place_below steps lines line n)

-- the place of the first access on this line of a recording
abbrev pub place_on : Recording → ℕ → Option Place
place_on r line = place_below r.steps r.lines line (length r.steps)

-- places by line, the names of their numbers, and what is known of the program
pub record PlaceTable : Type 0 where
  pub places : List (ℕ × Place)
  pub names : NameTable
  pub facts : FactTable

-- the place of a line among places by line
abbrev pub place_in : List (ℕ × Place) → ℕ → Option Place
place_in places line = lookup (nat_eq line) places

-- the place that is kept for a line
abbrev pub place_at : PlaceTable → ℕ → Option Place
place_at table line = place_in table.places line

-- the place of the access that stood at a place, and of the calls that led there, innermost first, as numbers; of a place that isn't known there are none
abbrev pub way_of : PlaceTable → Option Place → List ℕ
way_of table None = []
way_of table (Some place) = way_on table.facts place.line

-- the calls that led to the access at a place, innermost first
abbrev pub calls_of : PlaceTable → Option Place → List ℕ
calls_of table place = drop 1 (way_of table place)

-- where the call of a number stands
abbrev pub call_name : PlaceTable → ℕ → List ℕ
call_name table call = name_at table.facts.places call

-- the site and each lock of a place have a name; site 0 needs none
pub record HasPlaceNames (names : NameTable) (place : Place) : Type 0 where
  pub site : place.site ≤ length names.sites
  pub held : HasLockNames names place.held

-- the places are those of the recording's accesses on the wanted lines, under its names
pub record HasPlaces (wants : ℕ → Bool) (r : Recording) (table : PlaceTable) : Type 0 where
  pub places : (line : ℕ) → place_at table line ≡ cond (wants line) (place_on r line) None
  pub names : KeepsNames table.names r.names

-- if the text is a trace, the places are those of its accesses
abbrev pub ArePlaces : (ℕ → Bool) → List ℕ → ℕ → PlaceTable → Type 0
ArePlaces wants text limit table = (r : Recording) → IsTrace text limit r → HasPlaces wants r table

-- a fault of the text is its first
abbrev pub IsFaultOf : Option (List ℕ) → ℕ → ReadFault → Type 0
IsFaultOf told limit why = IfSome told (λ text. Tells text limit (Err why))
