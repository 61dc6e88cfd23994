-- The three lists of the document, and the two forms of a reason.
use Rattle.std.specs.Prelude.{ℕ, Bool, true, false, cond, List, [], ◌∷◌, ◌++◌, codes}
use Rattle.er_json.specs.Document.{is_race, is_refused, is_shown, reason_text, rows_if}
pub use Rattle.er_json.specs.Document.{rows_text}
use Rattle.er_json.specs.Sarif.{reason_location}
use Rattle.er_json.specs.declared.document.Section.{Section}
use Rattle.er_json.specs.declared.document.Section.TheVariants as section
use Rattle.er_json.specs.declared.rows.ReasonForm.{ReasonForm}
use Rattle.er_json.specs.declared.rows.ReasonForm.TheVariants as form
use Rattle.er_places.specs.Places.{PlaceTable}
use Rattle.er_report.specs.Lines.{LineView}
use Rattle.er_report.specs.declared.report.Because.{Because}
use Rattle.er_trace.specs.Names.{NameTable}

-- whether a list has an object of a line
abbrev pub is_in : Section → LineView → Bool
is_in section.Races line = is_race line
is_in section.Refused line = is_refused line
is_in section.Shown line = is_shown line

-- the object that a list has of a line, if it has one
abbrev pub rows_in : Section → NameTable → PlaceTable → LineView → List (List ℕ)
rows_in s = rows_if (is_in s)

-- what stands before an object
abbrev pub separator_text : Bool → List ℕ
separator_text is_first = cond is_first (codes "\n") (codes ",\n")

-- there are no objects
abbrev pub has_none : List (List ℕ) → Bool
has_none [] = true
has_none (row ∷ rows) = false

-- what is put for a line that has at most one object
abbrev pub next_text : Bool → List (List ℕ) → List ℕ
next_text is_first [] = []
next_text is_first (row ∷ rows) = separator_text is_first ++ row

-- a reason as an object of a document, or as a location of a log
abbrev pub reason_in : ReasonForm → NameTable → PlaceTable → Because → List ℕ
reason_in form.Object = reason_text
reason_in form.Location = reason_location
