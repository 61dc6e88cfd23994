-- The report of one part, by the lines of its text.
use Rattle.std.specs.Prelude.{◌≡◌, ℕ, ◌+◌, ◌<◌, ◌⊎◌, true, false, ◌==◌, ◌||◌, List, [], ◌∷◌, ◌++◌, Option, Some, None, Result, Ok, Err, length, map, codes, nat_lt, is_some, if◌then◌else◌}
use Rattle.std.specs.Option.{option_and_then}
use denote.Ref.{Bor}
use Rattle.er_lines.specs.Lines.{Line, lines_of}
use Rattle.er_merge.specs.Lines.{number_behind, report_line}
use Rattle.er_merge.specs.declared.faults.LineFault.{LineFault}
use Rattle.er_merge.specs.declared.faults.LineFault.TheVariants.{NoPart, Foreign, CutOff, Stopped}
use Rattle.er_merge.specs.declared.faults.MergeFault.{MergeFault}
use Rattle.er_merge.specs.declared.faults.MergeFault.TheVariants as merging
use Rattle.er_merge.specs.declared.lines.Place.{Place}
use Rattle.er_merge.specs.declared.lines.ReportLine.{ReportLine}
use Rattle.er_merge.specs.declared.lines.ReportLine.TheVariants as is
use Rattle.er_merge.specs.declared.lines.Totals.{Totals}
use Rattle.er_merge.specs.declared.parts.Body.{Body}
use Rattle.er_merge.specs.declared.parts.Content.{Content}
use Rattle.er_merge.specs.declared.parts.Entry.{Entry}
use Rattle.er_merge.specs.declared.parts.Heading.{Heading}
use Rattle.er_merge.specs.declared.parts.PartReport.{PartReport}

-- a line of a step or of a reason, and where it belongs
pub record EntryView : Type 0 where
  pub place : Place
  pub text : List ℕ

-- the lines that were read so far, and the place of the last entry
pub record BodyView : Type 0 where
  pub entries : List EntryView
  pub counts : List ℕ
  pub totals : Option Totals
  pub last : Option Place

-- what a report says behind its first line
pub record ContentView : Type 0 where
  pub entries : List EntryView
  pub counts : List ℕ
  pub totals : Totals

-- what the first line says: which part it is, of how many, and of what
pub record HeadingView : Type 0 where
  pub part : ℕ
  pub parts : ℕ
  pub about : List ℕ

-- the report of a part
pub record ReportView : Type 0 where
  pub heading : HeadingView
  pub content : ContentView

-- an entry without where its text lies in memory
abbrev pub entry_view : Entry → EntryView
entry_view entry = record { place = entry.place; text = entry.text.now }

-- what was read so far, with texts in place of slices of memory
abbrev pub body_view : Body → BodyView
body_view body = record { entries = map entry_view body.entries.items; counts = body.counts.items; totals = body.totals; last = body.last }

-- what a report says behind its first line, seen so
abbrev pub content_view : Content → ContentView
content_view content = record { entries = map entry_view content.entries.items; counts = content.counts.items; totals = content.totals }

-- what a first line says, seen so
abbrev pub heading_view : Heading → HeadingView
heading_view heading = record { part = heading.part; parts = heading.parts; about = heading.about.now }

-- the whole report, seen so
abbrev pub report_view : PartReport → ReportView
report_view part = record { heading = heading_view part.heading; content = content_view part.content }

-- what a first line says, if it names a part
abbrev pub seen_heading : Option Heading → Option HeadingView
seen_heading None = None
seen_heading (Some heading) = Some (heading_view heading)

-- no line yet
abbrev pub empty_body : BodyView
empty_body = record { entries = []; counts = []; totals = None; last = None }

-- with a line that belongs to this place; it comes before the rules
abbrev pub with_entry : BodyView → List ℕ → Option Place → Result BodyView LineFault
with_entry b text None = Err Foreign
with_entry b text (Some place) =
    if length b.counts == 0 then Ok (record b { entries = b.entries ++ (record { place = place; text = text }) ∷ []; last = Some place }) else Err Foreign

-- with the count of the rule of this number, which is the next one
abbrev pub with_count : BodyView → ℕ → ℕ → Result BodyView LineFault
with_count b number count = if number == length b.counts + 1 then Ok (record b { counts = b.counts ++ count ∷ [] }) else Err Foreign

-- with a line that is this
abbrev pub with_kind : BodyView → List ℕ → ReportLine → Result BodyView LineFault
with_kind b text (is.Step place) = with_entry b text (Some place)
with_kind b text is.Reason = with_entry b text b.last
with_kind b text is.Stopped = Err Stopped
with_kind b text (is.Count number count) = with_count b number count
with_kind b text (is.Totals totals) = Ok (record b { totals = Some totals })
with_kind b text is.Foreign = Err Foreign

-- with one line more; none follows the totals
abbrev pub with_line : BodyView → List ℕ → Result BodyView LineFault
with_line b text = if is_some b.totals then Err Foreign else with_kind b text (report_line text)

-- what a call left and returned, if this is what is to come
abbrev pub Adds : {E : Type 0} → Result BodyView LineFault → BodyView → Result (Option LineFault) E → Type 0
Adds gives new (Ok None) = gives ≡ Ok new
Adds gives new (Ok (Some fault)) = gives ≡ Err fault
Adds gives new (Err e) = Unit {0}

-- the totals are there
abbrev pub whole : ℕ → BodyView → Option Totals → Result ContentView (ℕ × LineFault)
whole number b None = Err (number, CutOff)
whole number b (Some totals) = Ok (record { entries = b.entries; counts = b.counts; totals = totals })

-- go on, unless there was a fault on the line of this number
abbrev pub go_on : {X : Type 0} → ℕ → Result BodyView LineFault → (BodyView → Result X (ℕ × LineFault)) → Result X (ℕ × LineFault)
go_on number (Ok b) f = f b
go_on number (Err fault) f = Err (number, fault)

-- these lines behind those that were read, from the line of this number on: what they say, or the first line with a fault
abbrev pub body_from : ℕ → BodyView → List Line → Result ContentView (ℕ × LineFault)
body_from number b [] = whole number b b.totals
body_from number b (line ∷ lines) =
    if line.ended then go_on number (with_line b line.bytes) (λ (next : BodyView). body_from (number + 1) next lines) else Err (number, CutOff)

-- the number of the part is from 1 up to the number of parts
abbrev right_heading : HeadingView → Option HeadingView
right_heading heading = if heading.part == 0 || nat_lt heading.parts heading.part then None else Some heading

-- the part that a first line names
abbrev pub heading_in : List ℕ → Option HeadingView
heading_in line =
    option_and_then (λ (part : ℕ × List ℕ). option_and_then (λ (parts : ℕ × List ℕ).
    right_heading (record { part = part.0; parts = parts.0; about = parts.1 }))
    (number_behind (codes " of ") part.1))
    (number_behind (codes "# part ") line)

-- a heading, and what its lines say
abbrev pub headed : HeadingView → Result ContentView (ℕ × LineFault) → Result ReportView (ℕ × LineFault)
headed heading (Ok content) = Ok (record { heading = heading; content = content })
headed heading (Err fault) = Err fault

-- the lines behind the first, if that names a part
abbrev pub headed_by : Option HeadingView → List Line → Result ReportView (ℕ × LineFault)
headed_by None lines = Err (1, NoPart)
headed_by (Some heading) lines = headed heading (body_from 2 empty_body lines)

-- a report by its lines
abbrev pub part_in : List Line → Result ReportView (ℕ × LineFault)
part_in [] = Err (1, NoPart)
part_in (line ∷ lines) = if line.ended then headed_by (heading_in line.bytes) lines else Err (1, NoPart)

-- the report that a text is, or its first line with a fault, and the fault
unfoldable pub part_of : List ℕ → Result ReportView (ℕ × LineFault)
part_of text = part_in (lines_of text)

-- what a call returned of the text of this number, if this is what the text is
abbrev pub Reads : {X Y : Type 0} → (X → Y) → ℕ → Result Y (ℕ × LineFault) → Result X MergeFault → Type 0
Reads view number is (Ok x) = is ≡ Ok (view x)
Reads view number is (Err (merging.Line n line fault)) = (n ≡ number) × (is ≡ Err (line, fault))
Reads view number is (Err (merging.Other n)) = ⊥
Reads view number is (Err (merging.Twice n)) = ⊥
Reads view number is (Err (merging.Missing n)) = ⊥
Reads view number is (Err merging.CountsTooLarge) = ⊥
Reads view number is (Err merging.Memory) = Unit {0}

-- the first line of a text, without its LF, and what follows it; none if the text has no LF
abbrev pub IsFirstLine : List ℕ → Option (Bor (List ℕ) × Bor (List ℕ)) → Type 0
IsFirstLine text None = (text ≡ []) ⊎ (lines_of text ≡ record { bytes = text; ended = false } ∷ [])
IsFirstLine text (Some found) = (lines_of text ≡ record { bytes = found.0.now; ended = true } ∷ lines_of found.1.now) × (length found.1.now < length text)
