-- The lines of a report, read one behind another.
use Rattle.std.proofs.Common.{◌≡◌, ℕ, ◌+◌, true, List, [], ◌∷◌, ◌++◌, Option, Some, None, Result, Ok, map, flat_map, refl, sym, ap, ◌∙◌, subst, append_assoc, append-nil}
use Rattle.er_lines.specs.Lines.{AreWhole, Line, lines_of}
use Rattle.er_lines.proofs.WholeLemmas.{lines_append}
use Rattle.er_parts.specs.Merged.{line_number}
use Rattle.er_print.specs.Printed.{line_text}
use Rattle.er_print.specs.declared.lines.ReportKind.TheVariants.{Lockset}
use Rattle.er_report.specs.Lines.{LineView}
use Rattle.er_report.specs.declared.report.Because.{Because}
use Rattle.er_trace.specs.Names.{NameTable}
use Rattle.er_merge.specs.Lines.{address_in, report_line}
use Rattle.er_merge.specs.Parts.{BodyView, EntryView, body_from, go_on, with_kind, with_line}
use Rattle.er_merge.specs.Texts.{entries_of, place_of}
use Rattle.er_merge.specs.declared.faults.LineFault.{LineFault}
use Rattle.er_merge.specs.declared.lines.Place.{Place}
use Rattle.er_merge.specs.declared.lines.ReportLine.TheVariants as is
use Rattle.er_merge.proofs.ReadLemmas.{IsPrintable, first_is, head_read, joined, line_with, lines_are, reason_lines}
use Rattle.er_merge.proofs.WholeLemmas.{head_pieces, line_whole, reason_pieces, reasons_in, whole_append}

-- from what was read so far these lines lead there
abbrev pub Leads : BodyView → List Line → BodyView → Type 0
Leads b lines c = (n : ℕ) (more : List Line) → (m : ℕ) × (body_from n b (lines ++ more) ≡ body_from m c more)

pub leads_then : (b c d : BodyView) (xs ys : List Line) → Leads b xs c → Leads c ys d → Leads b (xs ++ ys) d
leads_then b c d xs ys first second n more =
    let one = first n (ys ++ more) in
    let two = second one.0 more in
    (two.0, ap (body_from n b) (append_assoc xs ys more) ∙ one.1 ∙ two.1)

pub leads_one : (b c : BodyView) (bytes : List ℕ) → with_line b bytes ≡ Ok c → Leads b (record { bytes = bytes; ended = true } ∷ []) c
leads_one b c bytes e n more = (n + 1, ap (λ (r : Result BodyView LineFault). go_on n r (λ (next : BodyView). body_from (n + 1) next more)) e)

-- entries alone were read
abbrev pub body_of : List EntryView → Option Place → BodyView
body_of entries last = record { entries = entries; counts = []; totals = None; last = last }

abbrev views : Place → List Line → List EntryView
views place lines = map (λ (part : Line). record { place = place; text = part.bytes }) lines

reason_added : (names : NameTable) (place : Place) (es : List EntryView) (because : Because)
    → with_line (body_of es (Some place)) (joined (reason_pieces names because)) ≡ Ok (body_of (es ++ (record { place = place; text = joined (reason_pieces names because) }) ∷ []) (Some place))
reason_added names place es because = refl

reasons_lead : (names : NameTable) (place : Place) (es : List EntryView) (reasons : List Because)
    → Leads (body_of es (Some place)) (reason_lines names reasons) (body_of (es ++ views place (reason_lines names reasons)) (Some place))
reasons_lead names place es [] = λ n more. (n, ap (λ (all : List EntryView). body_from n (body_of all (Some place)) more) (sym (append-nil es)))
reasons_lead names place es (because ∷ reasons) =
    let view : EntryView = record { place = place; text = joined (reason_pieces names because) } in
    let rest = reasons_lead names place (es ++ view ∷ []) reasons in
    let all = append_assoc es (view ∷ []) (views place (reason_lines names reasons)) in
    leads_then (body_of es (Some place)) (body_of (es ++ view ∷ []) (Some place)) _ (line_with (reason_pieces names because) ∷ []) (reason_lines names reasons)
    (leads_one (body_of es (Some place)) (body_of (es ++ view ∷ []) (Some place)) (joined (reason_pieces names because)) (reason_added names place es because))
    (subst (λ (found : List EntryView). Leads (body_of (es ++ view ∷ []) (Some place)) (reason_lines names reasons) (body_of found (Some place))) all rest)

head_added : (names : NameTable) (es : List EntryView) (last : Option Place) (line : LineView) → IsPrintable names line
    → with_line (body_of es last) (joined (head_pieces names line)) ≡ Ok (body_of (es ++ (record { place = place_of names line; text = joined (head_pieces names line) }) ∷ []) (Some (place_of names line)))
head_added names es last line plain =
    let kind : report_line (joined (head_pieces names line)) ≡ is.Step (place_of names line) =
    head_read names line plain.number ∙ ap (λ (t : List ℕ). is.Step (record { line = line_number line; address = address_in t })) (sym (first_is names line plain)) in
    ap (with_kind (body_of es last) (joined (head_pieces names line))) kind

-- the lines that are printed for one line
line_leads : (names : NameTable) (es : List EntryView) (last : Option Place) (line : LineView) → IsPrintable names line
    → Leads (body_of es last) (lines_of (line_text Lockset names line)) (body_of (es ++ entries_of names line) (Some (place_of names line)))
line_leads names es last line plain =
    let place = place_of names line in
    let view : EntryView = record { place = place; text = joined (head_pieces names line) } in
    let rest = reasons_lead names place (es ++ view ∷ []) (reasons_in line) in
    let all = append_assoc es (view ∷ []) (views place (reason_lines names (reasons_in line))) in
    subst (λ (lines : List Line). Leads (body_of es last) lines (body_of (es ++ views place lines) (Some place))) (sym (lines_are names line plain))
    (leads_then (body_of es last) (body_of (es ++ view ∷ []) (Some place)) (body_of (es ++ views place (line_with (head_pieces names line) ∷ reason_lines names (reasons_in line))) (Some place))
    (line_with (head_pieces names line) ∷ []) (reason_lines names (reasons_in line))
    (leads_one (body_of es last) (body_of (es ++ view ∷ []) (Some place)) (joined (head_pieces names line)) (head_added names es last line plain))
    (subst (λ (found : List EntryView). Leads (body_of (es ++ view ∷ []) (Some place)) (reason_lines names (reasons_in line)) (body_of found (Some place))) all rest))

-- each of the lines can be printed so
abbrev pub ArePrintable : NameTable → List LineView → Type 0
ArePrintable names [] = Unit {0}
ArePrintable names (line ∷ lines) = IsPrintable names line × ArePrintable names lines

-- the place of the last of them
abbrev pub last_after : NameTable → Option Place → List LineView → Option Place
last_after names last [] = last
last_after names last (line ∷ lines) = last_after names (Some (place_of names line)) lines

pub lines_whole : (names : NameTable) (lines : List LineView) → AreWhole (flat_map (line_text Lockset names) lines)
lines_whole names [] = refl
lines_whole names (line ∷ lines) = whole_append (line_text Lockset names line) (flat_map (line_text Lockset names) lines) (line_whole names line) (lines_whole names lines)

-- and those for all lines
pub lines_lead : (names : NameTable) (es : List EntryView) (last : Option Place) (lines : List LineView) → ArePrintable names lines
    → Leads (body_of es last) (lines_of (flat_map (line_text Lockset names) lines)) (body_of (es ++ flat_map (entries_of names) lines) (last_after names last lines))
lines_lead names es last [] plain = λ n more. (n, ap (λ (all : List EntryView). body_from n (body_of all last) more) (sym (append-nil es)))
lines_lead names es last (line ∷ lines) plain =
    let place = place_of names line in
    let one = line_leads names es last line plain.0 in
    let rest = lines_lead names (es ++ entries_of names line) (Some place) lines plain.1 in
    let all = append_assoc es (entries_of names line) (flat_map (entries_of names) lines) in
    let apart = lines_append (line_text Lockset names line) (flat_map (line_text Lockset names) lines) (line_whole names line) in
    subst (λ (found : List Line). Leads (body_of es last) found (body_of (es ++ flat_map (entries_of names) (line ∷ lines)) (last_after names last (line ∷ lines)))) (sym apart)
    (leads_then (body_of es last) (body_of (es ++ entries_of names line) (Some place)) (body_of (es ++ flat_map (entries_of names) (line ∷ lines)) (last_after names last (line ∷ lines)))
    (lines_of (line_text Lockset names line)) (lines_of (flat_map (line_text Lockset names) lines)) one
    (subst (λ (found : List EntryView). Leads (body_of (es ++ entries_of names line) (Some place)) (lines_of (flat_map (line_text Lockset names) lines)) (body_of found (last_after names (Some place) lines))) all rest))
