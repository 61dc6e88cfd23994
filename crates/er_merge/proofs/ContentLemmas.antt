-- The whole text of a report is read back.
use Rattle.std.proofs.Common.{◌≡◌, ℕ, ◌+◌, List, [], ◌∷◌, ◌++◌, Option, Some, None, Result, Ok, flat_map, refl, sym, ap, ◌∙◌, append-nil, true}
use Rattle.std.specs.List.{list_all}
use Rattle.er_event.specs.declared.refusals.NoRoom.{NoRoom}
use Rattle.er_lines.specs.Lines.{Line, lines_of}
use Rattle.er_lines.proofs.WholeLemmas.{lines_append}
use Rattle.er_print.specs.Printed.{counts_text, line_text, report_text, stop_text, text_of_report, totals_text}
use Rattle.er_print.specs.declared.lines.ReportKind.TheVariants.{Lockset}
use Rattle.er_report.specs.Report.{Summary}
use Rattle.er_trace.specs.Names.{NameTable}
use Rattle.er_merge.specs.Parts.{BodyView, HeadingView, body_from, empty_body, go_on, headed, heading_in, part_in, part_of, headed_by, with_kind}
use Rattle.er_merge.specs.Texts.{CountsFit, content_of, entries_of}
use Rattle.er_merge.specs.declared.faults.LineFault.{LineFault}
use Rattle.er_merge.proofs.BodyLemmas.{ArePrintable, last_after, lines_lead, lines_whole}
use Rattle.er_merge.proofs.EndLemmas.{count_lines, counted, counts_are, counts_lead, totals_closed, totals_pieces, totals_plain, totals_read}
use Rattle.er_merge.proofs.ReadLemmas.{closed_line, feed_line, joined, line_with, no_feed}
use Rattle.er_merge.proofs.WholeLemmas.{closed}

report_parts : (names : NameTable) (s : Summary) → CountsFit s → report_text names s ≡ flat_map (line_text Lockset names) s.lines ++ (counts_text 1 s.rule_counts ++ totals_text Lockset s)
unfolding text_of_report
report_parts names s fit = ap (λ (stop : Option (ℕ × NoRoom)). flat_map (line_text Lockset names) s.lines ++ (stop_text stop ++ counts_text 1 s.rule_counts ++ totals_text Lockset s)) fit.ended

totals_are : (s : Summary) → CountsFit s → lines_of (totals_text Lockset s) ≡ line_with (totals_pieces s) ∷ []
totals_are s fit = ap lines_of (totals_closed s ∙ sym (append-nil (closed (totals_pieces s)))) ∙ closed_line (totals_pieces s) [] (totals_plain s fit)

report_lines : (names : NameTable) (s : Summary) → CountsFit s
    → lines_of (report_text names s) ≡ lines_of (flat_map (line_text Lockset names) s.lines) ++ (count_lines 1 s.rule_counts ++ line_with (totals_pieces s) ∷ [])
report_lines names s fit =
    ap lines_of (report_parts names s fit)
    ∙ lines_append (flat_map (line_text Lockset names) s.lines) (counts_text 1 s.rule_counts ++ totals_text Lockset s) (lines_whole names s.lines)
    ∙ ap (λ (lines : List Line). lines_of (flat_map (line_text Lockset names) s.lines) ++ lines)
    (counts_are 1 s.rule_counts (totals_text Lockset s) fit.rules fit.counts ∙ ap (λ (lines : List Line). count_lines 1 s.rule_counts ++ lines) (totals_are s fit))

pub content_read : (names : NameTable) (s : Summary) → CountsFit s → ArePrintable names s.lines → body_from 2 empty_body (lines_of (report_text names s)) ≡ Ok (content_of names s)
content_read names s fit plain =
    let last = last_after names None s.lines in
    let es = flat_map (entries_of names) s.lines in
    let more : List Line = count_lines 1 s.rule_counts ++ line_with (totals_pieces s) ∷ [] in
    let one = lines_lead names [] None s.lines plain 2 more in
    let two = counts_lead es last [] 1 s.rule_counts refl fit.rules fit.counts one.0 (line_with (totals_pieces s) ∷ []) in
    ap (body_from 2 empty_body) (report_lines names s fit) ∙ one.1 ∙ two.1
    ∙ ap (λ (r : Result BodyView LineFault). go_on two.0 r (λ (next : BodyView). body_from (two.0 + 1) next []))
    (ap (with_kind (counted es last s.rule_counts) (joined (totals_pieces s))) (totals_read s fit))

-- behind a first line
pub part_read : (names : NameTable) (s : Summary) (heading : HeadingView) (line text : List ℕ) → CountsFit s → ArePrintable names s.lines
    → heading_in line ≡ Some heading → list_all no_feed line ≡ true → text ≡ line ++ 10 ∷ report_text names s → part_of text ≡ Ok (record { heading = heading; content = content_of names s })
unfolding part_of
part_read names s heading line text fit plain says one is =
    ap part_in (ap lines_of is ∙ feed_line line (report_text names s) one)
    ∙ ap (λ (found : Option HeadingView). headed_by found (lines_of (report_text names s))) says
    ∙ ap (headed heading) (content_read names s fit plain)
