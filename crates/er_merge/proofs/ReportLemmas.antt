-- The merged text of the texts of parts is the text of their merged reports.
use Rattle.std.proofs.Common.{◌≡◌, ℕ, List, [], ◌∷◌, ◌++◌, Option, Some, None, Ok, length, map, flat_map, codes, decimal, refl, sym, ap, ◌∙◌}
use Rattle.std.specs.List.{range_with_len, sum}
use Rattle.std.specs.Prelude.{slice_index}
use Rattle.std.proofs.lemmas.List.{map-append}
use Rattle.std.proofs.lemmas.List.Concat.{flat_map-append}
use Rattle.std.proofs.lemmas.List.Sums.{sum-map}
use Rattle.er_parts.specs.Merged.{in_order, lost_in, merged, rules_in as rules_of}
use Rattle.er_print.specs.Printed.{counts_text, end_text, line_text, lost_text, report_text, text_of_report, totals_text}
use Rattle.er_print.specs.declared.lines.ReportKind.{ReportKind}
use Rattle.er_print.specs.declared.lines.ReportKind.TheVariants.{Lockset}
use Rattle.er_report.specs.Report.{Summary}
use Rattle.er_trace.specs.Names.{NameTable}
use Rattle.er_merge.specs.Merging.{AreParts, Merges, entries_in, figure_of, kind_if, kind_of, lost_of, rule_sum, rules_in, sum_in, sums_of}
use Rattle.er_merge.specs.Parts.{ContentView, EntryView, ReportView, content_view, entry_view, part_of, report_view}
use Rattle.er_merge.specs.Texts.{AddressesFollow, ArePartTexts, HasPlainNames, IsPartText, all_lines, content_of, entries_of, lost_number}
use Rattle.er_merge.specs.declared.merging.Figure.{Figure}
use Rattle.er_merge.specs.declared.merging.Figure.TheVariants.{Steps, Races, Suppressed, Refused, Rule}
use Rattle.er_merge.specs.declared.merging.Merged.{Merged}
use Rattle.er_merge.specs.declared.parts.PartReport.{PartReport}
use Rattle.er_merge.proofs.ContentLemmas.{part_read}
use Rattle.er_merge.proofs.EntryLemmas.{entries_in_order}
use Rattle.er_merge.proofs.PlainLemmas.{all_printable}
use Rattle.er_merge.proofs.WholeLemmas.{entries_again}

-- each part has what its report says
abbrev pub Say : NameTable → List Summary → List PartReport → Type 0
Say names [] [] = Unit {0}
Say names [] (part ∷ parts) = ⊥
Say names (s ∷ reports) [] = ⊥
Say names (s ∷ reports) (part ∷ parts) = (content_view part.content ≡ content_of names s) × Say names reports parts

pub text_read : (names : NameTable) (s : Summary) (text : List ℕ) (is : IsPartText names s text) → HasPlainNames names → part_of text ≡ Ok (record { heading = is.heading; content = content_of names s })
text_read names s text is plain = part_read names s is.heading is.line text is.counts (all_printable names s.lines plain is.lines) is.says is.one is.is

pub all_say : (names : NameTable) (reports : List Summary) (texts : List (List ℕ)) (parts : List PartReport) → HasPlainNames names → ArePartTexts names reports texts → AreParts texts parts → Say names reports parts
all_say names [] [] [] plain are read = tt
all_say names [] [] (part ∷ parts) plain are read = absurd (cc)
all_say names [] (text ∷ texts) parts plain are read = absurd are
all_say names (s ∷ reports) [] parts plain are read = absurd are
all_say names (s ∷ reports) (text ∷ texts) [] plain are read = absurd (cc)
all_say names (s ∷ reports) (text ∷ texts) (part ∷ parts) plain are read =
    let this = text_read names s text are.0 plain in
    let head : part_of text ≡ Ok (report_view part) = cc in
    let tail : map part_of texts ≡ map (λ (part : PartReport). Ok (report_view part)) parts = cc in
    let whole : report_view part ≡ record { heading = are.0.heading; content = content_of names s } = cc in
    (ap (λ (view : ReportView). view.content) whole, all_say names reports texts parts plain are.1 tail)

entries_say : (names : NameTable) (reports : List Summary) (parts : List PartReport) → Say names reports parts → map entry_view (flat_map entries_in parts) ≡ flat_map (entries_of names) (all_lines reports)
entries_say names [] [] say = refl
entries_say names [] (part ∷ parts) say = absurd say
entries_say names (s ∷ reports) [] say = absurd say
entries_say names (s ∷ reports) (part ∷ parts) say =
    map-append entry_view (entries_in part) (flat_map entries_in parts)
    ∙ ap (λ (xs : List EntryView). xs ++ map entry_view (flat_map entries_in parts)) (ap (λ (content : ContentView). content.entries) say.0)
    ∙ ap (λ (xs : List EntryView). flat_map (entries_of names) s.lines ++ xs) (entries_say names reports parts say.1)
    ∙ sym (flat_map-append (entries_of names) s.lines (all_lines reports))

-- a figure of each part is one of its report
figures_say : (names : NameTable) (f : ContentView → ℕ) (figure : Figure) (g : Summary → ℕ) → ((part : PartReport) → figure_of figure part ≡ f (content_view part.content)) → ((s : Summary) → f (content_of names s) ≡ g s)
    → (reports : List Summary) (parts : List PartReport) → Say names reports parts → map (figure_of figure) parts ≡ map g reports
figures_say names f figure g left right [] [] say = refl
figures_say names f figure g left right [] (part ∷ parts) say = absurd say
figures_say names f figure g left right (s ∷ reports) [] say = absurd say
figures_say names f figure g left right (s ∷ reports) (part ∷ parts) say =
    let this = left part ∙ ap f say.0 ∙ right s in
    ap (λ (n : ℕ). n ∷ map (figure_of figure) parts) this ∙ ap (λ (ns : List ℕ). g s ∷ ns) (figures_say names f figure g left right reports parts say.1)

pub sums_say : (names : NameTable) (f : ContentView → ℕ) (figure : Figure) (g : Summary → ℕ) → ((part : PartReport) → figure_of figure part ≡ f (content_view part.content)) → ((s : Summary) → f (content_of names s) ≡ g s)
    → (reports : List Summary) (parts : List PartReport) → Say names reports parts → sum_in parts figure ≡ sum (map g reports)
sums_say names f figure g left right reports parts say = sym (sum-map (figure_of figure) parts) ∙ ap sum (figures_say names f figure g left right reports parts say)

rules_say : (names : NameTable) (reports : List Summary) (parts : List PartReport) → Say names reports parts → rules_in parts ≡ rules_of reports
rules_say names [] [] say = refl
rules_say names [] (part ∷ parts) say = absurd say
rules_say names (s ∷ reports) [] say = absurd say
rules_say names (s ∷ reports) (part ∷ parts) say = ap (λ (content : ContentView). length content.counts) say.0

kind_say : (names : NameTable) (reports : List Summary) (parts : List PartReport) → Say names reports parts → kind_of parts ≡ Lockset
kind_say names [] [] say = refl
kind_say names [] (part ∷ parts) say = absurd say
kind_say names (s ∷ reports) [] say = absurd say
kind_say names (s ∷ reports) (part ∷ parts) say = ap (λ (content : ContentView). kind_if content.totals.unordered) say.0

lost_same : (lost : Option ℕ) → lost_text (codes ", lost ") [] (Some (lost_number lost)) ≡ lost_text (codes ", lost ") [] lost
unfolding lost_text
lost_same None = refl
lost_same (Some n) = refl

lost_say : (names : NameTable) (reports : List Summary) (parts : List PartReport) → Say names reports parts → lost_text (codes ", lost ") [] (lost_of parts) ≡ lost_text (codes ", lost ") [] (lost_in reports)
lost_say names [] [] say = refl
lost_say names [] (part ∷ parts) say = absurd say
lost_say names (s ∷ reports) [] say = absurd say
lost_say names (s ∷ reports) (part ∷ parts) say = ap (λ (content : ContentView). lost_text (codes ", lost ") [] (Some content.totals.lost)) say.0 ∙ lost_same s.lost

map_same : (f g : ℕ → ℕ) (xs : List ℕ) → ((x : ℕ) → f x ≡ g x) → map f xs ≡ map g xs
map_same f g [] same = refl
map_same f g (x ∷ xs) same = ap (λ (y : ℕ). y ∷ map f xs) (same x) ∙ ap (λ (ys : List ℕ). g x ∷ ys) (map_same f g xs same)

pub counts_say : (names : NameTable) (reports : List Summary) (parts : List PartReport) → Say names reports parts → map (rule_sum parts) (range_with_len 0 (rules_in parts)) ≡ (merged reports).rule_counts
counts_say names reports parts say =
    ap (λ (n : ℕ). map (rule_sum parts) (range_with_len 0 n)) (rules_say names reports parts say)
    ∙ map_same (rule_sum parts) (λ i. sum (map (λ (report : Summary). slice_index report.rule_counts i) reports)) (range_with_len 0 (rules_of reports))
    (λ i. sums_say names (λ (content : ContentView). slice_index content.counts i) (Rule i) (λ (report : Summary). slice_index report.rule_counts i) (λ part. refl) (λ s. refl) reports parts say)

-- the text of the totals, by their numbers
abbrev totals_by : ℕ → ℕ → ℕ → ℕ → List ℕ → List ℕ
totals_by steps races suppressed refused lost =
    codes "steps " ++ decimal steps ++ codes ", races " ++ decimal races ++ codes ", suppressed " ++ decimal suppressed ++ codes ", refused " ++ decimal refused ++ lost ++ 10 ∷ []

end_say : (names : NameTable) (reports : List Summary) (parts : List PartReport) → Say names reports parts → end_text Lockset (sums_of parts) ≡ end_text Lockset (merged reports)
end_say names reports parts say =
    let a = sums_say names (λ (c : ContentView). c.totals.steps) Steps (λ (s : Summary). s.steps) (λ part. refl) (λ s. refl) reports parts say in
    let b = sums_say names (λ (c : ContentView). c.totals.races) Races (λ (s : Summary). s.races) (λ part. refl) (λ s. refl) reports parts say in
    let c = sums_say names (λ (c : ContentView). c.totals.suppressed) Suppressed (λ (s : Summary). s.suppressed) (λ part. refl) (λ s. refl) reports parts say in
    let d = sums_say names (λ (c : ContentView). c.totals.refused) Refused (λ (s : Summary). s.refused) (λ part. refl) (λ s. refl) reports parts say in
    let m = merged reports in
    ap (λ (counts : List ℕ). counts_text 1 counts ++ totals_text Lockset (sums_of parts)) (counts_say names reports parts say)
    ∙ ap (λ (n : ℕ). counts_text 1 m.rule_counts ++ totals_by n (sum_in parts Races) (sum_in parts Suppressed) (sum_in parts Refused) (lost_text (codes ", lost ") [] (lost_of parts))) a
    ∙ ap (λ (n : ℕ). counts_text 1 m.rule_counts ++ totals_by m.steps n (sum_in parts Suppressed) (sum_in parts Refused) (lost_text (codes ", lost ") [] (lost_of parts))) b
    ∙ ap (λ (n : ℕ). counts_text 1 m.rule_counts ++ totals_by m.steps m.races n (sum_in parts Refused) (lost_text (codes ", lost ") [] (lost_of parts))) c
    ∙ ap (λ (n : ℕ). counts_text 1 m.rule_counts ++ totals_by m.steps m.races m.suppressed n (lost_text (codes ", lost ") [] (lost_of parts))) d
    ∙ ap (λ (lost : List ℕ). counts_text 1 m.rule_counts ++ totals_by m.steps m.races m.suppressed m.refused lost) (lost_say names reports parts say)

report_is : (names : NameTable) (s : Summary) → report_text names s ≡ flat_map (line_text Lockset names) s.lines ++ end_text Lockset s
unfolding text_of_report
report_is names s = refl

pub merged_views : (names : NameTable) (reports : List Summary) (texts : List (List ℕ)) (m : Merged) → HasPlainNames names → ArePartTexts names reports texts → AddressesFollow names (all_lines reports)
    → (made : Merges texts (Ok m)) → map entry_view made.2.entries ≡ flat_map (entries_of names) (in_order (all_lines reports))
merged_views names reports texts m plain are follow made =
    entries_in_order names (all_lines reports) (flat_map entries_in made.0) made.2.entries (entries_say names reports made.0 (all_say names reports texts made.0 plain are made.1)) made.2.order follow

pub merged_text : (names : NameTable) (reports : List Summary) (texts : List (List ℕ)) (m : Merged) → HasPlainNames names → ArePartTexts names reports texts → AddressesFollow names (all_lines reports)
    → Merges texts (Ok m) → m.text.items ≡ report_text names (merged reports)
merged_text names reports texts m plain are follow made =
    let parts = made.0 in
    let is = made.2 in
    let say = all_say names reports texts parts plain are made.1 in
    let lines = entries_again names (in_order (all_lines reports)) is.entries (merged_views names reports texts m plain are follow made) in
    is.text ∙ ap (λ (t : List ℕ). t ++ end_text (kind_of parts) (sums_of parts)) lines
    ∙ ap (λ (of : ReportKind). flat_map (line_text Lockset names) (in_order (all_lines reports)) ++ end_text of (sums_of parts)) (kind_say names reports parts say)
    ∙ ap (λ (t : List ℕ). flat_map (line_text Lockset names) (in_order (all_lines reports)) ++ t) (end_say names reports parts say)
    ∙ sym (report_is names (merged reports))

pub merged_races : (names : NameTable) (reports : List Summary) (texts : List (List ℕ)) (m : Merged) → HasPlainNames names → ArePartTexts names reports texts → Merges texts (Ok m) → m.counts.races ≡ (merged reports).races
merged_races names reports texts m plain are made =
    ap (λ (s : Summary). s.races) made.2.counts ∙ sums_say names (λ (c : ContentView). c.totals.races) Races (λ (s : Summary). s.races) (λ part. refl) (λ s. refl) reports made.0 (all_say names reports texts made.0 plain are made.1)
