-- The pages that are read of the merged text of the parts of a trace are those of the lines of its report, and the counts are its counts.
use Rattle.std.proofs.Common.{◌≡◌, ℕ, zero, suc, ◌*◌, ◌/◌, ◌^◌, ◌<◌, ◌⊎◌, ◌&&◌, Bool, true, false, cond, nat_le, List, [], ◌∷◌, flat_map, get_or, length, map, slice_get, Some, None, Ok, inl, inr, refl, sym, ap, subst, ◌∙◌, arith}
use Rattle.std.specs.List.{All, list_all}
use Rattle.std.proofs.lemmas.Bool.{and_parts}
use Rattle.std.proofs.lemmas.Bool.Decides.{nat_tests}
use Rattle.std.proofs.lemmas.List.{map-append}
use Rattle.std.proofs.lemmas.List.Elements.{All-cons, All-head, All-nil}
use Rattle.er_event.specs.declared.steps.Event.{Event}
use Rattle.er_event.specs.declared.steps.Event.TheVariants.{Acquire, Release, Access, Reuse, IgnoreOn, IgnoreOff, Show, Level, Sync}
use Rattle.er_lines.specs.Lines.{Line, has_bytes, is_end, lines_of, onto_line}
use Rattle.er_lines.specs.Naming.{is_name, is_name_byte}
use Rattle.er_parts.specs.Given.{HasPages, counted_as, line_page, part_report}
use Rattle.er_parts.specs.Merged.{in_order, line_word}
use Rattle.er_parts.specs.Ordered.{event_word}
use Rattle.er_parts.specs.Parts.{PartView, has_page, takes_page}
use Rattle.er_parts.proofs.Pages.{pages-make}
use Rattle.er_print.specs.Printed.{line_text, name_at}
use Rattle.er_print.specs.declared.lines.ReportKind.TheVariants.{Lockset}
use Rattle.er_report.specs.Lines.{LineView, RacedView, RefusedView, ShownView}
use Rattle.er_report.specs.Report.{Summary, told}
use Rattle.er_text.specs.Ending.{lost_told}
use Rattle.er_trace.specs.Names.{NameTable}
use Rattle.er_merge.specs.Merging.{Merges, page_at}
use Rattle.er_merge.specs.Parts.{ContentView, EntryView, entry_view}
use Rattle.er_merge.specs.Texts.{all_lines, address_of, entries_of, place_of}
use Rattle.er_merge.specs.Traces.{AreTextsOfParts, Divided, report_of_part, whole_report}
use Rattle.er_merge.specs.declared.merging.Figure.TheVariants.{Steps, Suppressed}
use Rattle.er_merge.specs.declared.merging.Merged.{Merged}
use Rattle.er_merge.specs.declared.parts.Entry.{Entry}
use Rattle.er_merge.proofs.AddressLemmas.{IsOfWord, line_address, no_gap}
use Rattle.er_merge.proofs.ReportLemmas.{all_say, counts_say, merged_views, sums_say}
use Rattle.er_merge.proofs.TraceLines.{lines_follow}
use Rattle.er_merge.proofs.TraceMerged.{All-back, IsOne, lines_are, plain, texts_are, whole, whole_lines}
use Rattle.er_merge.proofs.TraceSteps.{All-front, IsReuse, StepFits, step_fits, told as told_at}

-- a name is a word
name_gap : (b : ℕ) → is_name_byte b ≡ true → no_gap b ≡ true
name_gap b e = grind (arith, nat_tests, e)

bytes_gap : (w : List ℕ) → list_all is_name_byte w ≡ true → list_all no_gap w ≡ true
bytes_gap [] all = refl
bytes_gap (b ∷ w) all = let parts = and_parts (is_name_byte b) (list_all is_name_byte w) all in rw (name_gap b parts.0, bytes_gap w parts.1) refl

name_word : (w : List ℕ) → is_name w ≡ true → (has_bytes w ≡ true) × (list_all no_gap w ≡ true)
name_word w is =
    let parts = and_parts (has_bytes w && nat_le (length w) 128) (list_all is_name_byte w) is in
    ((and_parts (has_bytes w) (nat_le (length w) 128) parts.0).0, bytes_gap w parts.1)

name_is : (names : List (List ℕ)) (n : ℕ) (name : List ℕ) → slice_get names n ≡ Some name → name_at names n ≡ name
name_is [] n name is = cc
name_is (x ∷ names) zero name is = cc
name_is (x ∷ names) (suc n) name is = name_is names n name is

-- the word of a step that is no reuse has an address
small_word : (e : Event) → StepFits e → (IsReuse e → ⊥) → event_word e < 2 ^ 46
small_word (Acquire l m) fit other = omega arith
small_word (Release l m) fit other = omega arith
small_word (Access k w site) fit other = fit
small_word (Reuse range) fit other = absurd (other (range, refl))
small_word IgnoreOn fit other = omega arith
small_word IgnoreOff fit other = omega arith
small_word (Show w) fit other = fit
small_word (Level n) fit other = omega arith
small_word (Sync sync) fit other = omega arith

-- an address and its word are of one page
one_page : (address word : ℕ) → address ≡ 4 * word → address / 4096 ≡ word / 1024
one_page address word same = omega (arith, same)

-- the page that is read of the line is one of the part's
abbrev IsRead : NameTable → PartView → LineView → Type 0
IsRead names part line = has_page part (address_of names line / 4096) ≡ true

-- each line has a first line
first_line : (byte : ℕ) (bytes : List ℕ) → (l : Line) × (ls : List Line) × (lines_of (byte ∷ bytes) ≡ l ∷ ls)
first_line byte bytes = by (is_end byte) (lines_of bytes)
  where
    by : (b : Bool) (lines : List Line) → (l : Line) × (ls : List Line) × (cond b (record { bytes = []; ended = true } ∷ lines) (onto_line byte lines) ≡ l ∷ ls)
    by true lines = (_, _, refl)
    by false [] = (_, _, refl)
    by false (line ∷ lines) = (_, _, refl)

first_some : (text : List ℕ) → has_bytes text ≡ true → (l : Line) × (ls : List Line) × (lines_of text ≡ l ∷ ls)
first_some [] some = absurd (cc)
first_some (byte ∷ bytes) some = first_line byte bytes

begun : (names : NameTable) (line : LineView) → (l : Line) × (ls : List Line) × (lines_of (line_text Lockset names line) ≡ l ∷ ls)
begun names (RacedView race) = first_some (line_text Lockset names (RacedView race)) refl
begun names (RefusedView number step refusal) = first_some (line_text Lockset names (RefusedView number step refusal)) refl
begun names (ShownView number word state) = first_some (line_text Lockset names (ShownView number word state)) refl

abbrev view_page : EntryView → ℕ
view_page view = view.place.address / 4096

-- what is true of the pages of entries is true of those of the lines
first_pages : (P : ℕ → Type 0) (names : NameTable) (lines : List LineView) → All P (map view_page (flat_map (entries_of names) lines)) → All (λ (line : LineView). P (address_of names line / 4096)) lines
first_pages P names [] all = All-nil (λ (line : LineView). P (address_of names line / 4096))
first_pages P names (line ∷ lines) all =
    let split = subst (All P) (map-append view_page (entries_of names line) (flat_map (entries_of names) lines)) all in
    let front = All-front P (map view_page (entries_of names line)) (map view_page (flat_map (entries_of names) lines)) split in
    let back = All-back P (map view_page (entries_of names line)) (map view_page (flat_map (entries_of names) lines)) split in
    let first = begun names line in
    let pages = subst (λ (ls : List Line). All P (map view_page (map (λ (part : Line). record { place = place_of names line; text = part.bytes }) ls))) first.2 front in
    All-cons (λ (line : LineView). P (address_of names line / 4096)) line lines (All-head P (address_of names line / 4096) _ pages) (first_pages P names lines back)

map_views : (entries : List Entry) → map page_at entries ≡ map view_page (map entry_view entries)
map_views [] = refl
map_views (entry ∷ entries) = ap (λ (pages : List ℕ). page_at entry ∷ pages) (map_views entries)

module _ (d : Divided) (parts : List ℕ) (about texts : ℕ → List ℕ) (are : AreTextsOfParts d parts about texts) where
  names : NameTable
  names = d.trace.names

  -- a line of the report is of a word with an address, or refuses a step
  of_word : (line : LineView) → IsOne d parts about texts are line → IsOfWord names line ⊎ (line_page line ≡ None)
  unfolding names
  of_word (RacedView race) is =
      let small = small_word is.step.event (step_fits d.text are.limit d.trace are.trace are.counted.bytes is.at is.step is.there) is.no_reuse in
      let line = told_at d.text are.limit d.trace are.trace is.at is.step is.there in
      let known = name_is d.trace.names.threads is.step.thread line.told.event_line.thread line.told.thread in
      let name : name_at d.trace.names.threads race.thread ≡ line.told.event_line.thread = ap (name_at d.trace.names.threads) is.tells.0 ∙ known in
      let word = name_word line.told.event_line.thread line.told.says.0 in
      inl (ap has_bytes name ∙ word.0, ap (list_all no_gap) name ∙ word.1, subst (λ (w : ℕ). w < 2 ^ 46) (sym is.tells.1) small)
  of_word (RefusedView number step refusal) is = inr refl
  of_word (ShownView number word state) is =
      let small = small_word is.step.event (step_fits d.text are.limit d.trace are.trace are.counted.bytes is.at is.step is.there) is.no_reuse in
      inl (subst (λ (w : ℕ). w < 2 ^ 46) (sym is.tells) small)

  by_page : (part : PartView) (line : LineView) → has_page part (line_word line / 1024) ≡ true → takes_page part (line_page line) ≡ true
  by_page part (RacedView race) has = has
  by_page part (RefusedView number step refusal) has = refl
  by_page part (ShownView number word state) has = has

  has_line : (part : PartView) (line : LineView) → IsOne d parts about texts are line → IsRead names part line → takes_page part (line_page line) ≡ true
  unfolding names
  has_line part line is has =
      elim (of_word line is) [
        | inl word ↦ by_page part line
            (ap (has_page part) (sym (one_page (address_of names line) (line_word line) (line_address names line (plain d parts about texts are) is.fits word))) ∙ has)
        | inr none ↦ ap (takes_page part) none
      ]

  has_lines : (part : PartView) (lines : List LineView) → All (IsOne d parts about texts are) lines → All (IsRead names part) lines → HasPages part lines
  has_lines part lines all has = λ k e within. has_line part (get_or lines k e) (all k e within) (has k e within)

  module _ (made : Merged) (merges : Merges (map texts parts) (Ok made)) where
    reports : List Summary
    reports = map (report_of_part d) parts

    has_pages : HasPages made.pages (whole_report d).lines
    unfolding names
    has_pages =
        let views = merged_views names (map (report_of_part d) parts) (map texts parts) made (plain d parts about texts are) (texts_are d parts about texts are)
        (lines_follow d.text are.limit d.trace are.trace are.counted.bytes d.rules d.explain names (all_lines (map (report_of_part d) parts)) (lines_are d parts about texts are)) merges in
        let pages = subst (All (λ (page : ℕ). has_page made.pages page ≡ true)) (map_views merges.2.entries ∙ ap (map view_page) views) merges.2.pages.1 in
        let lines = ap (λ (s : Summary). s.lines) (whole d parts about texts are) in
        has_lines made.pages (whole_report d).lines (whole_lines d parts about texts are)
        (subst (All (IsRead names made.pages)) lines (first_pages (λ (page : ℕ). has_page made.pages page ≡ true) names (in_order (all_lines (map (report_of_part d) parts))) pages))

    -- with other counts
    abbrev with_counts : List ℕ → ℕ → ℕ → Summary → Summary
    with_counts counts steps suppressed report = record report { rule_counts = counts; steps = steps; suppressed = suppressed; lost = lost_told d.text }

    pub pages_make_report : (explain : Bool) → counted_as (told made.counts) (record (part_report (Some made.pages) d.trace d.rules explain) { lost = lost_told d.text }) ≡ whole_report (record d { explain = explain })
    unfolding names
    pages_make_report explain =
        let say = all_say names (map (report_of_part d) parts) (map texts parts) merges.0 (plain d parts about texts are) (texts_are d parts about texts are) merges.1 in
        let end = merges.2.counts in
        let all = whole d parts about texts are in
        let its = part_report (Some made.pages) d.trace d.rules explain in
        let rules = ap (λ (s : Summary). s.rule_counts) end ∙ counts_say names (map (report_of_part d) parts) merges.0 say ∙ ap (λ (s : Summary). s.rule_counts) all in
        let steps = ap (λ (s : Summary). s.steps) end
        ∙ sums_say names (λ (c : ContentView). c.totals.steps) Steps (λ (s : Summary). s.steps) (λ part. refl) (λ s. refl) (map (report_of_part d) parts) merges.0 say ∙ ap (λ (s : Summary). s.steps) all in
        let suppressed = ap (λ (s : Summary). s.suppressed) end
        ∙ sums_say names (λ (c : ContentView). c.totals.suppressed) Suppressed (λ (s : Summary). s.suppressed) (λ part. refl) (λ s. refl) (map (report_of_part d) parts) merges.0 say ∙ ap (λ (s : Summary). s.suppressed) all in
        ap (λ (counts : List ℕ). with_counts counts (told made.counts).steps (told made.counts).suppressed its) rules
        ∙ ap (λ (n : ℕ). with_counts (whole_report d).rule_counts n (told made.counts).suppressed its) steps
        ∙ ap (λ (n : ℕ). with_counts (whole_report d).rule_counts (whole_report d).steps n its) suppressed
        ∙ ap (λ (s : Summary). record s { lost = lost_told d.text }) (pages-make made.pages d.trace d.rules explain d.explain merges.2.pages.0 has_pages)
