-- What stands behind the lines of a report is read back: the counts of its rules, and its totals.
use Rattle.std.proofs.Common.{◌≡◌, ℕ, suc, ◌+◌, ◌^◌, ◌<◌, ◌==◌, Bool, true, false, cond, List, [], ◌∷◌, ◌++◌, Option, Some, None, Ok, Err, length, length-append, nat_lt, codes, decimal, refl, sym, ap, ◌∙◌, subst, append_assoc, append-nil, arith}
use Rattle.std.specs.List.{All, list_all, starts_with}
use Rattle.std.specs.Option.{option_and_then}
use Rattle.std.specs.Prelude.{nat_eq, option_map}
use Rattle.std.proofs.lemmas.Bool.Decides.{nat_tests}
use Rattle.er_lines.specs.Lines.{Line, lines_of}
use Rattle.er_print.specs.Printed.{count_text, counts_text, lost_text, totals_text}
use Rattle.er_print.specs.declared.lines.ReportKind.TheVariants.{Lockset}
use Rattle.er_report.specs.Report.{Summary}
use Rattle.er_merge.specs.Lines.{count_behind, is_no_digit, lost_behind, lost_in, number_behind, number_in_front, or_count, races_label, report_line, totals_if}
use Rattle.er_merge.specs.Parts.{BodyView, EntryView, with_kind, with_line}
use Rattle.er_merge.specs.Texts.{CountsFit, lost_number, totals_of}
use Rattle.er_merge.specs.declared.faults.LineFault.TheVariants.{Foreign}
use Rattle.er_merge.specs.declared.lines.Place.{Place}
use Rattle.er_merge.specs.declared.lines.ReportLine.TheVariants as is
use Rattle.er_merge.specs.declared.lines.Totals.{Totals}
use Rattle.er_merge.proofs.BodyLemmas.{Leads, leads_one, leads_then}
use Rattle.er_merge.proofs.NumberLemmas.{Stops, digits_pass, number_read}
use Rattle.er_merge.proofs.ReadLemmas.{NoFeeds, closed_line, joined, line_with, no_feed}
use Rattle.er_merge.proofs.WholeLemmas.{closed, closed_is}

digit_feed : (d : ℕ) → d < 10 → no_feed (48 + d) ≡ true
digit_feed d small = grind (arith, nat_tests, small)

-- no digit is an LF
pub decimal_plain : (n : ℕ) → n < 2 ^ 64 → list_all no_feed (decimal n) ≡ true
decimal_plain n small = digits_pass no_feed digit_feed n small

-- counts were read as well
abbrev pub counted : List EntryView → Option Place → List ℕ → BodyView
counted entries last counts = record { entries = entries; counts = counts; totals = None; last = last }

abbrev count_pieces : ℕ → ℕ → List (List ℕ)
count_pieces number count = codes "suppression " ∷ decimal number ∷ codes ": " ∷ decimal count ∷ []

count_closed : (number count : ℕ) → count_text number count ≡ closed (count_pieces number count)
count_closed number count = closed_is (codes "suppression ") (decimal number ∷ codes ": " ∷ decimal count ∷ [])

count_read : (number count : ℕ) → number < 2 ^ 64 → count < 2 ^ 64 → report_line (joined (count_pieces number count)) ≡ is.Count number count
count_read number count small few =
    ap (or_count (joined (count_pieces number count))) (number_read number (codes ": " ++ (decimal count ++ [])) small refl)
    ∙ ap (count_behind number) (number_read count [] few tt)

counts_if : (b : Bool) (x : BodyView) → b ≡ true → cond b (Ok x) (Err Foreign) ≡ Ok x
counts_if true x e = refl
counts_if false x e = absurd (cc)

count_added : (es : List EntryView) (last : Option Place) (counts : List ℕ) (number count : ℕ) → number < 2 ^ 64 → count < 2 ^ 64 → number ≡ length counts + 1
    → with_line (counted es last counts) (joined (count_pieces number count)) ≡ Ok (counted es last (counts ++ count ∷ []))
count_added es last counts number count small few next =
    let test : (number == length counts + 1) ≡ true = grind (arith, nat_tests, next) in
    ap (with_kind (counted es last counts) (joined (count_pieces number count))) (count_read number count small few)
    ∙ counts_if (number == length counts + 1) (counted es last (counts ++ count ∷ [])) test

count_plain : (number count : ℕ) → number < 2 ^ 64 → count < 2 ^ 64 → NoFeeds (count_pieces number count)
count_plain number count small few = (refl, (decimal_plain number small, (refl, (decimal_plain count few, tt))))

-- the lines of the counts
abbrev pub count_lines : ℕ → List ℕ → List Line
count_lines number [] = []
count_lines number (count ∷ counts) = line_with (count_pieces number count) ∷ count_lines (number + 1) counts

pub counts_are : (number : ℕ) (counts rest : List ℕ) → number + length counts < 2 ^ 64 → All (λ (count : ℕ). count < 2 ^ 64) counts
    → lines_of (counts_text number counts ++ rest) ≡ count_lines number counts ++ lines_of rest
counts_are number [] rest small few = refl
counts_are number (count ∷ counts) rest small few =
    let more = counts_are (number + 1) counts rest (omega (arith, small)) (λ k d h. few (suc k) d (omega (arith, h))) in
    ap lines_of (append_assoc (count_text number count) (counts_text (number + 1) counts) rest)
    ∙ ap (λ (t : List ℕ). lines_of (t ++ (counts_text (number + 1) counts ++ rest))) (count_closed number count)
    ∙ closed_line (count_pieces number count) (counts_text (number + 1) counts ++ rest) (count_plain number count (omega (arith, small)) (few 0 0 (omega arith)))
    ∙ ap (λ (lines : List Line). line_with (count_pieces number count) ∷ lines) more

pub counts_lead : (es : List EntryView) (last : Option Place) (before : List ℕ) (number : ℕ) (counts : List ℕ) → number ≡ length before + 1 → number + length counts < 2 ^ 64 → All (λ (count : ℕ). count < 2 ^ 64) counts
    → Leads (counted es last before) (count_lines number counts) (counted es last (before ++ counts))
counts_lead es last before number [] next small few = subst (λ (all : List ℕ). Leads (counted es last before) [] (counted es last all)) (sym (append-nil before)) (λ n more. (n, refl))
counts_lead es last before number (count ∷ counts) next small few =
    let rest = counts_lead es last (before ++ count ∷ []) (number + 1) counts (omega (arith, next, length-append before (count ∷ []))) (omega (arith, small)) (λ k d h. few (suc k) d (omega (arith, h))) in
    leads_then (counted es last before) (counted es last (before ++ count ∷ [])) (counted es last (before ++ count ∷ counts)) (line_with (count_pieces number count) ∷ []) (count_lines (number + 1) counts)
    (leads_one (counted es last before) (counted es last (before ++ count ∷ [])) (joined (count_pieces number count)) (count_added es last before number count (omega (arith, small)) (few 0 0 (omega arith)) next))
    (subst (λ (all : List ℕ). Leads (counted es last (before ++ count ∷ [])) (count_lines (number + 1) counts) (counted es last all)) (append_assoc before (count ∷ []) counts) rest)

-- the totals

abbrev pub totals_pieces : Summary → List (List ℕ)
totals_pieces s =
    codes "steps " ∷ decimal s.steps ∷ codes ", races " ∷ decimal s.races ∷ codes ", suppressed " ∷ decimal s.suppressed ∷ codes ", refused " ∷ decimal s.refused ∷ lost_text (codes ", lost ") [] s.lost ∷ []

pub totals_closed : (s : Summary) → totals_text Lockset s ≡ closed (totals_pieces s)
totals_closed s =
    closed_is (codes "steps ") (decimal s.steps ∷ codes ", races " ∷ decimal s.races ∷ codes ", suppressed " ∷ decimal s.suppressed ∷ codes ", refused " ∷ decimal s.refused ∷ lost_text (codes ", lost ") [] s.lost ∷ [])

abbrev with_lost : Bool → ℕ → ℕ → ℕ → ℕ × List ℕ → Option Totals
with_lost unordered steps races suppressed refused =
    option_map (λ (lost : ℕ). record { unordered = unordered; steps = steps; races = races; suppressed = suppressed; refused = refused.0; lost = lost }) (lost_in refused.1)

abbrev with_refused : Bool → ℕ → ℕ → ℕ × List ℕ → Option Totals
with_refused unordered steps races suppressed = option_and_then (with_lost unordered steps races suppressed.0) (number_behind (codes ", refused ") suppressed.1)

abbrev with_suppressed : Bool → ℕ → ℕ × List ℕ → Option Totals
with_suppressed unordered steps races = option_and_then (with_refused unordered steps races.0) (number_behind (codes ", suppressed ") races.1)

abbrev with_races : ℕ × List ℕ → Option Totals
with_races steps = let unordered = starts_with nat_eq steps.1 (codes ", unordered ") in option_and_then (with_suppressed unordered steps.0) (number_behind (races_label unordered) steps.1)

-- what is printed of lost events
lost_step : (n : ℕ) (b : Bool) → nat_lt 0 n ≡ b → n < 2 ^ 64 → (lost_in (cond b (codes ", lost " ++ decimal n ++ []) [] ++ []) ≡ Some n) × Stops is_no_digit (cond b (codes ", lost " ++ decimal n ++ []) [] ++ [])
lost_step n true e small =
    (ap lost_behind (ap number_in_front (append-nil (decimal n ++ []) ∙ refl) ∙ number_read n [] small tt), refl)
lost_step n false e small = let none : 0 ≡ n = grind (arith, nat_tests, e) in (ap Some none, tt)

lost_read : (lost : Option ℕ) → lost_number lost < 2 ^ 64 → (lost_in (lost_text (codes ", lost ") [] lost ++ []) ≡ Some (lost_number lost)) × Stops is_no_digit (lost_text (codes ", lost ") [] lost ++ [])
unfolding lost_text
lost_read None small = (refl, tt)
lost_read (Some n) small = lost_step n (nat_lt 0 n) refl small

lost_plain_step : (n : ℕ) (b : Bool) → n < 2 ^ 64 → list_all no_feed (cond b (codes ", lost " ++ decimal n ++ []) []) ≡ true
lost_plain_step n true small = ap (list_all no_feed) (append-nil (decimal n)) ∙ decimal_plain n small
lost_plain_step n false small = refl

lost_plain : (lost : Option ℕ) → lost_number lost < 2 ^ 64 → list_all no_feed (lost_text (codes ", lost ") [] lost) ≡ true
unfolding lost_text
lost_plain None small = refl
lost_plain (Some n) small = lost_plain_step n (nat_lt 0 n) small

pub totals_plain : (s : Summary) → CountsFit s → NoFeeds (totals_pieces s)
totals_plain s fit =
    (refl, (decimal_plain s.steps fit.steps, (refl, (decimal_plain s.races fit.races, (refl, (decimal_plain s.suppressed fit.suppressed, (refl, (decimal_plain s.refused fit.refused, (lost_plain s.lost fit.lost, tt)))))))))

pub totals_read : (s : Summary) → CountsFit s → report_line (joined (totals_pieces s)) ≡ is.Totals (totals_of s)
totals_read s fit =
    let r4 : List ℕ = lost_text (codes ", lost ") [] s.lost ++ [] in
    let r3 : List ℕ = codes ", refused " ++ (decimal s.refused ++ r4) in
    let r2 : List ℕ = codes ", suppressed " ++ (decimal s.suppressed ++ r3) in
    let r1 : List ℕ = codes ", races " ++ (decimal s.races ++ r2) in
    let lost = lost_read s.lost fit.lost in
    ap totals_if
    (ap (option_and_then with_races) (number_read s.steps r1 fit.steps refl)
    ∙ ap (option_and_then (with_suppressed false s.steps)) (number_read s.races r2 fit.races refl)
    ∙ ap (option_and_then (with_refused false s.steps s.races)) (number_read s.suppressed r3 fit.suppressed refl)
    ∙ ap (option_and_then (with_lost false s.steps s.races s.suppressed)) (number_read s.refused r4 fit.refused lost.1)
    ∙ ap (option_map (λ (n : ℕ). record { unordered = false; steps = s.steps; races = s.races; suppressed = s.suppressed; refused = s.refused; lost = n })) lost.0)
