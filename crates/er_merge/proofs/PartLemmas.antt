-- The lines of a report, one by one.
use Rattle.std.proofs.Common.{◌≡◌, ◌⊎◌, ℕ, zero, suc, ◌+◌, ◌-◌, ◌<◌, true, false, List, [], ◌∷◌, ◌++◌, length, map, take, get_or, Option, Result, Ok, Err, sym, ap, subst, ◌∙◌, inl, inr, arith}
use Rattle.std.proofs.lemmas.List.{map_push, take_more}
use Rattle.er_lines.specs.Lines.{Line, lines_of}
use Rattle.er_merge.specs.Merging.{AreParts, FailsToRead, IsFirstFault}
use Rattle.er_merge.specs.Parts.{BodyView, ContentView, HeadingView, ReportView, Reads, body_from, go_on, headed, headed_by, heading_in, part_in, part_of, report_view, with_line}
use Rattle.er_merge.specs.declared.faults.LineFault.{LineFault}
use Rattle.er_merge.specs.declared.faults.LineFault.TheVariants.{NoPart}
use Rattle.er_merge.specs.declared.faults.MergeFault.{MergeFault}
use Rattle.er_merge.specs.declared.faults.MergeFault.TheVariants as merging
use Rattle.er_merge.specs.declared.parts.PartReport.{PartReport}

-- a line that is added
pub next_line : (n : ℕ) (b next : BodyView) (lines rest : List Line) (bytes : List ℕ) → lines ≡ record { bytes = bytes; ended = true } ∷ rest → with_line b bytes ≡ Ok next
    → body_from n b lines ≡ body_from (n + 1) next rest
next_line n b next lines rest bytes first added =
    ap (body_from n b) first ∙ ap (λ (r : Result BodyView LineFault). go_on n r (λ (now : BodyView). body_from (n + 1) now rest)) added

-- and one that can't be
pub wrong_line : (n : ℕ) (b : BodyView) (lines rest : List Line) (bytes : List ℕ) (fault : LineFault) → lines ≡ record { bytes = bytes; ended = true } ∷ rest → with_line b bytes ≡ Err fault
    → body_from n b lines ≡ Err (n, fault)
wrong_line n b lines rest bytes fault first refused =
    ap (body_from n b) first ∙ ap (λ (r : Result BodyView LineFault). go_on n r (λ (now : BodyView). body_from (n + 1) now rest)) refused

-- a text without a first line is no report
pub no_line : (text : List ℕ) → (text ≡ []) ⊎ (lines_of text ≡ record { bytes = text; ended = false } ∷ []) → part_of text ≡ Err (1, NoPart)
unfolding part_of
no_line text (inl none) = ap (λ (bytes : List ℕ). part_in (lines_of bytes)) none
no_line text (inr last) = ap part_in last

-- what the first line says, and then the others
pub by_heading : (text line : List ℕ) (rest : List Line) (heading : Option HeadingView) → lines_of text ≡ record { bytes = line; ended = true } ∷ rest → heading ≡ heading_in line
    → part_of text ≡ headed_by heading rest
unfolding part_of
by_heading text line rest heading first is = ap part_in first ∙ ap (λ (h : Option HeadingView). headed_by h rest) (sym is)

-- a fault of the other lines is one of the report
pub headed_fault : {X Y : Type 0} (view : X → ContentView) (whole : Y → ReportView) (number : ℕ) (part : Result ReportView (ℕ × LineFault)) (heading : HeadingView) (content : Result ContentView (ℕ × LineFault)) (fault : MergeFault)
    → part ≡ headed heading content → Reads view number content (Err fault) → Reads whole number part (Err fault)
headed_fault view whole number part heading content (merging.Line n line fault) is wrong = (wrong.0, is ∙ ap (headed heading) wrong.1)
headed_fault view whole number part heading content (merging.Other n) is wrong = wrong
headed_fault view whole number part heading content (merging.Twice n) is wrong = wrong
headed_fault view whole number part heading content (merging.Missing n) is wrong = wrong
headed_fault view whole number part heading content merging.CountsTooLarge is wrong = wrong
headed_fault view whole number part heading content merging.Memory is wrong = tt

-- an element of a list that is mapped
pub at_map : {X : Type 0} (f : X → List ℕ) (xs : List X) (k : ℕ) (x : X) → k < length xs → x ≡ get_or xs k x → get_or (map f xs) k [] ≡ f x
at_map f [] k x within is = absurd (omega (arith, within))
at_map f (y ∷ ys) zero x within is = ap f (sym is)
at_map f (y ∷ ys) (suc k) x within is = at_map f ys k x (omega (arith, within)) is

abbrev right : PartReport → Result ReportView (ℕ × LineFault)
right part = Ok (report_view part)

-- one report more
pub one_part_more : (texts : List (List ℕ)) (k : ℕ) (text : List ℕ) (parts more : List PartReport) (part : PartReport) → k < length texts → get_or texts k [] ≡ text
    → AreParts (take k texts) parts → part_of text ≡ Ok (report_view part) → more ≡ parts ++ part ∷ [] → AreParts (take (k + 1) texts) more
one_part_more texts k text parts more part within here before is pushed =
    let this : part_of (get_or texts k []) ≡ right part = ap part_of here ∙ is in
    ap (map part_of) (take_more texts k [] within) ∙ map_push part_of (take k texts) (get_or texts k [])
    ∙ ap (λ (found : List (Result ReportView (ℕ × LineFault))). found ++ part_of (get_or texts k []) ∷ []) before
    ∙ ap (λ (last : Result ReportView (ℕ × LineFault)). map right parts ++ last ∷ []) this
    ∙ sym (map_push right parts part) ∙ sym (ap (map right) pushed)

first_fault : (texts : List (List ℕ)) (k n line : ℕ) (text : List ℕ) (parts : List PartReport) (fault : LineFault) → n ≡ k + 1 → k < length texts → get_or texts k [] ≡ text
    → AreParts (take k texts) parts → part_of text ≡ Err (line, fault) → IsFirstFault texts n line fault
first_fault texts k n line text parts fault number within here before wrong =
    let place : k ≡ n - 1 = omega (arith, number) in
    record {
      some = omega (arith, number);
      within = omega (arith, number, within);
      parts = parts;
      before = subst (λ (m : ℕ). AreParts (take m texts) parts) place before;
      here = ap (λ (m : ℕ). part_of (get_or texts m [])) (sym place) ∙ ap part_of here ∙ wrong;
    }

-- the first text that is no report
pub not_read : {X : Type 0} (view : X → ReportView) (texts : List (List ℕ)) (k : ℕ) (text : List ℕ) (parts : List PartReport) (fault : MergeFault) → k < length texts → get_or texts k [] ≡ text
    → AreParts (take k texts) parts → Reads view (k + 1) (part_of text) (Err fault) → FailsToRead texts fault
not_read view texts k text parts (merging.Line n line fault) within here before wrong = first_fault texts k n line text parts fault wrong.0 within here before wrong.1
not_read view texts k text parts (merging.Other n) within here before wrong = wrong
not_read view texts k text parts (merging.Twice n) within here before wrong = wrong
not_read view texts k text parts (merging.Missing n) within here before wrong = wrong
not_read view texts k text parts merging.CountsTooLarge within here before wrong = wrong
not_read view texts k text parts merging.Memory within here before wrong = tt
