-- What is printed for the lines of a report is read back, line by line.
use Rattle.std.proofs.Common.{◌≡◌, ℕ, ◌^◌, ◌<◌, Bool, true, false, not, List, [], ◌∷◌, ◌++◌, map, take, flat_map, codes, decimal, refl, sym, ap, ◌∙◌, append_assoc}
use Rattle.std.specs.List.{list_all, position_or_len}
use Rattle.std.proofs.lemmas.Bool.{and_parts}
use Rattle.std.proofs.lemmas.List.Folds.{list_all-append}
use Rattle.er_lines.specs.Lines.{Line, is_end, lines_of, onto_line}
use Rattle.er_parts.specs.Merged.{line_number}
use Rattle.er_print.specs.Printed.{line_text, place_text}
use Rattle.er_print.specs.declared.lines.ReportKind.TheVariants.{Lockset}
use Rattle.er_report.specs.Lines.{LineView, RacedView, RefusedView, ShownView}
use Rattle.er_report.specs.declared.report.Because.{Because}
use Rattle.er_trace.specs.Names.{NameTable}
use Rattle.er_merge.specs.Lines.{address_in, number_in_front, or_step, report_line, step_line}
use Rattle.er_merge.specs.declared.lines.ReportLine.TheVariants as is
use Rattle.er_merge.proofs.NumberLemmas.{number_read, place_behind, take_front}
use Rattle.er_merge.proofs.WholeLemmas.{closed, head_pieces, line_pieces, reason_pieces, reasons_in}

abbrev pub no_feed : ℕ → Bool
no_feed byte = not (is_end byte)

-- pieces, one behind another
abbrev pub joined : List (List ℕ) → List ℕ
joined [] = []
joined (piece ∷ pieces) = piece ++ joined pieces

-- no piece has an LF
abbrev pub NoFeeds : List (List ℕ) → Type 0
NoFeeds [] = Unit {0}
NoFeeds (piece ∷ pieces) = (list_all no_feed piece ≡ true) × NoFeeds pieces

joined_plain : (pieces : List (List ℕ)) → NoFeeds pieces → list_all no_feed (joined pieces) ≡ true
joined_plain [] plain = refl
joined_plain (piece ∷ pieces) plain = list_all-append no_feed piece (joined pieces) ∙ (rw (plain.0, joined_plain pieces plain.1) refl)

closed_joined : (pieces : List (List ℕ)) (rest : List ℕ) → closed pieces ++ rest ≡ joined pieces ++ 10 ∷ rest
closed_joined [] rest = refl
closed_joined (piece ∷ pieces) rest =
    append_assoc piece (closed pieces) rest ∙ ap (λ t. piece ++ t) (closed_joined pieces rest) ∙ sym (append_assoc piece (joined pieces) (10 ∷ rest))

feed_step : (x : ℕ) (xs rest : List ℕ) (b : Bool) → is_end x ≡ b → list_all no_feed (x ∷ xs) ≡ true
    → (list_all no_feed xs ≡ true → lines_of (xs ++ 10 ∷ rest) ≡ record { bytes = xs; ended = true } ∷ lines_of rest)
    → lines_of (x ∷ xs ++ 10 ∷ rest) ≡ record { bytes = x ∷ xs; ended = true } ∷ lines_of rest
feed_step x xs rest true e plain more = let wrong = sym (ap not e) ∙ (and_parts (no_feed x) (list_all no_feed xs) plain).0 in absurd (cc)
feed_step x xs rest false e plain more = rw e (ap (onto_line x) (more (and_parts (no_feed x) (list_all no_feed xs) plain).1))

-- a line up to its LF
pub feed_line : (xs rest : List ℕ) → list_all no_feed xs ≡ true → lines_of (xs ++ 10 ∷ rest) ≡ record { bytes = xs; ended = true } ∷ lines_of rest
feed_line [] rest plain = refl
feed_line (x ∷ xs) rest plain = feed_step x xs rest (is_end x) refl plain (feed_line xs rest)

abbrev pub line_with : List (List ℕ) → Line
line_with pieces = record { bytes = joined pieces; ended = true }

pub closed_line : (pieces : List (List ℕ)) (rest : List ℕ) → NoFeeds pieces → lines_of (closed pieces ++ rest) ≡ line_with pieces ∷ lines_of rest
closed_line pieces rest plain = ap lines_of (closed_joined pieces rest) ∙ feed_line (joined pieces) rest (joined_plain pieces plain)

-- no piece of a line and of its reasons has one
abbrev pub ArePlain : NameTable → List Because → Type 0
ArePlain names [] = Unit {0}
ArePlain names (because ∷ reasons) = NoFeeds (reason_pieces names because) × ArePlain names reasons

pub record IsPrintable (names : NameTable) (line : LineView) : Type 0 where
  pub number : line_number line < 2 ^ 64
  pub head : NoFeeds (head_pieces names line)
  pub reasons : ArePlain names (reasons_in line)

abbrev pub reason_lines : NameTable → List Because → List Line
reason_lines names reasons = map (λ (because : Because). line_with (reason_pieces names because)) reasons

reasons_are : (names : NameTable) (reasons : List Because) → ArePlain names reasons → lines_of (flat_map (λ because. closed (reason_pieces names because)) reasons) ≡ reason_lines names reasons
reasons_are names [] plain = refl
reasons_are names (because ∷ reasons) plain =
    closed_line (reason_pieces names because) (flat_map (λ because. closed (reason_pieces names because)) reasons) plain.0
    ∙ ap (λ (lines : List Line). line_with (reason_pieces names because) ∷ lines) (reasons_are names reasons plain.1)

pub lines_are : (names : NameTable) (line : LineView) → IsPrintable names line → lines_of (line_text Lockset names line) ≡ line_with (head_pieces names line) ∷ reason_lines names (reasons_in line)
lines_are names line plain =
    ap lines_of (line_pieces names line) ∙ closed_line (head_pieces names line) (flat_map (λ because. closed (reason_pieces names because)) (reasons_in line)) plain.head
    ∙ ap (λ (lines : List Line). line_with (head_pieces names line) ∷ lines) (reasons_are names (reasons_in line) plain.reasons)

pub first_is : (names : NameTable) (line : LineView) → IsPrintable names line
    → take (position_or_len is_end (line_text Lockset names line)) (line_text Lockset names line) ≡ joined (head_pieces names line)
first_is names line plain =
    let head = joined (head_pieces names line) in
    let rest : List ℕ = flat_map (λ because. closed (reason_pieces names because)) (reasons_in line) in
    let text = line_pieces names line ∙ closed_joined (head_pieces names line) rest in
    let place = place_behind is_end head (10 ∷ rest) (joined_plain (head_pieces names line) plain.head) refl in
    ap (λ t. take (position_or_len is_end t) t) text ∙ ap (λ n. take n (head ++ 10 ∷ rest)) place ∙ take_front head (10 ∷ rest)

-- a line that names a line of the trace
place_read : (n : ℕ) (rest : List ℕ) → n < 2 ^ 64 → report_line (place_text n ++ rest) ≡ step_line n (place_text n ++ rest) (codes ": " ++ rest)
place_read n rest small =
    let text : List ℕ = place_text n ++ rest in
    ap (or_step text) (ap number_in_front (append_assoc (decimal n) (codes ": ") rest) ∙ number_read n (codes ": " ++ rest) small refl)

pub head_read : (names : NameTable) (line : LineView) → line_number line < 2 ^ 64
    → report_line (joined (head_pieces names line)) ≡ is.Step (record { line = line_number line; address = address_in (joined (head_pieces names line)) })
head_read names (RacedView race) small = place_read race.line _ small
head_read names (RefusedView number step refusal) small = place_read number _ small
head_read names (ShownView number word state) small = place_read number _ small
