-- What a line of a report is, by its bytes.
use Rattle.std.specs.Prelude.{ℕ, ◌-◌, ◌||◌, ◌&&◌, Bool, true, false, not, List, [], ◌∷◌, Option, Some, None, length, take, drop, codes, nat_eq, nat_le, option_map, unwrap_or, if◌then◌else◌}
use Rattle.std.specs.List.{position_or_len, starts_with}
use Rattle.std.specs.Option.{option_and_then}
use denote.Ref.{Bor}
use Rattle.std.specs.Str.{bytes_eq}
use Rattle.er_lines.specs.Lines.{word_at, words}
use Rattle.er_lines.specs.Number.{number_of, value_in}
use Rattle.er_merge.specs.declared.lines.ReportLine.{ReportLine}
use Rattle.er_merge.specs.declared.lines.ReportLine.TheVariants as is
use Rattle.er_merge.specs.declared.lines.Totals.{Totals}

-- a byte that is no decimal digit
abbrev pub is_no_digit : ℕ → Bool
is_no_digit byte = not (nat_le 48 byte && nat_le byte 57)

-- what follows these bytes, if the text begins with them
abbrev pub behind : List ℕ → List ℕ → Option (List ℕ)
behind before text = if starts_with nat_eq text before then Some (drop (length before) text) else None

-- the number that a text begins with, and what follows it
abbrev pub number_in_front : List ℕ → Option (ℕ × List ℕ)
number_in_front text =
    let len = position_or_len is_no_digit text in option_map (λ (value : ℕ). (value, drop len text)) (value_in 10 (take len text))

-- the number that stands behind these bytes, and what follows it
abbrev pub number_behind : List ℕ → List ℕ → Option (ℕ × List ℕ)
number_behind before text = option_and_then number_in_front (behind before text)

-- the code's values, without where they lie in memory
abbrev pub seen_number : Option (ℕ × Bor (List ℕ)) → Option (ℕ × List ℕ)
seen_number None = None
seen_number (Some found) = Some (found.0, found.1.now)

-- what tells of a step, behind the number of its line
abbrev pub is_step : List ℕ → Bool
is_step rest =
    starts_with nat_eq rest (codes ": race: ") || starts_with nat_eq rest (codes ": unordered: ")
    || starts_with nat_eq rest (codes ": refused: ") || starts_with nat_eq rest (codes ": state ")

-- the word that is an address: the sixth of the line of a race, and the fourth of that of a state, without its colon
abbrev pub address_word : List (List ℕ) → List ℕ
address_word words = if bytes_eq (word_at 2 words) (codes "state") then take (length (word_at 3 words) - 1) (word_at 3 words) else word_at 5 words

-- the address, or 0
abbrev pub address_in : List ℕ → ℕ
address_in text = unwrap_or (number_of (address_word (words text))) 0

-- a line that names this line of the trace, and what follows the name
abbrev pub step_line : ℕ → List ℕ → List ℕ → ReportLine
step_line line text rest =
    if starts_with nat_eq rest (codes ": stopped: ") then is.Stopped
    else if is_step rest then is.Step (record { line = line; address = address_in text }) else is.Foreign

-- how many races the rule of this number took, if a number ends the line
abbrev pub count_behind : ℕ → Option (ℕ × List ℕ) → ReportLine
count_behind number None = is.Foreign
count_behind number (Some (count, [])) = is.Count number count
count_behind number (Some (count, byte ∷ bytes)) = is.Foreign

-- the same, by what follows the number of the rule
abbrev pub count_line : ℕ → List ℕ → ReportLine
count_line number rest = count_behind number (number_behind (codes ": ") rest)

-- what the totals call races
abbrev pub races_label : Bool → List ℕ
races_label true = codes ", unordered "
races_label false = codes ", races "

-- how many events were lost, if a number ends the line
abbrev pub lost_behind : Option (ℕ × List ℕ) → Option ℕ
lost_behind None = None
lost_behind (Some (lost, [])) = Some lost
lost_behind (Some (lost, byte ∷ bytes)) = None

-- and what ends it if nothing was lost
abbrev pub lost_in : List ℕ → Option ℕ
lost_in [] = Some 0
lost_in (byte ∷ bytes) = lost_behind (number_behind (codes ", lost ") (byte ∷ bytes))

-- the numbers of a line of totals
abbrev pub totals_in : List ℕ → Option Totals
totals_in text =
    option_and_then (λ (steps : ℕ × List ℕ). let unordered = starts_with nat_eq steps.1 (codes ", unordered ") in
    option_and_then (λ (races : ℕ × List ℕ). option_and_then (λ (suppressed : ℕ × List ℕ). option_and_then (λ (refused : ℕ × List ℕ).
    option_map (λ (lost : ℕ).
    record { unordered = unordered; steps = steps.0; races = races.0; suppressed = suppressed.0; refused = refused.0; lost = lost })
    (lost_in refused.1))
    (number_behind (codes ", refused ") suppressed.1))
    (number_behind (codes ", suppressed ") races.1))
    (number_behind (races_label unordered) steps.1))
    (number_behind (codes "steps ") text)

-- the totals, if their numbers were read
abbrev pub totals_if : Option Totals → ReportLine
totals_if None = is.Foreign
totals_if (Some totals) = is.Totals totals

-- the totals that a line has, or else it is no line of a report
abbrev pub totals_line : List ℕ → ReportLine
totals_line text = totals_if (totals_in text)

-- the count of a rule, or else the totals
abbrev pub or_count : List ℕ → Option (ℕ × List ℕ) → ReportLine
or_count text None = totals_line text
or_count text (Some found) = count_line found.0 found.1

-- a line that names a line of the trace, or else one of those that follow the steps
abbrev pub or_step : List ℕ → Option (ℕ × List ℕ) → ReportLine
or_step text None = or_count text (number_behind (codes "suppression ") text)
or_step text (Some found) = step_line found.0 text found.1

-- what a line is, without its LF
abbrev pub report_line : List ℕ → ReportLine
report_line text = if starts_with nat_eq text (codes "  ") then is.Reason else or_step text (number_behind (codes "line ") text)
