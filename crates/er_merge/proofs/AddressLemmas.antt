-- The address of a race is read back from what is printed for it, so addresses of races are in the order of their words.
use Rattle.std.proofs.Common.{◌≡◌, ℕ, ◌+◌, ◌-◌, ◌*◌, ◌^◌, ◌<◌, ◌≤◌, inl, inr, Bool, true, false, not, List, [], ◌∷◌, ◌++◌, Option, Some, length, length-append, filter, take, unwrap_or, nat_lt, nat_le, codes, decimal, refl, sym, ap, ◌∙◌, subst, append_assoc, arith}
use Rattle.std.specs.Char.{is_digit}
use Rattle.std.specs.List.{All, list_all, slice_split}
use Rattle.std.specs.Str.Parse.{digits_value}
use Rattle.std.proofs.lemmas.Bool.{and_parts}
use Rattle.std.proofs.lemmas.Bool.Decides.{nat_tests}
use Rattle.std.proofs.lemmas.List.Elements.{All-contains}
use Rattle.std.proofs.lemmas.List.Folds.{list_all-append}
use Rattle.std.proofs.lemmas.List.Splits.{slice_split-cons_no, slice_split-cons_yes}
use Rattle.er_event.specs.declared.steps.Kind.{Kind}
use Rattle.er_event.specs.declared.steps.Kind.TheVariants as kind
use Rattle.er_event.specs.declared.steps.WordState.{WordState}
use Rattle.er_lines.specs.Lines.{has_bytes, is_gap, words}
use Rattle.er_lines.specs.Number.{hex_digits, number_of}
use Rattle.er_lines.proofs.ReadyLaws.{hex_is}
use Rattle.er_parts.specs.Merged.{deed_word, line_word}
use Rattle.er_print.specs.Printed.{address_text, bytes_between, kind_text, locks_text, name_at, place_text, site_text, state_text}
use Rattle.er_print.specs.Styles.{named_site}
use Rattle.er_print.specs.declared.styles.Style.TheVariants as style
use Rattle.er_report.specs.Lines.{LineView, RaceView, RacedView, RefusedView, ShownView}
use Rattle.er_report.specs.declared.report.Deed.{Deed}
use Rattle.er_report.specs.declared.report.Deed.TheVariants as deed
use Rattle.er_trace.specs.Names.{NameTable}
use Rattle.er_merge.specs.Lines.{address_in, address_word}
use Rattle.er_merge.specs.Texts.{AddressesFollow, HasPlainNames, IsRaceOfWord, LineFits, RacesAloneShare, address_of}
use Rattle.er_merge.proofs.NumberLemmas.{digits_pass}
use Rattle.er_merge.proofs.PlainLemmas.{printable}
use Rattle.er_merge.proofs.ReadLemmas.{first_is, joined}
use Rattle.er_merge.proofs.WholeLemmas.{deed_pieces}

abbrev pub no_gap : ℕ → Bool
no_gap byte = not (is_gap byte)

not_true : (b : Bool) → not b ≡ true → b ≡ false
not_true true e = absurd (cc)
not_true false e = refl

split_word : (word rest : List ℕ) → list_all no_gap word ≡ true → slice_split is_gap (word ++ 32 ∷ rest) ≡ word ∷ slice_split is_gap rest
split_word [] rest plain = slice_split-cons_yes is_gap 32 rest refl
split_word (x ∷ xs) rest plain =
    let parts = and_parts (no_gap x) (list_all no_gap xs) plain in
    slice_split-cons_no is_gap x (xs ++ 32 ∷ rest) (not_true (is_gap x) parts.0) ∙ (rw (split_word xs rest parts.1) refl)

filled : (word : List ℕ) (parts : List (List ℕ)) → has_bytes word ≡ true → filter has_bytes (word ∷ parts) ≡ word ∷ filter has_bytes parts
filled [] parts some = absurd (cc)
filled (x ∷ xs) parts some = refl

-- a word and a space
first_word : (word rest : List ℕ) → has_bytes word ≡ true → list_all no_gap word ≡ true → words (word ++ 32 ∷ rest) ≡ word ∷ words rest
first_word word rest some plain = ap (λ (parts : List (List ℕ)). filter has_bytes parts) (split_word word rest plain) ∙ filled word (slice_split is_gap rest) some

digit_gap : (d : ℕ) → d < 10 → no_gap (48 + d) ≡ true
digit_gap d small = grind (arith, nat_tests, small)

hex_gap : (b : ℕ) → is_digit b 16 ≡ true → no_gap b ≡ true
hex_gap b e = grind (arith, nat_tests, e)

all_so : (p q : ℕ → Bool) → ((b : ℕ) → p b ≡ true → q b ≡ true) → (bytes : List ℕ) → list_all p bytes ≡ true → list_all q bytes ≡ true
all_so p q means [] all = refl
all_so p q means (b ∷ bytes) all = let parts = and_parts (p b) (list_all p bytes) all in rw (means b parts.0, all_so p q means bytes parts.1) refl

some_bytes : (ds : List ℕ) → 0 < length ds → has_bytes ds ≡ true
some_bytes [] some = absurd (omega (arith, some))
some_bytes (d ∷ ds) some = refl

colon_some : (ds : List ℕ) → has_bytes (ds ++ 58 ∷ []) ≡ true
colon_some [] = refl
colon_some (d ∷ ds) = refl

kind_word : (k : Kind) → (has_bytes (kind_text k) ≡ true) × (list_all no_gap (kind_text k) ≡ true)
kind_word kind.Read = (refl, refl)
kind_word kind.Write = (refl, refl)

address_value : (word : ℕ) → word < 2 ^ 46 → number_of (address_text word) ≡ Some (4 * word)
address_value word small =
    let most : 16 ^ 12 ≡ 2 ^ 48 = refl in
    let four : 2 ^ 48 ≡ 2 ^ 46 * 4 = refl in
    let hex = hex_is 12 (4 * word) (omega (arith, small, most, four)) in
    let size : 0 < length (hex_digits 12 (4 * word)) = omega (arith, hex.size) in
    let fits : 4 * word < 2 ^ 64 = (let large : 2 ^ 48 ≤ 2 ^ 64 = omega arith in omega (arith, small, four, large)) in
    let low : nat_lt (digits_value 16 (hex_digits 12 (4 * word))) (2 ^ 64) ≡ true = (rw hex.value (grind (arith, nat_tests, fits))) in
    rw (some_bytes (hex_digits 12 (4 * word)) size, hex.digits, low) (ap Some hex.value)

address_plain : (word : ℕ) → word < 2 ^ 46 → list_all no_gap (address_text word) ≡ true
address_plain word small =
    let most : 16 ^ 12 ≡ 2 ^ 48 = refl in
    let four : 2 ^ 48 ≡ 2 ^ 46 * 4 = refl in
    let hex = hex_is 12 (4 * word) (omega (arith, small, most, four)) in
    all_so (λ d. is_digit d 16) no_gap hex_gap (hex_digits 12 (4 * word)) hex.digits

-- the words of a place and what stands behind it
place_words : (n : ℕ) (rest : List ℕ) → n < 2 ^ 64 → words (place_text n ++ rest) ≡ codes "line" ∷ (decimal n ++ 58 ∷ []) ∷ words rest
place_words n rest small =
    let colon : list_all no_gap (decimal n ++ 58 ∷ []) ≡ true = list_all-append no_gap (decimal n) (58 ∷ []) ∙ (rw (digits_pass no_gap digit_gap n small) refl) in
    first_word (codes "line") ((decimal n ++ codes ": ") ++ rest) refl refl
    ∙ ap (λ (t : List ℕ). codes "line" ∷ words t) (append_assoc (decimal n) (codes ": ") rest ∙ sym (append_assoc (decimal n) (58 ∷ []) (32 ∷ rest)))
    ∙ ap (λ (ws : List (List ℕ)). codes "line" ∷ ws) (first_word (decimal n ++ 58 ∷ []) rest (colon_some (decimal n)) colon)

-- what the word of the address says
abbrev address_at : List (List ℕ) → ℕ
address_at ws = unwrap_or (number_of (address_word ws)) 0

deed_words : (names : NameTable) (race : RaceView) (d : Deed) → has_bytes (name_at names.threads race.thread) ≡ true → list_all no_gap (name_at names.threads race.thread) ≡ true → deed_word d < 2 ^ 46
    → (verb : List ℕ) × (rest : List ℕ) × (words (joined (deed_pieces names race d)) ≡ name_at names.threads race.thread ∷ verb ∷ address_text (deed_word d) ∷ words rest)
deed_words names race (deed.Access k word) some plain small =
    let name = name_at names.threads race.thread in
    let rest : List ℕ = codes "at " ++ (site_text names race.site ++ (codes ", holds " ++ (locks_text names race.held ++ []))) in (
      kind_text k,
      rest,
      first_word name (kind_text k ++ 32 ∷ (address_text word ++ 32 ∷ rest)) some plain
          ∙ ap (λ (ws : List (List ℕ)). name ∷ ws) (first_word (kind_text k) (address_text word ++ 32 ∷ rest) (kind_word k).0 (kind_word k).1)
          ∙ ap (λ (ws : List (List ℕ)). name ∷ kind_text k ∷ ws) (first_word (address_text word) rest refl (address_plain word small)),
    )
deed_words names race (deed.Reuse range) some plain small =
    let name = name_at names.threads race.thread in
    let rest : List ℕ = decimal (bytes_between range.lo range.hi) ++ (named_site style.Plain names (codes " at ") race.site ++ []) in (
      codes "reuse",
      rest,
      first_word name (codes "reuse " ++ (address_text range.lo ++ 32 ∷ rest)) some plain
          ∙ ap (λ (ws : List (List ℕ)). name ∷ ws) (first_word (codes "reuse") (address_text range.lo ++ 32 ∷ rest) refl refl)
          ∙ ap (λ (ws : List (List ℕ)). name ∷ codes "reuse" ∷ ws) (first_word (address_text range.lo) rest refl (address_plain range.lo small)),
    )

race_address : (names : NameTable) (race : RaceView) → HasPlainNames names → LineFits (RacedView race) → has_bytes (name_at names.threads race.thread) ≡ true
    → list_all no_gap (name_at names.threads race.thread) ≡ true → deed_word race.deed < 2 ^ 46 → address_of names (RacedView race) ≡ 4 * deed_word race.deed
race_address names race plain fit some gap small =
    let deed = joined (deed_pieces names race race.deed) in
    let found = deed_words names race race.deed some gap small in
    let all = place_words race.line (codes "race: " ++ deed) fit.0
    ∙ ap (λ (ws : List (List ℕ)). codes "line" ∷ (decimal race.line ++ 58 ∷ []) ∷ ws) (first_word (codes "race:") deed refl refl ∙ ap (λ (ws : List (List ℕ)). codes "race:" ∷ ws) found.2) in
    ap address_in (first_is names (RacedView race) (printable names (RacedView race) plain fit))
    ∙ ap address_at all
    ∙ ap (λ (n : Option ℕ). unwrap_or n 0) (address_value (deed_word race.deed) small)

take_front : (xs ys : List ℕ) → take (length xs) (xs ++ ys) ≡ xs
take_front [] ys = refl
take_front (x ∷ xs) ys = ap (λ (zs : List ℕ). x ∷ zs) (take_front xs ys)

without_colon : (xs : List ℕ) → take (length (xs ++ 58 ∷ []) - 1) (xs ++ 58 ∷ []) ≡ xs
without_colon xs =
    let long : length (xs ++ 58 ∷ []) - 1 ≡ length xs = omega (arith, length-append xs (58 ∷ [])) in
    ap (λ (n : ℕ). take n (xs ++ 58 ∷ [])) long ∙ take_front xs (58 ∷ [])

shown_address : (names : NameTable) (number word : ℕ) (state : WordState) → HasPlainNames names → LineFits (ShownView number word state) → word < 2 ^ 46
    → address_of names (ShownView number word state) ≡ 4 * word
shown_address names number word state plain fit small =
    let rest : List ℕ = state_text names state ++ [] in
    let colon : list_all no_gap (address_text word ++ 58 ∷ []) ≡ true = list_all-append no_gap (address_text word) (58 ∷ []) ∙ (rw (address_plain word small) refl) in
    let all = place_words number (codes "state " ++ (address_text word ++ (codes ": " ++ rest))) fit.0
    ∙ ap (λ (ws : List (List ℕ)). codes "line" ∷ (decimal number ++ 58 ∷ []) ∷ ws) (first_word (codes "state") (address_text word ++ (codes ": " ++ rest)) refl refl
    ∙ ap (λ (t : List ℕ). codes "state" ∷ words t) (sym (append_assoc (address_text word) (58 ∷ []) (32 ∷ rest)))
    ∙ ap (λ (ws : List (List ℕ)). codes "state" ∷ ws) (first_word (address_text word ++ 58 ∷ []) rest refl colon)) in
    ap address_in (first_is names (ShownView number word state) (printable names (ShownView number word state) plain fit))
    ∙ ap address_at all
    ∙ ap (λ (w : List ℕ). unwrap_or (number_of w) 0) (without_colon (address_text word))
    ∙ ap (λ (n : Option ℕ). unwrap_or n 0) (address_value word small)

-- a line of a word that has an address
abbrev pub IsOfWord : NameTable → LineView → Type 0
IsOfWord names (RacedView race) = IsRaceOfWord names (RacedView race)
IsOfWord names (RefusedView number step refusal) = ⊥
IsOfWord names (ShownView number word state) = word < 2 ^ 46

race_is : (names : NameTable) (line : LineView) → IsRaceOfWord names line → IsOfWord names line
race_is names (RacedView race) is = is
race_is names (RefusedView number step refusal) is = is
race_is names (ShownView number word state) is = absurd is

pub line_address : (names : NameTable) (line : LineView) → HasPlainNames names → LineFits line → IsOfWord names line → address_of names line ≡ 4 * line_word line
line_address names (RacedView race) plain fit is = race_address names race plain fit is.0 is.1 is.2
line_address names (RefusedView number step refusal) plain fit is = absurd is
line_address names (ShownView number word state) plain fit is = shown_address names number word state plain fit is

four_times : (a b x y : ℕ) → a ≡ 4 * x → b ≡ 4 * y → nat_le a b ≡ nat_le x y
four_times a b x y first second = grind (arith, nat_tests, first, second)

pub races_follow : (names : NameTable) (lines : List LineView) → HasPlainNames names → All LineFits lines
    → RacesAloneShare names lines → AddressesFollow names lines
races_follow names lines plain fit races a b first second same =
    elim (races a b first second same) [
      | inl both ↦ four_times (address_of names a) (address_of names b) (line_word a) (line_word b)
          (line_address names a plain (All-contains LineFits lines a fit first) (race_is names a both.0))
          (line_address names b plain (All-contains LineFits lines b fit second) (race_is names b both.1))
      | inr is ↦ subst (λ (c : LineView). nat_le (address_of names a) (address_of names c) ≡ nat_le (line_word a) (line_word c)) is (grind (arith, nat_tests))
    ]
