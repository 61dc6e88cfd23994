-- The lines that are written of known races are read as their rules: one line is a comment or a rule, and the lines of a text are read one by one.
use Rattle.std.proofs.Common.{◌≡◌, inl, inr, ◌<◌, ◌≤◌, ◌+◌, ◌-◌, ◌*◌, ◌/◌, ◌%◌, ◌^◌, ◌∙◌, ◌&&◌, ◌==◌, ℕ, zero, suc, Bool, true, false, cond, not, nat_lt, nat_le, List, [], ◌∷◌, ◌++◌, length, map, flat_map, filter, get_or, Option, Some, None, All, codes, decimal, append_assoc, refl, sym, ap, subst, arith}
use Rattle.std.specs.Char.{digit_char, digit_value, is_digit}
use Rattle.std.specs.List.{AllByRecursion, list_all}
use Rattle.std.specs.Str.Parse.{digits_value, AllDigits}
use Rattle.std.proofs.Math.Nat.{pow-suc}
use Rattle.std.proofs.lemmas.Bool.{and_parts}
use Rattle.std.proofs.lemmas.Bool.Decides.{nat_tests}
use Rattle.std.proofs.lemmas.Fmt.{decimal_by_steps, decimal_is_IsNumeral, length-decimal-le}
use Rattle.std.proofs.lemmas.Int.Digits.{digits_value_push}
use Rattle.std.proofs.lemmas.List.{length-append}
use Rattle.std.proofs.lemmas.List.Elements.{All-cons}
use Rattle.std.proofs.lemmas.List.Folds.{list_all-append}
use Rattle.std.proofs.lemmas.List.Splits.{slice_split_at, slice_split_none}
use Rattle.std.proofs.lemmas.Option.{get_or_from_slice_get, slice_get_within}
use Rattle.std.proofs.lemmas.List.Sums.{AllPass-from_list_all, list_all-from_AllPass}
use Rattle.er_event.specs.Span.{Span}
use Rattle.er_event.specs.declared.steps.Kind.{Kind}
use Rattle.er_event.specs.declared.steps.Kind.TheVariants.{Read, Write}
use Rattle.er_print.specs.Printed.{address_text, bytes_between, kind_text, name_at}
use Rattle.er_report.specs.Report.{site_name}
use Rattle.er_rules.specs.Rules.{Target, AtSite, AtSites, AtWords, AtFact}
use Rattle.er_text.specs.Events.{run_of}
use Rattle.er_lines.specs.FirstFault.{IsPlain}
use Rattle.er_lines.specs.Lines.{Line, Placed, placed_from, lines_of, is_end, is_gap, is_ascii, is_comment, has_bytes, has_content, onto_line, says_something, word_at, words, width}
use Rattle.er_lines.specs.Naming.{is_name, is_name_byte, is_site_name, is_site_byte}
use Rattle.er_lines.specs.Number.{hex_digits, number_of, value_in}
use Rattle.er_rules.proofs.RuleLaws.{first_edition}
use Rattle.er_rules.specs.Texts.{AllRule, IsRule, IsRules}
use Rattle.er_trace.specs.Names.{NameTable}
use Rattle.er_sites.specs.System.{is_system_name}
use Rattle.er_triage.specs.Known.{known_target, race_target, target_at}
use Rattle.er_triage.specs.Sound.{NamesSite, AreSound, IsInMemory, IsSound}
use Rattle.er_triage.specs.Texts.{comment_text, count_text, hidden_text, known_races_text, known_text, raced_text, target_text}
use Rattle.er_triage.specs.declared.known.KnownRace.{KnownRace}
use Rattle.er_report.specs.declared.report.Deed.{Deed}
use Rattle.er_report.specs.declared.report.Deed.TheVariants.{Access, Reuse}

-- a byte from a space to `~`
abbrev is_printed : ℕ → Bool
is_printed byte = nat_le 32 byte && nat_le byte 126

-- at most so many of them
record IsPiece (most : ℕ) (bytes : List ℕ) : Type 0 where
  few : length bytes ≤ most
  printed : list_all is_printed bytes ≡ true

both : (m n : ℕ) (a b : List ℕ) → IsPiece m a → IsPiece n b → IsPiece (m + n) (a ++ b)
both m n a b first second =
    let one : length a ≤ m = first.few in
    let two : length b ≤ n = second.few in
    record {
      few = omega (arith, length-append a b);
      printed = list_all-append is_printed a b ∙ ap (λ (t : Bool). t && list_all is_printed b) first.printed ∙ second.printed;
    }

-- the test of bytes that pass another
weaker : (p q : ℕ → Bool) (bytes : List ℕ) → ((b : ℕ) → p b ≡ true → q b ≡ true) → list_all p bytes ≡ true → list_all q bytes ≡ true
weaker p q bytes less all = list_all-from_AllPass q bytes (λ i d h. less (get_or bytes i d) (AllPass-from_list_all p bytes all i d h))

digit_printed : (b : ℕ) → is_digit b 16 ≡ true → is_printed b ≡ true
digit_printed b e = grind (arith, nat_tests, e)

name_printed : (b : ℕ) → is_name_byte b ≡ true → is_printed b ≡ true
name_printed b e = grind (arith, nat_tests, e)

site_printed : (b : ℕ) → is_site_byte b ≡ true → is_printed b ≡ true
site_printed b e = grind (arith, nat_tests, e)

printed_ascii : (b : ℕ) → is_printed b ≡ true → is_ascii b ≡ true
printed_ascii b e = grind (arith, nat_tests, e)

printed_inside : (b : ℕ) → is_printed b ≡ true → is_end b ≡ false
printed_inside b e = grind (arith, nat_tests, e)

-- numbers
one_digit : (n : ℕ) → n < 10 → list_all is_printed ((48 + n) ∷ []) ≡ true
one_digit n small = let e : is_printed (48 + n) ≡ true = grind (arith, nat_tests) in rw e refl

digits_more : (n : ℕ) (ds : List ℕ) → list_all is_printed ds ≡ true → list_all is_printed (ds ++ (48 + n % 10) ∷ []) ≡ true
digits_more n ds all =
    let last : list_all is_printed ((48 + n % 10) ∷ []) ≡ true = one_digit (n % 10) (omega arith) in
    list_all-append is_printed ds ((48 + n % 10) ∷ []) ∙ ap (λ (t : Bool). t && list_all is_printed ((48 + n % 10) ∷ [])) all ∙ last

number_piece : (n : ℕ) → n < 2 ^ 64 → IsPiece 20 (decimal n)
number_piece n small = record {
  few = length-decimal-le 20 n (omega arith) (omega arith) small;
  printed = decimal_by_steps (λ k ds. list_all is_printed ds ≡ true) one_digit (λ k ds large all. digits_more k ds all) n small;
}

digit_again : (d : ℕ) → d < 16 → digit_value (digit_char d) ≡ d
digit_again d small = grind (arith, nat_tests)

record IsHex (count n : ℕ) : Type 0 where
  size : length (hex_digits count n) ≡ count
  digits : list_all (λ d. is_digit d 16) (hex_digits count n) ≡ true
  value : digits_value 16 (hex_digits count n) ≡ n

hex_is : (count n : ℕ) → n < 16 ^ count → IsHex count n
unfolding hex_digits
hex_is zero n small = record { size = refl; digits = refl; value = omega arith }
hex_is (suc k) n small =
    let whole : 16 ^ suc k ≡ 16 ^ k * 16 = pow-suc 16 k in
    let front : IsHex k (n / 16) = hex_is k (n / 16) (omega (arith, small, whole)) in
    let last : digit_value (digit_char (n % 16)) ≡ n % 16 = digit_again (n % 16) (omega arith) in
    let test : is_digit (digit_char (n % 16)) 16 ≡ true = let low : digit_value (digit_char (n % 16)) < 16 = omega (arith, last) in grind (arith, nat_tests, low) in
    record {
      size = omega (arith, front.size, length-append (hex_digits k (n / 16)) (digit_char (n % 16) ∷ []));
      digits = list_all-append (λ d. is_digit d 16) (hex_digits k (n / 16)) (digit_char (n % 16) ∷ []) ∙ ap (λ (t : Bool). t && list_all (λ d. is_digit d 16) (digit_char (n % 16) ∷ [])) front.digits ∙ (rw test refl);
      value = digits_value_push 16 (hex_digits k (n / 16)) (digit_char (n % 16)) ∙ omega (arith, front.value, last);
    }

some_bytes : (bytes : List ℕ) (n : ℕ) → length bytes ≡ suc n → has_bytes bytes ≡ true
some_bytes [] n size = absurd (omega arith)
some_bytes (x ∷ xs) n size = refl

any_bytes : (bytes : List ℕ) → 0 < length bytes → has_bytes bytes ≡ true
any_bytes [] size = absurd (omega arith)
any_bytes (x ∷ xs) size = refl

address_hex : (word : ℕ) → word < 2 ^ 46 → IsHex 12 (4 * word)
address_hex word small = hex_is 12 (4 * word) (let most : 16 ^ 12 ≡ 2 ^ 48 = refl in omega (arith, small, most))

address_number : (word : ℕ) → word < 2 ^ 46 → number_of (address_text word) ≡ Some (4 * word)
address_number word small =
    let hex : IsHex 12 (4 * word) = address_hex word small in
    let some : has_bytes (hex_digits 12 (4 * word)) ≡ true = some_bytes (hex_digits 12 (4 * word)) 11 hex.size in
    let low : nat_lt (digits_value 16 (hex_digits 12 (4 * word))) (2 ^ 64) ≡ true = let v : digits_value 16 (hex_digits 12 (4 * word)) < 2 ^ 64 = omega (arith, hex.value, small) in grind (arith, nat_tests, v) in
    rw (some, hex.digits, low) (ap Some hex.value)

address_piece : (word : ℕ) → word < 2 ^ 46 → IsPiece 14 (address_text word)
address_piece word small =
    let hex : IsHex 12 (4 * word) = address_hex word small in
    let digits : list_all is_printed (hex_digits 12 (4 * word)) ≡ true = weaker (λ d. is_digit d 16) is_printed (hex_digits 12 (4 * word)) digit_printed hex.digits in
    record { few = omega (arith, hex.size); printed = digits }

-- one line
no_end : (bytes rest : List ℕ) → list_all is_printed bytes ≡ true → lines_of (bytes ++ 10 ∷ rest) ≡ record { bytes = bytes; ended = true } ∷ lines_of rest
no_end [] rest all = refl
no_end (x ∷ xs) rest all =
    let parts = and_parts (is_printed x) (list_all is_printed xs) all in
    let inside : is_end x ≡ false = printed_inside x parts.0 in
    rw inside (ap (onto_line x) (no_end xs rest parts.1))

-- lines that are read as these rules, wherever they stand
abbrev AreRead : List Line → List Target → Type 0
AreRead lines targets = (n s : ℕ) → AllByRecursion IsPlain (placed_from n s lines) × AllRule false (filter has_content (placed_from n s lines)) targets

abbrev ended_line : List ℕ → Line
ended_line bytes = record { bytes = bytes; ended = true }

never : (b : Bool) → (b && false) ≡ false
never true = refl
never false = refl

-- a comment is no rule
comment_read : (bytes : List ℕ) (lines : List Line) (targets : List Target) → IsPiece 1024 bytes → is_comment bytes ≡ true → AreRead lines targets → AreRead (ended_line bytes ∷ lines) targets
comment_read bytes lines targets piece comment rest n s =
    let more : AllByRecursion IsPlain (placed_from (n + 1) (s + width (ended_line bytes)) lines) × AllRule false (filter has_content (placed_from (n + 1) (s + width (ended_line bytes)) lines)) targets =
    rest (n + 1) (s + width (ended_line bytes)) in
    let p : Placed = record { number = n; start = s; line = ended_line bytes } in
    let ps : List Placed = placed_from (n + 1) (s + width (ended_line bytes)) lines in
    let silent : says_something bytes ≡ false = ap (λ (c : Bool). has_bytes (word_at 0 (words bytes)) && not c) comment ∙ never (has_bytes (word_at 0 (words bytes))) in (
      ((piece.few, weaker is_printed is_ascii bytes printed_ascii piece.printed), more.0),
      subst (λ (b : Bool). AllRule false (cond b (p ∷ filter has_content ps) (filter has_content ps)) targets) (sym silent) more.1,
    )

-- and the line of a rule is that rule
rule_read : (bytes : List ℕ) (target : Target) (lines : List Line) (targets : List Target) → IsPiece 1024 bytes → says_something bytes ≡ true → IsRule false (words bytes) target
    → AreRead lines targets → AreRead (ended_line bytes ∷ lines) (target ∷ targets)
rule_read bytes target lines targets piece speaks says rest n s =
    let more : AllByRecursion IsPlain (placed_from (n + 1) (s + width (ended_line bytes)) lines) × AllRule false (filter has_content (placed_from (n + 1) (s + width (ended_line bytes)) lines)) targets =
    rest (n + 1) (s + width (ended_line bytes)) in
    let p : Placed = record { number = n; start = s; line = ended_line bytes } in
    let ps : List Placed = placed_from (n + 1) (s + width (ended_line bytes)) lines in (
      ((piece.few, weaker is_printed is_ascii bytes printed_ascii piece.printed), more.0),
      subst (λ (b : Bool). AllRule false (cond b (p ∷ filter has_content ps) (filter has_content ps)) (target ∷ targets)) (sym speaks) (says, more.1),
    )

-- the same of texts
comment_in : (bytes rest : List ℕ) (targets : List Target) → IsPiece 1024 bytes → is_comment bytes ≡ true → AreRead (lines_of rest) targets → AreRead (lines_of (bytes ++ 10 ∷ rest)) targets
comment_in bytes rest targets piece comment more =
    subst (λ (lines : List Line). AreRead lines targets) (sym (no_end bytes rest piece.printed)) (comment_read bytes (lines_of rest) targets piece comment more)

rule_in : (bytes rest : List ℕ) (target : Target) (targets : List Target) → IsPiece 1024 bytes → says_something bytes ≡ true → IsRule false (words bytes) target
    → AreRead (lines_of rest) targets → AreRead (lines_of (bytes ++ 10 ∷ rest)) (target ∷ targets)
rule_in bytes rest target targets piece speaks says more =
    subst (λ (lines : List Line). AreRead lines (target ∷ targets)) (sym (no_end bytes rest piece.printed)) (rule_read bytes target (lines_of rest) targets piece speaks says more)

-- the rule of a site
record SiteParts (name : List ℕ) : Type 0 where
  some : has_bytes name ≡ true
  few : length name ≤ 128
  printed : list_all is_site_byte name ≡ true

site_parts : (name : List ℕ) → is_site_name name ≡ true → SiteParts name
site_parts name is =
    let p = and_parts (has_bytes name && nat_le (length name) 128) (list_all is_site_byte name) is in
    let q = and_parts (has_bytes name) (nat_le (length name) 128) p.0 in
    record { some = q.0; few = let short : nat_le (length name) 128 ≡ true = q.1 in grind (arith, nat_tests, short); printed = p.1 }

site_gap : (b : ℕ) → is_site_byte b ≡ true → is_gap b ≡ false
site_gap b e = grind (arith, nat_tests, e)

site_words : (name : List ℕ) → SiteParts name → words (codes "site " ++ name) ≡ codes "site" ∷ name ∷ []
site_words name parts =
    let some : has_bytes name ≡ true = parts.some in
    let gapless : All (λ b. is_gap b ≡ false) name = λ i d h. site_gap (get_or name i d) (AllPass-from_list_all is_site_byte name parts.printed i d h) in
    ap (λ (ws : List (List ℕ)). codes "site" ∷ filter has_bytes ws) (slice_split_none is_gap name gapless) ∙ (rw some refl)

site_piece : (name : List ℕ) → SiteParts name → IsPiece 128 name
site_piece name parts = record { few = parts.few; printed = weaker is_site_byte is_printed name site_printed parts.printed }

site_target : (name : List ℕ) → NamesSite name → IsRule false (words (codes "site " ++ name)) (AtSite (Some name))
site_target name is = inl (name, site_words name (site_parts name is.0), is.0, sym (ap (λ (b : Bool). cond b (AtSite None) (AtSite (Some name))) is.1))

abbrev words_from : ℕ → ℕ → Option Span
words_from first last = Some (record { first = first; last = last })

-- the rule of words
abbrev size_of : Span → ℕ
size_of run = 4 * (run.last + 1 - run.first)

run_bytes : (run : Span) → target_text (AtWords (Some run)) ≡ codes "words " ++ (address_text run.first ++ 32 ∷ decimal (size_of run))
run_bytes run = simp append_assoc

address_gap : (b : ℕ) → is_digit b 16 ≡ true → is_gap b ≡ false
address_gap b e = grind (arith, nat_tests, e)

size_gap : (b : ℕ) → is_digit b 10 ≡ true → is_gap b ≡ false
size_gap b e = grind (arith, nat_tests, e)

-- the size has digits alone, and is read as it is
record IsSize (n : ℕ) (bytes : List ℕ) : Type 0 where
  some : has_bytes bytes ≡ true
  gapless : All (λ b. is_gap b ≡ false) bytes
  value : number_of bytes ≡ Some n

not_x : (b : ℕ) → is_digit b 10 ≡ true → (b == 120) ≡ false
not_x b e = grind (arith, nat_tests, e)

in_decimal : (bytes : List ℕ) → list_all (λ d. is_digit d 10) bytes ≡ true → has_bytes bytes ≡ true → number_of bytes ≡ value_in 10 bytes
in_decimal [] all some = refl
in_decimal (a ∷ []) all some = refl
in_decimal (a ∷ b ∷ bytes) all some =
    let rest = and_parts (is_digit a 10) (list_all (λ d. is_digit d 10) (b ∷ bytes)) all in
    let second = and_parts (is_digit b 10) (list_all (λ d. is_digit d 10) bytes) rest.1 in
    ap (λ (x : Bool). cond ((a == 48) && x) (value_in 16 bytes) (value_in 10 (a ∷ b ∷ bytes))) (not_x b second.0)
    ∙ ap (λ (x : Bool). cond x (value_in 16 bytes) (value_in 10 (a ∷ b ∷ bytes))) (never (a == 48))

one_digit_more : (d : ℕ) → digit_value d < 10 → is_digit d 10 ≡ true
one_digit_more d low = grind (arith, nat_tests, low)

all_digits : (ds : List ℕ) → AllDigits 10 ds → list_all (λ d. is_digit d 10) ds ≡ true
all_digits [] all = refl
all_digits (d ∷ ds) all = rw (one_digit_more d all.0) (all_digits ds all.1)

decimal_size : (n : ℕ) → n < 2 ^ 64 → IsSize n (decimal n)
decimal_size n small =
    let is = decimal_is_IsNumeral n small in
    let all : list_all (λ d. is_digit d 10) (decimal n) ≡ true = all_digits (decimal n) is.0.1 in
    let some : has_bytes (decimal n) ≡ true = any_bytes (decimal n) is.0.0 in
    let low : nat_lt (digits_value 10 (decimal n)) (2 ^ 64) ≡ true = let v : digits_value 10 (decimal n) < 2 ^ 64 = omega (arith, is.1, small) in grind (arith, nat_tests, v) in
    record {
      some = some;
      gapless = λ i d h. size_gap (get_or (decimal n) i d) (AllPass-from_list_all (λ d. is_digit d 10) (decimal n) all i d h);
      value = in_decimal (decimal n) all some ∙ rw (some, all, low) (ap Some is.1);
    }

run_words : (run : Span) → run.first < 2 ^ 46 → size_of run < 2 ^ 64
    → words (codes "words " ++ (address_text run.first ++ 32 ∷ decimal (size_of run))) ≡ codes "words" ∷ address_text run.first ∷ decimal (size_of run) ∷ []
run_words run small few =
    let hex : IsHex 12 (4 * run.first) = address_hex run.first small in
    let all : All (λ d. is_digit d 16 ≡ true) (hex_digits 12 (4 * run.first)) = AllPass-from_list_all (λ d. is_digit d 16) (hex_digits 12 (4 * run.first)) hex.digits in
    let digits : All (λ b. is_gap b ≡ false) (hex_digits 12 (4 * run.first)) = λ i d h. address_gap (get_or (hex_digits 12 (4 * run.first)) i d) (all i d h) in
    let gapless : All (λ b. is_gap b ≡ false) (address_text run.first) = All-cons (λ b. is_gap b ≡ false) 48 (120 ∷ hex_digits 12 (4 * run.first)) refl (All-cons (λ b. is_gap b ≡ false) 120 (hex_digits 12 (4 * run.first)) refl digits) in
    let size : IsSize (size_of run) (decimal (size_of run)) = decimal_size (size_of run) few in
    let some : has_bytes (decimal (size_of run)) ≡ true = size.some in
    ap (λ (ws : List (List ℕ)). codes "words" ∷ filter has_bytes ws)
    (slice_split_at is_gap (address_text run.first) 32 (decimal (size_of run)) gapless refl ∙ ap (λ (ws : List (List ℕ)). address_text run.first ∷ ws) (slice_split_none is_gap (decimal (size_of run)) size.gapless))
    ∙ (rw some refl)

-- words of memory, of which there are some
record IsRun (run : Span) : Type 0 where
  ordered : run.first ≤ run.last
  memory : run.last < 2 ^ 46

run_again : (run : Span) → run.first ≤ run.last → Some run ≡ run_of (4 * run.first) (size_of run)
run_again run ordered =
    let low : run.first ≡ 4 * run.first / 4 = omega arith in
    let high : run.last ≡ (4 * run.first + size_of run - 1) / 4 = omega arith in
    let some : (size_of run == 0) ≡ false = let more : 0 < size_of run = omega arith in grind (arith, nat_tests, more) in
    ap (λ (first : ℕ). words_from first run.last) low ∙ ap (λ (last : ℕ). words_from (4 * run.first / 4) last) high
    ∙ sym (ap (λ (none : Bool). cond none None (words_from (4 * run.first / 4) ((4 * run.first + size_of run - 1) / 4))) some)

run_target : (run : Span) → IsRun run → IsRule false (words (codes "words " ++ (address_text run.first ++ 32 ∷ decimal (size_of run)))) (AtWords (Some run))
run_target run is =
    let ordered : run.first ≤ run.last = is.ordered in
    let memory : run.last < 2 ^ 46 = is.memory in
    let few : size_of run < 2 ^ 64 = omega (arith, memory) in
    inr (inl (address_text run.first, decimal (size_of run), 4 * run.first, size_of run, run_words run (omega arith) few, address_number run.first (omega arith), (decimal_size (size_of run) few).value, omega arith, omega arith, ap (λ (r : Option Span). AtWords r) (run_again run ordered)))

-- the rule of a race: its site has a name that names a site, or its words are words of memory
abbrev IsSoundTarget : Target → Type 0
IsSoundTarget (AtSite None) = ⊥
IsSoundTarget (AtSite (Some name)) = NamesSite name
IsSoundTarget (AtSites pattern) = ⊥
IsSoundTarget (AtFact kind pattern) = ⊥
IsSoundTarget (AtWords None) = ⊥
IsSoundTarget (AtWords (Some run)) = IsRun run

literal : (bytes : List ℕ) (n : ℕ) → nat_le (length bytes) n ≡ true → list_all is_printed bytes ≡ true → IsPiece n bytes
literal bytes n few printed = record { few = grind (arith, nat_tests, few); printed = printed }

wider : (m n : ℕ) (bytes : List ℕ) → m ≤ n → IsPiece m bytes → IsPiece n bytes
wider m n bytes less piece = let few : length bytes ≤ m = piece.few in record { few = omega arith; printed = piece.printed }

target_read : (target : Target) (rest : List ℕ) (targets : List Target) → IsSoundTarget target → AreRead (lines_of rest) targets → AreRead (lines_of (target_text target ++ 10 ∷ rest)) (target ∷ targets)
target_read (AtSite None) rest targets sound more = absurd sound
target_read (AtSites pattern) rest targets sound more = absurd sound
target_read (AtFact kind pattern) rest targets sound more = absurd sound
target_read (AtWords None) rest targets sound more = absurd sound
target_read (AtWords (Some run)) rest targets sound more =
    let ordered : run.first ≤ run.last = sound.ordered in
    let memory : run.last < 2 ^ 46 = sound.memory in
    let small : run.first < 2 ^ 46 = omega arith in
    let few : size_of run < 2 ^ 64 = omega arith in
    let bytes : List ℕ = codes "words " ++ (address_text run.first ++ 32 ∷ decimal (size_of run)) in
    let behind : IsPiece 21 (32 ∷ decimal (size_of run)) = both 1 20 (codes " ") (decimal (size_of run)) (literal (codes " ") 1 refl refl) (number_piece (size_of run) few) in
    let piece : IsPiece 41 bytes = both 6 35 (codes "words ") (address_text run.first ++ 32 ∷ decimal (size_of run)) (literal (codes "words ") 6 refl refl) (both 14 21 (address_text run.first) (32 ∷ decimal (size_of run)) (address_piece run.first small) behind) in
    let speaks : says_something bytes ≡ true = ap (λ (ws : List (List ℕ)). has_bytes (word_at 0 ws) && true) (run_words run small few) in
    subst (λ (b : List ℕ). AreRead (lines_of (b ++ 10 ∷ rest)) (AtWords (Some run) ∷ targets)) (sym (run_bytes run))
    (rule_in bytes rest (AtWords (Some run)) targets (wider 41 1024 bytes (omega arith) piece) speaks (run_target run sound) more)
target_read (AtSite (Some name)) rest targets sound more =
    let bytes : List ℕ = codes "site " ++ name in
    let parts : SiteParts name = site_parts name sound.0 in
    let piece : IsPiece 133 bytes = both 5 128 (codes "site ") name (literal (codes "site ") 5 refl refl) (site_piece name parts) in
    let speaks : says_something bytes ≡ true = ap (λ (ws : List (List ℕ)). has_bytes (word_at 0 ws) && true) (site_words name parts) in
    rule_in bytes rest (AtSite (Some name)) targets (wider 133 1024 bytes (omega arith) piece) speaks (site_target name sound) more

hidden_in : (name rest : List ℕ) (targets : List Target) → NamesSite name → AreRead (lines_of rest) targets → AreRead (lines_of (comment_text name ++ rest)) targets
unfolding comment_text
hidden_in name rest targets sound more =
    let end : List ℕ = codes " is a line of a system header: this rule hides the races of every part of the program that uses it" in
    let bytes : List ℕ = codes "# " ++ name ++ end in
    let piece : IsPiece 330 bytes = both 130 200 (codes "# " ++ name) end (both 2 128 (codes "# ") name (literal (codes "# ") 2 refl refl) (site_piece name (site_parts name sound.0))) (literal end 200 refl refl) in
    let split : comment_text name ++ rest ≡ bytes ++ 10 ∷ rest = append_assoc (codes "# " ++ name) (end ++ 10 ∷ []) rest ∙ sym (append_assoc (codes "# " ++ name) end (10 ∷ rest)) in
    subst (λ (text : List ℕ). AreRead (lines_of text) targets) (sym split) (comment_in bytes rest targets (wider 330 1024 bytes (omega arith) piece) refl more)

hidden_read : (target : Target) (rest : List ℕ) (targets : List Target) → IsSoundTarget target → AreRead (lines_of rest) targets → AreRead (lines_of (hidden_text target ++ rest)) targets
hidden_read (AtSite None) rest targets sound more = more
hidden_read (AtSites pattern) rest targets sound more = more
hidden_read (AtFact kind pattern) rest targets sound more = more
hidden_read (AtWords words) rest targets sound more = more
hidden_read (AtSite (Some name)) rest targets sound more = by (is_system_name name)
  where
    by : (b : Bool) → AreRead (lines_of (cond b (comment_text name) [] ++ rest)) targets
    by false = more
    by true = hidden_in name rest targets sound more

-- what a rule takes
name_piece : (names : NameTable) (thread : ℕ) → AreSound names → thread < length names.threads → IsPiece 128 (name_at names.threads thread)
name_piece names thread sound within =
    let name : List ℕ = name_at names.threads thread in
    let is : is_name name ≡ true = sound.threads thread [] within in
    let p = and_parts (has_bytes name && nat_le (length name) 128) (list_all is_name_byte name) is in
    let q = and_parts (has_bytes name) (nat_le (length name) 128) p.0 in
    record { few = let short : nat_le (length name) 128 ≡ true = q.1 in grind (arith, nat_tests, short); printed = weaker is_name_byte is_printed name name_printed p.1 }

kind_piece : (kind : Kind) → IsPiece 5 (kind_text kind)
kind_piece Read = literal (codes "read") 5 refl refl
kind_piece Write = literal (codes "write") 5 refl refl

raced_piece : (names : NameTable) (thread : ℕ) (what : Deed) → AreSound names → thread < length names.threads → IsInMemory what → IsPiece 170 (raced_text names thread what)
raced_piece names thread (Access kind word) sound named memory =
    let name : List ℕ = name_at names.threads thread in
    let space : IsPiece 1 (codes " ") = literal (codes " ") 1 refl refl in
    wider 149 170 (name ++ codes " " ++ kind_text kind ++ codes " " ++ address_text word) (omega arith)
    (both 135 14 (name ++ codes " " ++ kind_text kind ++ codes " ") (address_text word)
    (both 134 1 (name ++ codes " " ++ kind_text kind) (codes " ") (both 129 5 (name ++ codes " ") (kind_text kind)
    (both 128 1 name (codes " ") (name_piece names thread sound named) space) (kind_piece kind)) space) (address_piece word memory))
raced_piece names thread (Reuse range) sound named memory =
    let name : List ℕ = name_at names.threads thread in
    let ordered : range.lo ≤ range.hi = range.ordered in
    let most : range.hi < 2 ^ 46 = memory in
    let low : range.lo < 2 ^ 46 = omega arith in
    let few : bytes_between range.lo range.hi < 2 ^ 64 = omega arith in
    both 150 20 (name ++ codes " reuse " ++ address_text range.lo ++ codes " ") (decimal (bytes_between range.lo range.hi))
    (both 149 1 (name ++ codes " reuse " ++ address_text range.lo) (codes " ") (both 135 14 (name ++ codes " reuse ") (address_text range.lo)
    (both 128 7 name (codes " reuse ") (name_piece names thread sound named) (literal (codes " reuse ") 7 refl refl)) (address_piece range.lo low)) (literal (codes " ") 1 refl refl))
    (number_piece (bytes_between range.lo range.hi) few)

count_piece : (names : NameTable) (race : KnownRace) → IsSound names race → IsPiece 62 (count_text race)
count_piece names race is =
    both 42 20 (codes "# races " ++ decimal race.races ++ codes ", first: line ") (decimal race.line)
    (both 28 14 (codes "# races " ++ decimal race.races) (codes ", first: line ")
    (both 8 20 (codes "# races ") (decimal race.races) (literal (codes "# races ") 8 refl refl) (number_piece race.races is.races))
    (literal (codes ", first: line ") 14 refl refl)) (number_piece race.line is.line)

taken_piece : (names : NameTable) (race : KnownRace) → AreSound names → IsSound names race → IsPiece 234 (count_text race ++ codes ", " ++ raced_text names race.thread race.deed)
taken_piece names race sound is =
    both 64 170 (count_text race ++ codes ", ") (raced_text names race.thread race.deed)
    (both 62 2 (count_text race) (codes ", ") (count_piece names race is) (literal (codes ", ") 2 refl refl)) (raced_piece names race.thread race.deed sound is.named.0 is.memory)

-- the site of a race is the missing one, or has a name that names a site
sound_at : (site : Option (List ℕ)) (lo hi : ℕ) → lo ≤ hi → hi < 2 ^ 46 → ((name : List ℕ) → site ≡ Some name → NamesSite name) → IsSoundTarget (target_at site lo hi)
sound_at None lo hi ordered memory sound = record { ordered = ordered; memory = memory }
sound_at (Some name) lo hi ordered memory sound = sound name refl

site_sound : (names : NameTable) (n : ℕ) → AreSound names → (name : List ℕ) → site_name names n ≡ Some name → NamesSite name
site_sound names zero sound name e = absurd (cc)
site_sound names (suc k) sound name e = subst NamesSite (get_or_from_slice_get names.sites k name name e) (sound.sites k name (slice_get_within names.sites k name e))

raced_sound : (names : NameTable) (what : Deed) (site : ℕ) → AreSound names → IsInMemory what → IsSoundTarget (race_target names what site)
raced_sound names (Access kind word) site sound memory = sound_at (site_name names site) word word (omega arith) memory (site_sound names site sound)
raced_sound names (Reuse range) site sound memory = sound_at (site_name names site) range.lo range.hi range.ordered memory (site_sound names site sound)

split_known : (taken hidden target rest : List ℕ) → (taken ++ 10 ∷ [] ++ hidden ++ target ++ 10 ∷ []) ++ rest ≡ taken ++ 10 ∷ (hidden ++ (target ++ 10 ∷ rest))
split_known taken hidden target rest = simp append_assoc

race_read : (names : NameTable) (race : KnownRace) (rest : List ℕ) (targets : List Target) → AreSound names → IsSound names race → AreRead (lines_of rest) targets
    → AreRead (lines_of (known_text names race ++ rest)) (known_target names race ∷ targets)
race_read names race rest targets sound is more =
    let taken : List ℕ = count_text race ++ codes ", " ++ raced_text names race.thread race.deed in
    let target : Target = known_target names race in
    let known : IsSoundTarget target = raced_sound names race.deed race.site sound is.memory in
    subst (λ (text : List ℕ). AreRead (lines_of text) (target ∷ targets)) (sym (split_known taken (hidden_text target) (target_text target) rest))
    (comment_in taken (hidden_text target ++ (target_text target ++ 10 ∷ rest)) (target ∷ targets) (wider 234 1024 taken (omega arith) (taken_piece names race sound is)) refl
    (hidden_read target (target_text target ++ 10 ∷ rest) (target ∷ targets) known (target_read target rest targets known more)))

all_read : (names : NameTable) (known : List KnownRace) → AreSound names → All (IsSound names) known → AreRead (lines_of (flat_map (known_text names) known)) (map (known_target names) known)
all_read names [] sound all = λ n s. (tt, tt)
all_read names (race ∷ known) sound all =
    race_read names race (flat_map (known_text names) known) (map (known_target names) known) sound (all 0 race (omega arith))
    (all_read names known sound (λ k d h. all (suc k) d (omega arith)))

pub read_back : (names : NameTable) (known : List KnownRace) (limit : ℕ) → AreSound names → All (IsSound names) known → length (known_races_text names known) ≤ limit
    → IsRules (known_races_text names known) limit (map (known_target names) known)
read_back names known limit sound all short =
    let first : List ℕ = codes "# Known races, written by eraser replay --write-rules" in
    let read : AreRead (lines_of (first ++ 10 ∷ flat_map (known_text names) known)) (map (known_target names) known) =
    comment_in first (flat_map (known_text names) known) (map (known_target names) known) (literal first 1024 refl refl) refl (all_read names known sound all) in
    let placed_all : AllByRecursion IsPlain (placed_from 1 0 (lines_of (known_races_text names known))) × AllRule false (filter has_content (placed_from 1 0 (lines_of (known_races_text names known)))) (map (known_target names) known) =
    read 1 0 in
    record { short = short; plain = placed_all.0; rules = first_edition (filter has_content (placed_from 1 0 (lines_of (known_races_text names known)))) (map (known_target names) known) placed_all.1 }
