-- The words of a rule are read as the grammar says, with the first fault of their table.
use Rattle.std.proofs.Common.{◌≡◌, inl, inr, ℕ, suc, ◌+◌, ◌^◌, ◌<◌, ◌≤◌, Bool, true, false, not, ◌||◌, cond, List, [], ◌∷◌, Option, Some, None, Result, Ok, Err, length, nat_lt, nat_le, unwrap_or, codes, refl, subst, sym, ap, ◌∙◌, arith}
use Rattle.std.specs.Option.{is_some}
use Rattle.std.specs.Str.{bytes_eq}
use Rattle.std.proofs.lemmas.Bool.Decides.{nat_tests}
use Rattle.er_event.specs.Span.{Span}
use Rattle.er_rules.specs.Rules.{Target, AtWords, AtFact}
use Rattle.er_rules.specs.declared.rules.FactKind.{FactKind}
use Rattle.er_lines.specs.declared.faults.TextKind.{TextKind}
use Rattle.er_lines.specs.declared.faults.TextKind.TheVariants.{BadName, BadNumber, AddressOutOfRange}
use Rattle.er_lines.specs.Lines.{Placed, word_at, words}
use Rattle.er_lines.specs.Number.{number_of}
use Rattle.er_lines.specs.Naming.{is_site_name}
use Rattle.er_lines.specs.Words.{and_then, map_ok, number_in}
use Rattle.er_lines.specs.FirstFault.{first_kind}
use Rattle.er_rules.specs.Texts.{AllRule, AreRules, IsRule, is_header, kind_in, run_of, site_target, site_kinds, fact_kinds, run_kinds, rule_kinds}
use Rattle.er_rules.specs.Inner.RuleLines.{name_in, is_outside, fact_rule_in, site_rule_in, long_run_in, run_rule_in, rule_of}
use Rattle.er_lines.proofs.SpelledLemmas.{equal, AreWhole}
use Rattle.er_lines.proofs.SaidLemmas.{fault_of, fault_of-map, number_faults, mapped, bound, number_found, some_number}

site_named : (b : Bool) (w : List ℕ) → cond (not b) (Some BadName) None ≡ fault_of (cond {A = Result (List ℕ) TextKind} (not b) (Err BadName) (Ok w))
site_named true w = refl
site_named false w = refl

name_faults : (ops : List (List ℕ)) → AreWhole ops → first_kind (site_kinds ops) ≡ fault_of (name_in (word_at 0 ops) (word_at 1 ops))
name_faults [] whole = refl
name_faults ([] ∷ ops) whole = absurd (cc)
name_faults ((x ∷ xs) ∷ []) whole = let w = x ∷ xs in site_named (is_site_name w) w
name_faults ((x ∷ xs) ∷ [] ∷ ops) whole = absurd (cc)
name_faults ((x ∷ xs) ∷ (y ∷ ys) ∷ ops) whole =
    let few : nat_lt (suc (suc (length ops))) 1 ≡ false = grind (arith, nat_tests) in
    let many : nat_lt 1 (suc (suc (length ops))) ≡ true = grind (arith, nat_tests) in
    rw (few, many) refl

named_faults : (make : List ℕ → Target) (ops : List (List ℕ)) → AreWhole ops → first_kind (site_kinds ops) ≡ fault_of (map_ok make (name_in (word_at 0 ops) (word_at 1 ops)))
named_faults make ops whole = name_faults ops whole ∙ sym (fault_of-map make (name_in (word_at 0 ops) (word_at 1 ops)))

fact_faults : (kind : Option FactKind) (ops : List (List ℕ)) → AreWhole ops → first_kind (fact_kinds kind ops) ≡ fault_of (fact_rule_in kind (word_at 0 ops) (word_at 1 ops))
fact_faults None ops whole = refl
fact_faults (Some kind) ops whole = named_faults (AtFact kind) ops whole

outside_faults : (outside : Bool) (run : Option Span) → cond outside (Some AddressOutOfRange) None ≡ fault_of (map_ok AtWords (cond outside (Err AddressOutOfRange) (Ok run)))
outside_faults true run = refl
outside_faults false run = refl

numbers_faults : (a b : List ℕ)
    → first_kind ((not (is_some (number_of a)), BadNumber) ∷ (not (is_some (number_of b)), BadNumber)
    ∷ (is_outside (unwrap_or (number_of a) 0) (unwrap_or (number_of b) 0), AddressOutOfRange) ∷ [])
    ≡ fault_of (and_then (number_in a) (λ m. and_then (number_in b) (λ n. map_ok AtWords (long_run_in m n))))
numbers_faults a b =
    number_faults (number_of a) (λ m. (not (is_some (number_of b)), BadNumber) ∷ (is_outside m (unwrap_or (number_of b) 0), AddressOutOfRange) ∷ [])
    (λ m. and_then (number_in b) (λ n. map_ok AtWords (long_run_in m n)))
    (λ m. number_faults (number_of b) (λ n. (is_outside m n, AddressOutOfRange) ∷ []) (λ n. map_ok AtWords (long_run_in m n))
    (λ n. outside_faults (is_outside m n) (run_of m n)))

run_faults : (ops : List (List ℕ)) → AreWhole ops → first_kind (run_kinds ops) ≡ fault_of (run_rule_in (word_at 0 ops) (word_at 1 ops) (word_at 2 ops))
run_faults [] whole = refl
run_faults ([] ∷ ops) whole = absurd (cc)
run_faults ((x ∷ xs) ∷ []) whole = refl
run_faults ((x ∷ xs) ∷ [] ∷ ops) whole = absurd (cc)
run_faults ((x ∷ xs) ∷ (y ∷ ys) ∷ []) whole = numbers_faults (x ∷ xs) (y ∷ ys)
run_faults ((x ∷ xs) ∷ (y ∷ ys) ∷ [] ∷ ops) whole = absurd (cc)
run_faults ((x ∷ xs) ∷ (y ∷ ys) ∷ (z ∷ zs) ∷ ops) whole =
    let few : nat_lt (suc (suc (suc (length ops)))) 2 ≡ false = grind (arith, nat_tests) in
    let many : nat_lt 2 (suc (suc (suc (length ops)))) ≡ true = grind (arith, nat_tests) in
    rw (few, many) refl

sorted_faults : {X : Type 0} (site run : Bool) (r s t : Result X TextKind) (rows others more : List (Bool × TextKind))
    → first_kind rows ≡ fault_of r → first_kind others ≡ fault_of s → first_kind more ≡ fault_of t
    → first_kind (cond site rows (cond run others more)) ≡ fault_of (cond site r (cond run s t))
sorted_faults true run r s t rows others more is also last = is
sorted_faults false true r s t rows others more is also last = also
sorted_faults false false r s t rows others more is also last = last

-- the first fault of the table is the one that is told, and none is told where no row applies
pub rule_faults : (second : Bool) (ws : List (List ℕ)) → AreWhole ws → first_kind (rule_kinds second ws) ≡ fault_of (rule_of second ws)
rule_faults true [] whole = refl
rule_faults false [] whole = refl
rule_faults second ([] ∷ ops) whole = absurd (cc)
rule_faults second ((x ∷ xs) ∷ ops) whole =
    let w = x ∷ xs in
    sorted_faults (bytes_eq w (codes "site")) (bytes_eq w (codes "words")) (site_rule_in second (word_at 0 ops) (word_at 1 ops))
    (run_rule_in (word_at 0 ops) (word_at 1 ops) (word_at 2 ops)) (fact_rule_in (kind_in second w) (word_at 0 ops) (word_at 1 ops)) (site_kinds ops) (run_kinds ops) (fact_kinds (kind_in second w) ops)
    (named_faults (site_target second) ops whole) (run_faults ops whole) (fact_faults (kind_in second w) ops whole)

name_found : (b : Bool) (w found : List ℕ) → is_site_name w ≡ b → cond {A = Result (List ℕ) TextKind} (not b) (Err BadName) (Ok w) ≡ Ok found → (is_site_name w ≡ true) × (w ≡ found)
name_found true w found is e = (is, cc)
name_found false w found is e = absurd (cc)

-- what the operands of a rule say
name_says : (ops : List (List ℕ)) (name : List ℕ) → AreWhole ops → name_in (word_at 0 ops) (word_at 1 ops) ≡ Ok name → (ops ≡ name ∷ []) × (is_site_name name ≡ true)
name_says [] name whole e = absurd (cc)
name_says ([] ∷ ops) name whole e = absurd (cc)
name_says ((x ∷ xs) ∷ []) name whole e =
    let w = x ∷ xs in
    let found = name_found (is_site_name w) w name refl e in
    (ap (λ (v : List ℕ). v ∷ []) found.1, subst (λ (v : List ℕ). is_site_name v ≡ true) found.1 found.0)
name_says ((x ∷ xs) ∷ [] ∷ ops) name whole e = absurd (cc)
name_says ((x ∷ xs) ∷ (y ∷ ys) ∷ ops) name whole e = absurd (cc)

site_says : (second : Bool) (ops : List (List ℕ)) (t : Target) → AreWhole ops → site_rule_in second (word_at 0 ops) (word_at 1 ops) ≡ Ok t → IsRule second (codes "site" ∷ ops) t
site_says second ops t whole e =
    let found = mapped (site_target second) (name_in (word_at 0 ops) (word_at 1 ops)) t e in
    let is = name_says ops found.0 whole found.1 in
    inl (found.0, ap (λ (l : List (List ℕ)). codes "site" ∷ l) is.0, is.1, sym found.2)

fact_says : (second : Bool) (w : List ℕ) (ops : List (List ℕ)) (t : Target) (kind : Option FactKind) → AreWhole ops → kind_in second w ≡ kind → fact_rule_in kind (word_at 0 ops) (word_at 1 ops) ≡ Ok t
    → IsRule second (w ∷ ops) t
fact_says second w ops t None whole asks e = absurd (cc)
fact_says second w ops t (Some kind) whole asks e =
    let found = mapped (AtFact kind) (name_in (word_at 0 ops) (word_at 1 ops)) t e in
    let is = name_says ops found.0 whole found.1 in
    inr (inr (w, found.0, kind, ap (λ (l : List (List ℕ)). w ∷ l) is.0, asks, is.1, sym found.2))

abbrev IsLongRun : ℕ → ℕ → Option Span → Type 0
IsLongRun a n run = (a < 2 ^ 48) × (a + n ≤ 2 ^ 48) × (run ≡ run_of a n)

long_run_tested : (low high : Bool) (a n : ℕ) (run : Option Span) → nat_le (2 ^ 48) a ≡ low → nat_lt (2 ^ 48) (a + n) ≡ high
    → cond {A = Result (Option Span) TextKind} (low || high) (Err AddressOutOfRange) (Ok (run_of a n)) ≡ Ok run → IsLongRun a n run
long_run_tested true high a n run l h e = absurd (cc)
long_run_tested false true a n run l h e = absurd (cc)
long_run_tested false false a n run l h e = (grind (arith, nat_tests, l), grind (arith, nat_tests, h), cc)

run_says : (second : Bool) (ops : List (List ℕ)) (t : Target) → AreWhole ops → run_rule_in (word_at 0 ops) (word_at 1 ops) (word_at 2 ops) ≡ Ok t → IsRule second (codes "words" ∷ ops) t
run_says second [] t whole e = absurd (cc)
run_says second ([] ∷ ops) t whole e = absurd (cc)
run_says second ((x ∷ xs) ∷ []) t whole e = absurd (cc)
run_says second ((x ∷ xs) ∷ [] ∷ ops) t whole e = absurd (cc)
run_says second ((x ∷ xs) ∷ (y ∷ ys) ∷ []) t whole e =
    let a = x ∷ xs in
    let b = y ∷ ys in
    let m = bound (λ m. and_then (number_in b) (λ n. map_ok AtWords (long_run_in m n))) (number_in a) t e in
    let n = bound (λ n. map_ok AtWords (long_run_in m.0 n)) (number_in b) t m.2 in
    let f = mapped AtWords (long_run_in m.0 n.0) t n.2 in
    let run = long_run_tested (nat_le (2 ^ 48) m.0) (nat_lt (2 ^ 48) (m.0 + n.0)) m.0 n.0 f.0 refl refl f.1 in
    inr (inl (a, b, m.0, n.0, refl, number_found (number_of a) m.0 m.1, number_found (number_of b) n.0 n.1, run.0, run.1, sym f.2 ∙ ap (λ (r : Option Span). AtWords r) run.2))
run_says second ((x ∷ xs) ∷ (y ∷ ys) ∷ [] ∷ ops) t whole e = absurd (cc)
run_says second ((x ∷ xs) ∷ (y ∷ ys) ∷ (z ∷ zs) ∷ ops) t whole e = absurd (cc)

sorted_says : (second : Bool) (w : List ℕ) (ops : List (List ℕ)) (t : Target) (site run : Bool) → AreWhole ops → bytes_eq w (codes "site") ≡ site → bytes_eq w (codes "words") ≡ run
    → cond site (site_rule_in second (word_at 0 ops) (word_at 1 ops)) (cond run (run_rule_in (word_at 0 ops) (word_at 1 ops) (word_at 2 ops)) (fact_rule_in (kind_in second w) (word_at 0 ops) (word_at 1 ops))) ≡ Ok t
    → IsRule second (w ∷ ops) t
sorted_says second w ops t true run whole is also e = subst (λ (v : List ℕ). IsRule second (v ∷ ops) t) (sym (equal w (codes "site") is)) (site_says second ops t whole e)
sorted_says second w ops t false true whole is also e = subst (λ (v : List ℕ). IsRule second (v ∷ ops) t) (sym (equal w (codes "words") also)) (run_says second ops t whole e)
sorted_says second w ops t false false whole is also e = fact_says second w ops t (kind_in second w) whole refl e

-- the words that are read as a rule are those that the grammar allows for it
pub rule_says : (second : Bool) (ws : List (List ℕ)) (t : Target) → AreWhole ws → rule_of second ws ≡ Ok t → IsRule second ws t
rule_says true [] t whole e = absurd (cc)
rule_says false [] t whole e = absurd (cc)
rule_says second ([] ∷ ops) t whole e = absurd (cc)
rule_says second ((x ∷ xs) ∷ ops) t whole e =
    let w = x ∷ xs in sorted_says second w ops t (bytes_eq w (codes "site")) (bytes_eq w (codes "words")) whole refl refl e

long_run_again : (a n : ℕ) → a < 2 ^ 48 → a + n ≤ 2 ^ 48 → long_run_in a n ≡ Ok (run_of a n)
long_run_again a n low within =
    let x : nat_le (2 ^ 48) a ≡ false = grind (arith, nat_tests, low) in
    let y : nat_lt (2 ^ 48) (a + n) ≡ false = grind (arith, nat_tests, within) in
    rw (x, y) refl

name_again : (w : List ℕ) → is_site_name w ≡ true → name_in w [] ≡ Ok w
name_again [] site = absurd (cc)
name_again (x ∷ xs) site = ap (λ (b : Bool). cond {A = Result (List ℕ) TextKind} (not b) (Err BadName) (Ok (x ∷ xs))) site

site_rule_again : (second : Bool) (w : List ℕ) → is_site_name w ≡ true → rule_of second (codes "site" ∷ w ∷ []) ≡ Ok (site_target second w)
site_rule_again second w site = ap (map_ok (site_target second)) (name_again w site)

-- a word that asks something of a trace is no other
not_word : (second : Bool) (w word : List ℕ) (kind : FactKind) (b : Bool) → kind_in second word ≡ None → kind_in second w ≡ Some kind → bytes_eq w word ≡ b → b ≡ false
not_word second w word kind false none asks is = refl
not_word second w word kind true none asks is = absurd (let e = sym (subst (λ (v : List ℕ). kind_in second v ≡ Some kind) (equal w word is) asks) ∙ none in cc)

no_kind : (second : Bool) (word : List ℕ) → kind_in true word ≡ None → kind_in second word ≡ None
no_kind true word none = none
no_kind false word none = refl

fact_rule_again : (second : Bool) (w name : List ℕ) (kind : FactKind) → kind_in second w ≡ Some kind → is_site_name name ≡ true → rule_of second (w ∷ name ∷ []) ≡ Ok (AtFact kind name)
fact_rule_again second w name kind asks site =
    let no_site : bytes_eq w (codes "site") ≡ false = not_word second w (codes "site") kind (bytes_eq w (codes "site")) (no_kind second (codes "site") refl) asks refl in
    let no_run : bytes_eq w (codes "words") ≡ false = not_word second w (codes "words") kind (bytes_eq w (codes "words")) (no_kind second (codes "words") refl) asks refl in
    ap (λ (b : Bool). cond b (site_rule_in second name []) (cond (bytes_eq w (codes "words")) (run_rule_in name [] []) (fact_rule_in (kind_in second w) name []))) no_site
    ∙ (ap (λ (b : Bool). cond b (run_rule_in name [] []) (fact_rule_in (kind_in second w) name [])) no_run
    ∙ (ap (λ (k : Option FactKind). fact_rule_in k name []) asks ∙ ap (map_ok (AtFact kind)) (name_again name site)))

run_rule_again : (is_second : Bool) (a b : List ℕ) (m n : ℕ) → number_of a ≡ Some m → number_of b ≡ Some n → m < 2 ^ 48 → m + n ≤ 2 ^ 48
    → rule_of is_second (codes "words" ∷ a ∷ b ∷ []) ≡ Ok (AtWords (run_of m n))
run_rule_again is_second a b m n first second low within = rw (some_number b n second, first, second, long_run_again m n low within) refl

-- the words that the grammar allows for a rule are read as that rule
pub rule_again : (second : Bool) (ws : List (List ℕ)) (t : Target) → IsRule second ws t → rule_of second ws ≡ Ok t
rule_again second ws t (inl is) = ap (rule_of second) is.1 ∙ (site_rule_again second is.0 is.2 ∙ ap (λ (x : Target). Ok x) (sym is.3))
rule_again second ws t (inr (inr is)) = ap (rule_of second) is.3 ∙ (fact_rule_again second is.0 is.1 is.2 is.4 is.5 ∙ ap (λ (x : Target). Ok x) (sym is.6))
rule_again second ws t (inr (inl is)) = ap (rule_of second) is.4 ∙ (run_rule_again second is.0 is.1 is.2 is.3 is.5 is.6 is.7 is.8 ∙ ap (λ (x : Target). Ok x) (sym is.9))

-- rules of the first edition have no header in front
rule_no_header : (ws : List (List ℕ)) (t : Target) → IsRule false ws t → is_header ws ≡ false
rule_no_header ws t (inl is) = ap is_header is.1
rule_no_header ws t (inr (inl is)) = ap is_header is.4
rule_no_header ws t (inr (inr is)) = absurd (let e = is.4 in cc)

pub first_edition : (lines : List Placed) (targets : List Target) → AllRule false lines targets → AreRules lines targets
first_edition [] targets all = all
first_edition (p ∷ lines) [] all = absurd all
first_edition (p ∷ lines) (t ∷ targets) all = let none : is_header (words p.line.bytes) ≡ false = rule_no_header (words p.line.bytes) t all.0 in rw none all
