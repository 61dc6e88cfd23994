-- What is read of the words of an event line is what the grammar says of them.
use Rattle.std.proofs.Common.{◌≡◌, ℕ, ◌+◌, ◌/◌, ◌^◌, ◌<◌, ◌≤◌, Bool, true, false, ◌||◌, cond, List, [], ◌∷◌, Option, Some, None, Result, Ok, Err, nat_lt, nat_le, codes, refl, subst, sym, ap, ◌∙◌, arith}
use Rattle.std.specs.Str.{bytes_eq}
use Rattle.std.proofs.lemmas.Bool.Decides.{nat_tests}
use Rattle.er_event.specs.Span.{Span}
use Rattle.er_event.specs.declared.steps.Kind.{Kind}
use Rattle.er_event.specs.declared.steps.Kind.TheVariants as kind
use Rattle.er_event.specs.declared.steps.Mode.{Mode}
use Rattle.er_event.specs.declared.steps.Mode.TheVariants as mode
use Rattle.er_lines.specs.declared.faults.TextKind.{TextKind}
use Rattle.er_lines.specs.declared.faults.TextKind.TheVariants.{BadName, MissingOperand, ExtraOperand, SizeTooLarge, AddressOutOfRange, LevelTooHigh}
use Rattle.er_text.specs.declared.verbs.Verb.{Verb}
use Rattle.er_text.specs.declared.verbs.Verb.TheVariants as verb
use Rattle.er_text.specs.declared.verbs.Version.{Version}
use Rattle.er_lines.specs.Lines.{has_bytes, word_at}
use Rattle.er_lines.specs.Number.{number_of}
use Rattle.er_lines.specs.Naming.{is_name, is_lock_name}
use Rattle.er_text.specs.Naming.{is_site_word}
use Rattle.er_text.specs.Verbs.{is_third, verb_of}
use Rattle.er_text.specs.Events.{Operation, Acquires, Releases, Accesses, Reuses, IgnoresOn, IgnoresOff, Shows, Levels, Starts, Joins, Signals, Awaits, EventLine, run_of}
use Rattle.er_lines.specs.Words.{and_then, map_ok, or_fault, number_in}
use Rattle.er_text.specs.Inner.Parsing.{name_in, lock_in, site_in, word_in, level_in, run_in, access_in, reuse_in, operands_in, counted_in, operation_in, parsed_of}
use Rattle.er_text.specs.Trace.{acquire_word, release_word, kind_word, IsSite, IsReuseSite, IsOperation, Says}
use Rattle.er_lines.proofs.SpelledLemmas.{AreWhole}
use Rattle.er_text.proofs.SpellingLaws.{spelling, IsKnown, verb_spelled}
use Rattle.er_text.proofs.SiteLemmas.{dash_named}
use Rattle.er_text.proofs.FaultTables.{count}
use Rattle.er_lines.proofs.SaidLemmas.{mapped, bound, number_found}

tested : (b : Bool) (w t : List ℕ) → or_fault BadName (cond b (Some w) None) ≡ Ok t → (b ≡ true) × (w ≡ t)
tested true w t e = (refl, cc)
tested false w t e = absurd (cc)

name_found : (w t : List ℕ) → name_in w ≡ Ok t → (w ≡ t) × (is_name t ≡ true)
name_found w t e = let h = tested (is_name w) w t e in (h.1, ap is_name (sym h.1) ∙ h.0)

lock_found : (w t : List ℕ) → lock_in w ≡ Ok t → (w ≡ t) × (is_lock_name t ≡ true)
lock_found w t e = let h = tested (is_lock_name w) w t e in (h.1, ap is_lock_name (sym h.1) ∙ h.0)

word_tested : (b : Bool) (n w : ℕ) → nat_le (2 ^ 48) n ≡ b → cond b (Err AddressOutOfRange) (Ok (n / 4)) ≡ Ok w → (n < 2 ^ 48) × (w ≡ n / 4)
word_tested true n w is e = absurd (cc)
word_tested false n w is e = (grind (arith, nat_tests, is), cc)

word_found : (n w : ℕ) → word_in n ≡ Ok w → (n < 2 ^ 48) × (w ≡ n / 4)
word_found n w e = word_tested (nat_le (2 ^ 48) n) n w refl e

pub level_tested : (b : Bool) (n m : ℕ) → nat_lt 31 n ≡ b → cond b (Err LevelTooHigh) (Ok n) ≡ Ok m → (n ≡ m) × (m ≤ 31)
level_tested true n m is e = absurd (cc)
level_tested false n m is e = let same : n ≡ m = cc in let most : n ≤ 31 = grind (arith, nat_tests, is) in (same, omega (arith, same, most))

abbrev IsRun : ℕ → ℕ → Option Span → Type 0
IsRun a n run = (n ≤ 4194304) × (a < 2 ^ 48) × (a + n ≤ 2 ^ 48) × (run ≡ run_of a n)

run_tested : (large low high : Bool) (a n : ℕ) (run : Option Span) → nat_lt 4194304 n ≡ large → nat_le (2 ^ 48) a ≡ low → nat_lt (2 ^ 48) (a + n) ≡ high
    → cond {A = Result (Option Span) TextKind} large (Err SizeTooLarge) (cond (low || high) (Err AddressOutOfRange) (Ok (run_of a n))) ≡ Ok run → IsRun a n run
run_tested true low high a n run l w h e = absurd (cc)
run_tested false true high a n run l w h e = absurd (cc)
run_tested false false true a n run l w h e = absurd (cc)
run_tested false false false a n run l w h e = (grind (arith, nat_tests, l), grind (arith, nat_tests, w), grind (arith, nat_tests, h), cc)

pub run_found : (a n : ℕ) (run : Option Span) → run_in a n ≡ Ok run → IsRun a n run
run_found a n run e = run_tested (nat_lt 4194304 n) (nat_le (2 ^ 48) a) (nat_lt (2 ^ 48) (a + n)) a n run refl refl refl e

-- a word, or none where it is empty
abbrev pub some_word : List ℕ → List (List ℕ)
some_word [] = []
some_word (x ∷ xs) = (x ∷ xs) ∷ []

site_tested : (v : Version) (dash named : Bool) (w : List ℕ) (s : Option (List ℕ)) → bytes_eq w (codes "-") ≡ dash → is_site_word v w ≡ named
    → cond dash (Ok None) (map_ok Some (or_fault BadName (cond named (Some w) None))) ≡ Ok s → (named ≡ true) × (s ≡ cond dash None (Some w))
site_tested v true true w s d n e = (refl, cc)
site_tested v true false w s d n e = let e = sym n ∙ dash_named v w d in absurd (cc)
site_tested v false true w s d n e = (refl, cc)
site_tested v false false w s d n e = absurd (cc)

pub site_found : (v : Version) (w : List ℕ) (s : Option (List ℕ)) → site_in v w ≡ Ok s → IsSite v (some_word w) s
site_found v [] s e = cc
site_found v (x ∷ xs) s e = let w = x ∷ xs in site_tested v (bytes_eq w (codes "-")) (is_site_word v w) w s refl refl e

-- behind a size
site_behind : (version : Version) (w : List ℕ) (s : Option (List ℕ)) → (has_bytes w ≡ true → is_third version ≡ true) → site_in version w ≡ Ok s → IsReuseSite version (some_word w) s
site_behind version [] s third e = cc
site_behind version (x ∷ xs) s third e = (third refl, site_found version (x ∷ xs) s e)

no_operand : (ops : List (List ℕ)) → AreWhole ops → nat_lt 0 (count ops) ≡ false → ops ≡ []
no_operand [] whole e = refl
no_operand ([] ∷ ops) whole e = absurd (cc)
no_operand ((x ∷ xs) ∷ []) whole e = absurd (cc)
no_operand ((x ∷ xs) ∷ [] ∷ ops) whole e = absurd (cc)
no_operand ((x ∷ xs) ∷ (y ∷ ys) ∷ []) whole e = absurd (cc)
no_operand ((x ∷ xs) ∷ (y ∷ ys) ∷ [] ∷ ops) whole e = absurd (cc)
no_operand ((x ∷ xs) ∷ (y ∷ ys) ∷ (z ∷ zs) ∷ []) whole e = absurd (cc)
no_operand ((x ∷ xs) ∷ (y ∷ ys) ∷ (z ∷ zs) ∷ [] ∷ ops) whole e = absurd (cc)
no_operand ((x ∷ xs) ∷ (y ∷ ys) ∷ (z ∷ zs) ∷ (u ∷ us) ∷ ops) whole e = absurd (cc)

one_operand : (ops : List (List ℕ)) → AreWhole ops → nat_lt (count ops) 1 ≡ false → nat_lt 1 (count ops) ≡ false → ops ≡ word_at 0 ops ∷ []
one_operand [] whole l m = absurd (cc)
one_operand ([] ∷ ops) whole l m = absurd (cc)
one_operand ((x ∷ xs) ∷ []) whole l m = refl
one_operand ((x ∷ xs) ∷ [] ∷ ops) whole l m = absurd (cc)
one_operand ((x ∷ xs) ∷ (y ∷ ys) ∷ []) whole l m = absurd (cc)
one_operand ((x ∷ xs) ∷ (y ∷ ys) ∷ [] ∷ ops) whole l m = absurd (cc)
one_operand ((x ∷ xs) ∷ (y ∷ ys) ∷ (z ∷ zs) ∷ []) whole l m = absurd (cc)
one_operand ((x ∷ xs) ∷ (y ∷ ys) ∷ (z ∷ zs) ∷ [] ∷ ops) whole l m = absurd (cc)
one_operand ((x ∷ xs) ∷ (y ∷ ys) ∷ (z ∷ zs) ∷ (u ∷ us) ∷ ops) whole l m = absurd (cc)

-- the operands of a reuse, of which a text 3 alone has a third one
reuse_operands : (third : Bool) (ops : List (List ℕ)) → AreWhole ops → nat_lt (count ops) 2 ≡ false → nat_lt (cond third 3 2) (count ops) ≡ false
    → (ops ≡ word_at 0 ops ∷ word_at 1 ops ∷ some_word (word_at 2 ops)) × (has_bytes (word_at 2 ops) ≡ true → third ≡ true)
reuse_operands third [] whole l m = absurd (cc)
reuse_operands third ([] ∷ ops) whole l m = absurd (cc)
reuse_operands third ((x ∷ xs) ∷ []) whole l m = absurd (cc)
reuse_operands third ((x ∷ xs) ∷ [] ∷ ops) whole l m = absurd (cc)
reuse_operands third ((x ∷ xs) ∷ (y ∷ ys) ∷ []) whole l m = (refl, λ some. absurd (cc))
reuse_operands third ((x ∷ xs) ∷ (y ∷ ys) ∷ [] ∷ ops) whole l m = absurd (cc)
reuse_operands true ((x ∷ xs) ∷ (y ∷ ys) ∷ (z ∷ zs) ∷ []) whole l m = (refl, λ some. refl)
reuse_operands false ((x ∷ xs) ∷ (y ∷ ys) ∷ (z ∷ zs) ∷ []) whole l m = absurd (cc)
reuse_operands third ((x ∷ xs) ∷ (y ∷ ys) ∷ (z ∷ zs) ∷ [] ∷ ops) whole l m = absurd (cc)
reuse_operands true ((x ∷ xs) ∷ (y ∷ ys) ∷ (z ∷ zs) ∷ (u ∷ us) ∷ ops) whole l m = absurd (cc)
reuse_operands false ((x ∷ xs) ∷ (y ∷ ys) ∷ (z ∷ zs) ∷ (u ∷ us) ∷ ops) whole l m = absurd (cc)

one_or_two : (ops : List (List ℕ)) → AreWhole ops → nat_lt (count ops) 1 ≡ false → nat_lt 2 (count ops) ≡ false → ops ≡ word_at 0 ops ∷ some_word (word_at 1 ops)
one_or_two [] whole l m = absurd (cc)
one_or_two ([] ∷ ops) whole l m = absurd (cc)
one_or_two ((x ∷ xs) ∷ []) whole l m = refl
one_or_two ((x ∷ xs) ∷ [] ∷ ops) whole l m = absurd (cc)
one_or_two ((x ∷ xs) ∷ (y ∷ ys) ∷ []) whole l m = refl
one_or_two ((x ∷ xs) ∷ (y ∷ ys) ∷ [] ∷ ops) whole l m = absurd (cc)
one_or_two ((x ∷ xs) ∷ (y ∷ ys) ∷ (z ∷ zs) ∷ []) whole l m = absurd (cc)
one_or_two ((x ∷ xs) ∷ (y ∷ ys) ∷ (z ∷ zs) ∷ [] ∷ ops) whole l m = absurd (cc)
one_or_two ((x ∷ xs) ∷ (y ∷ ys) ∷ (z ∷ zs) ∷ (u ∷ us) ∷ ops) whole l m = absurd (cc)

counted : {X : Type 0} (few many : Bool) (r : Result X TextKind) (x : X) → cond few (Err MissingOperand) (cond many (Err ExtraOperand) r) ≡ Ok x
    → (few ≡ false) × (many ≡ false) × (r ≡ Ok x)
counted true many r x e = absurd (cc)
counted false true r x e = absurd (cc)
counted false false r x e = (refl, refl, e)

spelled : (t w s : List ℕ) (ops others : List (List ℕ)) → w ≡ s → ops ≡ others → t ∷ w ∷ ops ≡ t ∷ s ∷ others
spelled t w s ops others word same = ap (λ (x : List ℕ). t ∷ x ∷ ops) word ∙ ap (λ (o : List (List ℕ)). t ∷ s ∷ o) same

acquired : (version : Version) (t w a : List ℕ) (ops : List (List ℕ)) (m : Mode) (d : Operation) → w ≡ acquire_word m → ops ≡ a ∷ [] → map_ok (λ l. Acquires l m) (lock_in a) ≡ Ok d
    → IsOperation version (t ∷ w ∷ ops) t d
acquired version t w a ops m d word one e =
    let f = mapped (λ l. Acquires l m) (lock_in a) d e in
    let l = lock_found a f.0 f.1 in
    rw (← f.2) (spelled t w (acquire_word m) ops (f.0 ∷ []) word (one ∙ ap (λ (x : List ℕ). x ∷ []) l.0), l.1)

released : (version : Version) (t w a : List ℕ) (ops : List (List ℕ)) (m : Mode) (d : Operation) → w ≡ release_word m → ops ≡ a ∷ [] → map_ok (λ l. Releases l m) (lock_in a) ≡ Ok d
    → IsOperation version (t ∷ w ∷ ops) t d
released version t w a ops m d word one e =
    let f = mapped (λ l. Releases l m) (lock_in a) d e in
    let l = lock_found a f.0 f.1 in
    rw (← f.2) (spelled t w (release_word m) ops (f.0 ∷ []) word (one ∙ ap (λ (x : List ℕ). x ∷ []) l.0), l.1)

accessed : (version : Version) (t w a b : List ℕ) (ops : List (List ℕ)) (k : Kind) (d : Operation) → w ≡ kind_word k → ops ≡ a ∷ some_word b → access_in version k a b ≡ Ok d
    → IsOperation version (t ∷ w ∷ ops) t d
accessed version t w a b ops k d word one e =
    let n = bound (λ n. and_then (site_in version b) (λ s. map_ok (λ w. Accesses k w s) (word_in n))) (number_in a) d e in
    let s = bound (λ s. map_ok (λ w. Accesses k w s) (word_in n.0)) (site_in version b) d n.2 in
    let f = mapped (λ w. Accesses k w s.0) (word_in n.0) d s.2 in
    let at = word_found n.0 f.0 f.1 in
    rw (← f.2) (a, n.0, some_word b, spelled t w (kind_word k) ops (a ∷ some_word b) word one, number_found (number_of a) n.0 n.1, at.0, at.1, site_found version b s.0 s.1)

reused : (version : Version) (t w a b x : List ℕ) (ops : List (List ℕ)) (d : Operation) → w ≡ codes "reuse" → ops ≡ a ∷ b ∷ some_word x → (has_bytes x ≡ true → is_third version ≡ true)
    → reuse_in version a b x ≡ Ok d → IsOperation version (t ∷ w ∷ ops) t d
reused version t w a b x ops d word two third e =
    let m = bound (λ m. and_then (number_in b) (λ n. and_then (site_in version x) (λ s. map_ok (λ r. Reuses r s) (run_in m n)))) (number_in a) d e in
    let n = bound (λ n. and_then (site_in version x) (λ s. map_ok (λ r. Reuses r s) (run_in m.0 n))) (number_in b) d m.2 in
    let s = bound (λ s. map_ok (λ r. Reuses r s) (run_in m.0 n.0)) (site_in version x) d n.2 in
    let f = mapped (λ r. Reuses r s.0) (run_in m.0 n.0) d s.2 in
    let run = run_found m.0 n.0 f.0 f.1 in
    rw (← f.2) (
      a,
      b,
      m.0,
      n.0,
      some_word x,
      spelled t w (codes "reuse") ops (a ∷ b ∷ some_word x) word two,
      number_found (number_of a) m.0 m.1,
      number_found (number_of b) n.0 n.1,
      run.0,
      run.1,
      run.2,
      run.3,
      site_behind version x s.0 third s.1,
    )

showed : (version : Version) (t w a : List ℕ) (ops : List (List ℕ)) (d : Operation) → w ≡ codes "show" → ops ≡ a ∷ [] → and_then (number_in a) (λ n. map_ok Shows (word_in n)) ≡ Ok d
    → IsOperation version (t ∷ w ∷ ops) t d
showed version t w a ops d word one e =
    let n = bound (λ n. map_ok Shows (word_in n)) (number_in a) d e in
    let f = mapped Shows (word_in n.0) d n.2 in
    let at = word_found n.0 f.0 f.1 in
    rw (← f.2) (a, n.0, spelled t w (codes "show") ops (a ∷ []) word one, number_found (number_of a) n.0 n.1, at.0, at.1)

leveled : (version : Version) (t w a : List ℕ) (ops : List (List ℕ)) (d : Operation) → IsKnown version verb.Level → w ≡ codes "level" → ops ≡ a ∷ []
    → and_then (number_in a) (λ n. map_ok Levels (level_in n)) ≡ Ok d → IsOperation version (t ∷ w ∷ ops) t d
leveled version t w a ops d known word one e =
    let n = bound (λ n. map_ok Levels (level_in n)) (number_in a) d e in
    let f = mapped Levels (level_in n.0) d n.2 in
    let l = level_tested (nat_lt 31 n.0) n.0 f.0 refl f.1 in
    rw (← f.2) (a, spelled t w (codes "level") ops (a ∷ []) word one, number_found (number_of a) n.0 n.1 ∙ ap Some l.0, l.1, known)

-- a start or a join, and a signal or an await
abbrev NamesThread : (List ℕ → Operation) → Version → List ℕ → Verb → Type 0
NamesThread f version t v =
    (other : List ℕ) → is_name other ≡ true → IsKnown version v → IsOperation version (t ∷ spelling v ∷ other ∷ []) t (f other)

abbrev NamesObject : (List ℕ → Operation) → Version → List ℕ → Verb → Type 0
NamesObject f version t v =
    (object : List ℕ) → is_lock_name object ≡ true → IsKnown version v → IsOperation version (t ∷ spelling v ∷ object ∷ []) t (f object)

thread_named : (f : List ℕ → Operation) (version : Version) (t w a : List ℕ) (v : Verb) (ops : List (List ℕ)) (d : Operation) → NamesThread f version t v → IsKnown version v
    → w ≡ spelling v → ops ≡ a ∷ [] → map_ok f (name_in a) ≡ Ok d → IsOperation version (t ∷ w ∷ ops) t d
thread_named f version t w a v ops d says known word one e =
    let m = mapped f (name_in a) d e in
    let n = name_found a m.0 m.1 in
    let whole = spelled t w (spelling v) ops (m.0 ∷ []) word (one ∙ ap (λ (x : List ℕ). x ∷ []) n.0) in
    let told : IsOperation version (t ∷ w ∷ ops) t (f m.0) = subst (λ (ws : List (List ℕ)). IsOperation version ws t (f m.0)) (sym whole) (says m.0 n.1 known) in
    subst (IsOperation version (t ∷ w ∷ ops) t) m.2 told

object_named : (f : List ℕ → Operation) (version : Version) (t w a : List ℕ) (v : Verb) (ops : List (List ℕ)) (d : Operation) → NamesObject f version t v → IsKnown version v
    → w ≡ spelling v → ops ≡ a ∷ [] → map_ok f (lock_in a) ≡ Ok d → IsOperation version (t ∷ w ∷ ops) t d
object_named f version t w a v ops d says known word one e =
    let m = mapped f (lock_in a) d e in
    let n = lock_found a m.0 m.1 in
    let whole = spelled t w (spelling v) ops (m.0 ∷ []) word (one ∙ ap (λ (x : List ℕ). x ∷ []) n.0) in
    let told : IsOperation version (t ∷ w ∷ ops) t (f m.0) = subst (λ (ws : List (List ℕ)). IsOperation version ws t (f m.0)) (sym whole) (says m.0 n.1 known) in
    subst (IsOperation version (t ∷ w ∷ ops) t) m.2 told

operation_says : (version : Version) (t w : List ℕ) (v : Verb) (ops : List (List ℕ)) (d : Operation) → w ≡ spelling v → IsKnown version v → AreWhole ops
    → counted_in version v (count ops) (word_at 0 ops) (word_at 1 ops) (word_at 2 ops) ≡ Ok d → IsOperation version (t ∷ w ∷ ops) t d
operation_says version t w verb.Lock ops d word known whole e =
    let c = counted (nat_lt (count ops) 1) (nat_lt 1 (count ops)) (operands_in version verb.Lock (word_at 0 ops) (word_at 1 ops) (word_at 2 ops)) d e in
    acquired version t w (word_at 0 ops) ops mode.Write d word (one_operand ops whole c.0 c.1) c.2
operation_says version t w verb.Unlock ops d word known whole e =
    let c = counted (nat_lt (count ops) 1) (nat_lt 1 (count ops)) (operands_in version verb.Unlock (word_at 0 ops) (word_at 1 ops) (word_at 2 ops)) d e in
    released version t w (word_at 0 ops) ops mode.Write d word (one_operand ops whole c.0 c.1) c.2
operation_says version t w verb.ReadLock ops d word known whole e =
    let c = counted (nat_lt (count ops) 1) (nat_lt 1 (count ops)) (operands_in version verb.ReadLock (word_at 0 ops) (word_at 1 ops) (word_at 2 ops)) d e in
    acquired version t w (word_at 0 ops) ops mode.Read d word (one_operand ops whole c.0 c.1) c.2
operation_says version t w verb.ReadUnlock ops d word known whole e =
    let c = counted (nat_lt (count ops) 1) (nat_lt 1 (count ops)) (operands_in version verb.ReadUnlock (word_at 0 ops) (word_at 1 ops) (word_at 2 ops)) d e in
    released version t w (word_at 0 ops) ops mode.Read d word (one_operand ops whole c.0 c.1) c.2
operation_says version t w verb.Read ops d word known whole e =
    let c = counted (nat_lt (count ops) 1) (nat_lt 2 (count ops)) (operands_in version verb.Read (word_at 0 ops) (word_at 1 ops) (word_at 2 ops)) d e in
    accessed version t w (word_at 0 ops) (word_at 1 ops) ops kind.Read d word (one_or_two ops whole c.0 c.1) c.2
operation_says version t w verb.Write ops d word known whole e =
    let c = counted (nat_lt (count ops) 1) (nat_lt 2 (count ops)) (operands_in version verb.Write (word_at 0 ops) (word_at 1 ops) (word_at 2 ops)) d e in
    accessed version t w (word_at 0 ops) (word_at 1 ops) ops kind.Write d word (one_or_two ops whole c.0 c.1) c.2
operation_says version t w verb.Reuse ops d word known whole e =
    let c = counted (nat_lt (count ops) 2) (nat_lt (cond (is_third version) 3 2) (count ops)) (operands_in version verb.Reuse (word_at 0 ops) (word_at 1 ops) (word_at 2 ops)) d e in
    let behind = reuse_operands (is_third version) ops whole c.0 c.1 in
    reused version t w (word_at 0 ops) (word_at 1 ops) (word_at 2 ops) ops d word behind.0 behind.1 c.2
operation_says version t w verb.IgnoreOn ops d word known whole e =
    let c = counted (nat_lt (count ops) 0) (nat_lt 0 (count ops)) (operands_in version verb.IgnoreOn (word_at 0 ops) (word_at 1 ops) (word_at 2 ops)) d e in
    let same : IgnoresOn ≡ d = let r = c.2 in cc in
    rw (← same) (spelled t w (codes "ignore-on") ops [] word (no_operand ops whole c.1))
operation_says version t w verb.IgnoreOff ops d word known whole e =
    let c = counted (nat_lt (count ops) 0) (nat_lt 0 (count ops)) (operands_in version verb.IgnoreOff (word_at 0 ops) (word_at 1 ops) (word_at 2 ops)) d e in
    let same : IgnoresOff ≡ d = let r = c.2 in cc in
    rw (← same) (spelled t w (codes "ignore-off") ops [] word (no_operand ops whole c.1))
operation_says version t w verb.Show ops d word known whole e =
    let c = counted (nat_lt (count ops) 1) (nat_lt 1 (count ops)) (operands_in version verb.Show (word_at 0 ops) (word_at 1 ops) (word_at 2 ops)) d e in
    showed version t w (word_at 0 ops) ops d word (one_operand ops whole c.0 c.1) c.2
operation_says version t w verb.Level ops d word known whole e =
    let c = counted (nat_lt (count ops) 1) (nat_lt 1 (count ops)) (operands_in version verb.Level (word_at 0 ops) (word_at 1 ops) (word_at 2 ops)) d e in
    leveled version t w (word_at 0 ops) ops d known word (one_operand ops whole c.0 c.1) c.2
operation_says version t w verb.Start ops d word known whole e =
    let c = counted (nat_lt (count ops) 1) (nat_lt 1 (count ops)) (operands_in version verb.Start (word_at 0 ops) (word_at 1 ops) (word_at 2 ops)) d e in
    thread_named Starts version t w (word_at 0 ops) verb.Start ops d (λ other name third. (refl, name, third)) known word (one_operand ops whole c.0 c.1) c.2
operation_says version t w verb.Join ops d word known whole e =
    let c = counted (nat_lt (count ops) 1) (nat_lt 1 (count ops)) (operands_in version verb.Join (word_at 0 ops) (word_at 1 ops) (word_at 2 ops)) d e in
    thread_named Joins version t w (word_at 0 ops) verb.Join ops d (λ other name third. (refl, name, third)) known word (one_operand ops whole c.0 c.1) c.2
operation_says version t w verb.Signal ops d word known whole e =
    let c = counted (nat_lt (count ops) 1) (nat_lt 1 (count ops)) (operands_in version verb.Signal (word_at 0 ops) (word_at 1 ops) (word_at 2 ops)) d e in
    object_named Signals version t w (word_at 0 ops) verb.Signal ops d (λ object name third. (refl, name, third)) known word (one_operand ops whole c.0 c.1) c.2
operation_says version t w verb.Await ops d word known whole e =
    let c = counted (nat_lt (count ops) 1) (nat_lt 1 (count ops)) (operands_in version verb.Await (word_at 0 ops) (word_at 1 ops) (word_at 2 ops)) d e in
    object_named Awaits version t w (word_at 0 ops) verb.Await ops d (λ object name third. (refl, name, third)) known word (one_operand ops whole c.0 c.1) c.2

verb_says : (version : Version) (t w : List ℕ) (v : Option Verb) (ops : List (List ℕ)) (d : Operation) → verb_of version w ≡ v → AreWhole ops
    → operation_in version v (word_at 0 ops) (word_at 1 ops) (word_at 2 ops) (word_at 3 ops) ≡ Ok d → IsOperation version (t ∷ w ∷ ops) t d
verb_says version t w None ops d is whole e = absurd (cc)
verb_says version t w (Some v) ops d is whole e =
    let s = verb_spelled version w v is in
    operation_says version t w v ops d s.0 s.1 whole e

-- what is read of an event line is what the grammar says
pub parsed_says : (version : Version) (ws : List (List ℕ)) (s : EventLine) → AreWhole ws → parsed_of version ws ≡ Ok s → Says version ws s
parsed_says version [] s whole e = absurd (cc)
parsed_says version ([] ∷ ws) s whole e = absurd (cc)
parsed_says version ((x ∷ xs) ∷ []) s whole e = let n = bound (λ t. Err MissingOperand) (name_in (x ∷ xs)) s e in absurd (let h = n.2 in cc)
parsed_says version ((x ∷ xs) ∷ [] ∷ ops) s whole e = absurd (cc)
parsed_says version ((x ∷ xs) ∷ (y ∷ ys) ∷ ops) s whole e =
    let operation = operation_in version (verb_of version (y ∷ ys)) (word_at 0 ops) (word_at 1 ops) (word_at 2 ops) (word_at 3 ops) in
    let n = bound (λ t. map_ok (λ d. record { thread = t; operation = d }) operation) (name_in (x ∷ xs)) s e in
    let t = name_found (x ∷ xs) n.0 n.1 in
    let m = mapped (λ d. record { thread = n.0; operation = d }) operation s n.2 in
    let says : Says version ((x ∷ xs) ∷ (y ∷ ys) ∷ ops) (record { thread = x ∷ xs; operation = m.0 }) =
    (ap is_name t.0 ∙ t.1, verb_says version (x ∷ xs) (y ∷ ys) (verb_of version (y ∷ ys)) ops m.0 refl whole m.1) in
    subst (Says version ((x ∷ xs) ∷ (y ∷ ys) ∷ ops)) (ap (λ (w : List ℕ). record { thread = w; operation = m.0 }) t.0 ∙ m.2) says
