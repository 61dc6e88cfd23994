-- The first fault in the table of an event line is the one that its reading tells.
use Rattle.std.proofs.Common.{◌≡◌, ℕ, suc, ◌+◌, ◌/◌, ◌^◌, ◌≤◌, ◌⊎◌, inl, inr, Bool, true, false, not, ◌&&◌, ◌||◌, cond, List, [], ◌∷◌, Option, Some, None, Result, Ok, Err, length, nat_lt, nat_le, unwrap_or, codes, refl, sym, ◌∙◌, arith}
use Rattle.std.specs.Option.{is_some}
use Rattle.std.specs.Str.{bytes_eq}
use Rattle.std.proofs.lemmas.Bool.Decides.{nat_tests}
use Rattle.er_event.specs.Span.{Span}
use Rattle.er_event.specs.declared.steps.Kind.{Kind}
use Rattle.er_event.specs.declared.steps.Kind.TheVariants as kind
use Rattle.er_event.specs.declared.steps.Mode.TheVariants as mode
use Rattle.er_lines.specs.declared.faults.TextKind.{TextKind}
use Rattle.er_lines.specs.declared.faults.TextKind.TheVariants.{BadName, MissingOperand, ExtraOperand, BadNumber, SizeTooLarge, AddressOutOfRange, LevelTooHigh}
use Rattle.er_text.specs.declared.verbs.Verb.{Verb}
use Rattle.er_text.specs.declared.verbs.Verb.TheVariants as verb
use Rattle.er_text.specs.declared.verbs.Version.{Version}
use Rattle.er_lines.specs.Lines.{has_bytes, word_at}
use Rattle.er_lines.specs.Number.{number_of}
use Rattle.er_lines.specs.Naming.{is_name, is_lock_name}
use Rattle.er_text.specs.Naming.{is_site_word}
use Rattle.er_text.specs.Verbs.{is_third, verb_of, least_of, most_of}
use Rattle.er_text.specs.Events.{Operation, Acquires, Releases, Accesses, Reuses, Shows, Levels, Starts, Joins, Signals, Awaits, EventLine, run_of}
use Rattle.er_lines.specs.Words.{and_then, map_ok, or_fault, number_in}
use Rattle.er_text.specs.Inner.Parsing.{name_in, lock_in, site_in, word_in, level_in, is_outside, run_in, access_in, reuse_in, operands_in, count_of, operation_in, parsed_of}
use Rattle.er_lines.specs.FirstFault.{first_kind}
use Rattle.er_text.specs.Trace.{site_kind, operand_kinds, verb_kinds, event_kinds}
use Rattle.er_lines.proofs.SpelledLemmas.{AreWhole}
use Rattle.er_text.proofs.SiteLemmas.{dash_named}
use Rattle.er_lines.proofs.SaidLemmas.{fault_of, fault_of-map, number_faults}

named : (b : Bool) (w : List ℕ) → cond (not b) (Some BadName) None ≡ fault_of (or_fault BadName (cond b (Some w) None))
named true w = refl
named false w = refl

lock_faults : (f : List ℕ → Operation) (w : List ℕ) → first_kind ((not (is_lock_name w), BadName) ∷ []) ≡ fault_of (map_ok f (lock_in w))
lock_faults f w = named (is_lock_name w) w ∙ sym (fault_of-map f (lock_in w))

name_faults : (f : List ℕ → Operation) (w : List ℕ) → first_kind ((not (is_name w), BadName) ∷ []) ≡ fault_of (map_ok f (name_in w))
name_faults f w = named (is_name w) w ∙ sym (fault_of-map f (name_in w))

word_faults : {X : Type 0} (b : Bool) (n : ℕ) (f : ℕ → X) → cond b (Some AddressOutOfRange) None ≡ fault_of (map_ok f (cond b (Err AddressOutOfRange) (Ok (n / 4))))
word_faults true n f = refl
word_faults false n f = refl

site_word : {X : Type 0} (b dash : Bool) (site : List ℕ) (rows : List (Bool × TextKind)) (f : Option (List ℕ) → Result X TextKind)
    → (dash ≡ true → b ≡ true) → ((s : Option (List ℕ)) → first_kind rows ≡ fault_of (f s))
    → first_kind ((not b, BadName) ∷ rows) ≡ fault_of (and_then (cond dash (Ok None) (map_ok Some (or_fault BadName (cond b (Some site) None)))) f)
site_word true true site rows f is more = more None
site_word true false site rows f is more = more (Some site)
site_word false true site rows f is more = absurd (let e = is refl in cc)
site_word false false site rows f is more = refl

-- what follows a site
site_faults : {X : Type 0} (v : Version) (site : List ℕ) (rows : List (Bool × TextKind)) (f : Option (List ℕ) → Result X TextKind)
    → ((s : Option (List ℕ)) → first_kind rows ≡ fault_of (f s))
    → first_kind ((has_bytes site && not (is_site_word v site), BadName) ∷ rows) ≡ fault_of (and_then (site_in v site) f)
site_faults v [] rows f more = more None
site_faults v (x ∷ xs) rows f more = site_word (is_site_word v (x ∷ xs)) (bytes_eq (x ∷ xs) (codes "-")) (x ∷ xs) rows f (dash_named v (x ∷ xs)) more

access_faults : (v : Version) (k : Kind) (a b : List ℕ)
    → first_kind ((not (is_some (number_of a)), BadNumber) ∷ (has_bytes b && not (is_site_word v b), BadName) ∷ (nat_le (2 ^ 48) (unwrap_or (number_of a) 0), AddressOutOfRange) ∷ [])
    ≡ fault_of (access_in v k a b)
access_faults v k a b =
    number_faults (number_of a) (λ n. (has_bytes b && not (is_site_word v b), BadName) ∷ (nat_le (2 ^ 48) n, AddressOutOfRange) ∷ [])
    (λ n. and_then (site_in v b) (λ s. map_ok (λ w. Accesses k w s) (word_in n)))
    (λ n. site_faults v b ((nat_le (2 ^ 48) n, AddressOutOfRange) ∷ []) (λ s. map_ok (λ w. Accesses k w s) (word_in n)) (λ s. word_faults (nat_le (2 ^ 48) n) n (λ w. Accesses k w s)))

run_faults : (large outside : Bool) (run : Option Span) (s : Option (List ℕ))
    → first_kind ((large, SizeTooLarge) ∷ (outside, AddressOutOfRange) ∷ [])
    ≡ fault_of (map_ok (λ r. Reuses r s) (cond large (Err SizeTooLarge) (cond outside (Err AddressOutOfRange) (Ok run))))
run_faults true outside run s = refl
run_faults false true run s = refl
run_faults false false run s = refl

reuse_faults : (v : Version) (a b x : List ℕ)
    → first_kind ((not (is_some (number_of a)), BadNumber) ∷ (not (is_some (number_of b)), BadNumber) ∷ site_kind v x ∷ (nat_lt 4194304 (unwrap_or (number_of b) 0), SizeTooLarge)
    ∷ (nat_le (2 ^ 48) (unwrap_or (number_of a) 0) || nat_lt (2 ^ 48) (unwrap_or (number_of a) 0 + unwrap_or (number_of b) 0), AddressOutOfRange) ∷ [])
    ≡ fault_of (reuse_in v a b x)
reuse_faults v a b x =
    number_faults (number_of a)
    (λ m. (not (is_some (number_of b)), BadNumber) ∷ site_kind v x ∷ (nat_lt 4194304 (unwrap_or (number_of b) 0), SizeTooLarge) ∷ (is_outside m (unwrap_or (number_of b) 0), AddressOutOfRange) ∷ [])
    (λ m. and_then (number_in b) (λ n. and_then (site_in v x) (λ s. map_ok (λ r. Reuses r s) (run_in m n))))
    (λ m. number_faults (number_of b) (λ n. site_kind v x ∷ (nat_lt 4194304 n, SizeTooLarge) ∷ (is_outside m n, AddressOutOfRange) ∷ [])
    (λ n. and_then (site_in v x) (λ s. map_ok (λ r. Reuses r s) (run_in m n)))
    (λ n. site_faults v x ((nat_lt 4194304 n, SizeTooLarge) ∷ (is_outside m n, AddressOutOfRange) ∷ []) (λ s. map_ok (λ r. Reuses r s) (run_in m n))
    (λ s. run_faults (nat_lt 4194304 n) (is_outside m n) (run_of m n) s)))

level_faults : (b : Bool) (n : ℕ) → cond b (Some LevelTooHigh) None ≡ fault_of (map_ok Levels (cond b (Err LevelTooHigh) (Ok n)))
level_faults true n = refl
level_faults false n = refl

operand_faults : (version : Version) (v : Verb) (ops : List (List ℕ)) → first_kind (operand_kinds version v ops) ≡ fault_of (operands_in version v (word_at 0 ops) (word_at 1 ops) (word_at 2 ops))
operand_faults version verb.Lock ops = lock_faults (λ l. Acquires l mode.Write) (word_at 0 ops)
operand_faults version verb.Unlock ops = lock_faults (λ l. Releases l mode.Write) (word_at 0 ops)
operand_faults version verb.ReadLock ops = lock_faults (λ l. Acquires l mode.Read) (word_at 0 ops)
operand_faults version verb.ReadUnlock ops = lock_faults (λ l. Releases l mode.Read) (word_at 0 ops)
operand_faults version verb.Read ops = access_faults version kind.Read (word_at 0 ops) (word_at 1 ops)
operand_faults version verb.Write ops = access_faults version kind.Write (word_at 0 ops) (word_at 1 ops)
operand_faults version verb.Reuse ops = reuse_faults version (word_at 0 ops) (word_at 1 ops) (word_at 2 ops)
operand_faults version verb.IgnoreOn ops = refl
operand_faults version verb.IgnoreOff ops = refl
operand_faults version verb.Show ops =
    number_faults (number_of (word_at 0 ops)) (λ n. (nat_le (2 ^ 48) n, AddressOutOfRange) ∷ []) (λ n. map_ok Shows (word_in n)) (λ n. word_faults (nat_le (2 ^ 48) n) n Shows)
operand_faults version verb.Level ops =
    number_faults (number_of (word_at 0 ops)) (λ n. (nat_lt 31 n, LevelTooHigh) ∷ []) (λ n. map_ok Levels (level_in n)) (λ n. level_faults (nat_lt 31 n) n)
operand_faults version verb.Start ops = name_faults Starts (word_at 0 ops)
operand_faults version verb.Join ops = name_faults Joins (word_at 0 ops)
operand_faults version verb.Signal ops = lock_faults Signals (word_at 0 ops)
operand_faults version verb.Await ops = lock_faults Awaits (word_at 0 ops)

abbrev pub count : List (List ℕ) → ℕ
count ops = count_of (word_at 0 ops) (word_at 1 ops) (word_at 2 ops) (word_at 3 ops)

-- operands are counted up to 4
pub count_is : (ops : List (List ℕ)) → AreWhole ops → (count ops ≡ length ops) ⊎ ((count ops ≡ 4) × (4 ≤ length ops))
count_is [] whole = inl refl
count_is ([] ∷ ops) whole = absurd (cc)
count_is ((x ∷ xs) ∷ []) whole = inl refl
count_is ((x ∷ xs) ∷ [] ∷ ops) whole = absurd (cc)
count_is ((x ∷ xs) ∷ (y ∷ ys) ∷ []) whole = inl refl
count_is ((x ∷ xs) ∷ (y ∷ ys) ∷ [] ∷ ops) whole = absurd (cc)
count_is ((x ∷ xs) ∷ (y ∷ ys) ∷ (z ∷ zs) ∷ []) whole = inl refl
count_is ((x ∷ xs) ∷ (y ∷ ys) ∷ (z ∷ zs) ∷ [] ∷ ops) whole = absurd (cc)
count_is ((x ∷ xs) ∷ (y ∷ ys) ∷ (z ∷ zs) ∷ (u ∷ us) ∷ ops) whole = inr (refl, omega arith)

least_small : (v : Verb) → least_of v ≤ 2
least_small verb.Lock = omega arith
least_small verb.Unlock = omega arith
least_small verb.ReadLock = omega arith
least_small verb.ReadUnlock = omega arith
least_small verb.Read = omega arith
least_small verb.Write = omega arith
least_small verb.Reuse = omega arith
least_small verb.IgnoreOn = omega arith
least_small verb.IgnoreOff = omega arith
least_small verb.Show = omega arith
least_small verb.Level = omega arith
least_small verb.Start = omega arith
least_small verb.Join = omega arith
least_small verb.Signal = omega arith
least_small verb.Await = omega arith

reuse_small : (third : Bool) → cond third 3 2 ≤ 3
reuse_small true = omega arith
reuse_small false = omega arith

most_small : (version : Version) (v : Verb) → most_of version v ≤ 3
most_small version verb.Lock = omega arith
most_small version verb.Unlock = omega arith
most_small version verb.ReadLock = omega arith
most_small version verb.ReadUnlock = omega arith
most_small version verb.Read = omega arith
most_small version verb.Write = omega arith
most_small version verb.Reuse = reuse_small (is_third version)
most_small version verb.IgnoreOn = omega arith
most_small version verb.IgnoreOff = omega arith
most_small version verb.Show = omega arith
most_small version verb.Level = omega arith
most_small version verb.Start = omega arith
most_small version verb.Join = omega arith
most_small version verb.Signal = omega arith
most_small version verb.Await = omega arith

abbrev Agree : ℕ → ℕ → ℕ → ℕ → Type 0
Agree n k least most = (nat_lt n least ≡ nat_lt k least) × (nat_lt most n ≡ nat_lt most k)

agree : (n k least most : ℕ) → least ≤ 2 → most ≤ 3 → (k ≡ n) ⊎ ((k ≡ 4) × (4 ≤ n)) → Agree n k least most
agree n k least most l m (inl same) = rw same (refl, refl)
agree n k least most l m (inr far) =
    let four = far.0 in
    let many = far.1 in
    let a : nat_lt n least ≡ false = grind (arith, nat_tests, l, many) in
    let b : nat_lt k least ≡ false = grind (arith, nat_tests, l, four) in
    let c : nat_lt most n ≡ true = grind (arith, nat_tests, m, many) in
    let d : nat_lt most k ≡ true = grind (arith, nat_tests, m, four) in
    (a ∙ sym b, c ∙ sym d)

count_chain : {X : Type 0} (few many : Bool) (rows : List (Bool × TextKind)) (r : Result X TextKind) → first_kind rows ≡ fault_of r
    → first_kind ((few, MissingOperand) ∷ (many, ExtraOperand) ∷ rows) ≡ fault_of (cond few (Err MissingOperand) (cond many (Err ExtraOperand) r))
count_chain true many rows r e = refl
count_chain false true rows r e = refl
count_chain false false rows r e = e

verb_faults : (version : Version) (v : Option Verb) (ops : List (List ℕ)) → AreWhole ops → first_kind (verb_kinds version v ops) ≡ fault_of (operation_in version v (word_at 0 ops) (word_at 1 ops) (word_at 2 ops) (word_at 3 ops))
verb_faults version None ops whole = refl
verb_faults version (Some v) ops whole =
    let same = agree (length ops) (count ops) (least_of v) (most_of version v) (least_small v) (most_small version v) (count_is ops whole) in
    rw (same.0, same.1)
    (count_chain (nat_lt (count ops) (least_of v)) (nat_lt (most_of version v) (count ops)) (operand_kinds version v ops) (operands_in version v (word_at 0 ops) (word_at 1 ops) (word_at 2 ops)) (operand_faults version v ops))

thread_chain : (b : Bool) (thread : List ℕ) (rows : List (Bool × TextKind)) (f : List ℕ → Result EventLine TextKind) → first_kind rows ≡ fault_of (f thread)
    → first_kind ((not b, BadName) ∷ rows) ≡ fault_of (and_then (or_fault BadName (cond b (Some thread) None)) f)
thread_chain true thread rows f more = more
thread_chain false thread rows f more = refl

-- the first fault of the table is the one that is told, and none is told where no row applies
pub event_faults : (version : Version) (ws : List (List ℕ)) → AreWhole ws → first_kind (event_kinds version ws) ≡ fault_of (parsed_of version ws)
event_faults version [] whole = refl
event_faults version (t ∷ []) whole = thread_chain (is_name t) t ((true, MissingOperand) ∷ verb_kinds version (verb_of version []) []) (λ w. Err MissingOperand) refl
event_faults version ([] ∷ v ∷ ops) whole = absurd (cc)
event_faults version ((x ∷ xs) ∷ [] ∷ ops) whole = absurd (cc)
event_faults version ((x ∷ xs) ∷ (y ∷ ys) ∷ ops) whole =
    let t = x ∷ xs in
    let v = y ∷ ys in
    let some : nat_lt (suc (suc (length ops))) 2 ≡ false = grind (arith, nat_tests) in
    let operation = operation_in version (verb_of version v) (word_at 0 ops) (word_at 1 ops) (word_at 2 ops) (word_at 3 ops) in
    let inner : first_kind ((nat_lt (suc (suc (length ops))) 2, MissingOperand) ∷ verb_kinds version (verb_of version v) ops)
    ≡ fault_of (map_ok (λ d. record { thread = t; operation = d }) operation) =
    rw some (verb_faults version (verb_of version v) ops whole ∙ sym (fault_of-map (λ d. record { thread = t; operation = d }) operation)) in
    thread_chain (is_name t) t ((nat_lt (suc (suc (length ops))) 2, MissingOperand) ∷ verb_kinds version (verb_of version v) ops) (λ w. map_ok (λ d. record { thread = w; operation = d }) operation) inner
