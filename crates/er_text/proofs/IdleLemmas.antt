-- The threads that are idle, and those that act in a line before.
use Rattle.std.proofs.Common.{◌≡◌, ℕ, zero, suc, ◌-◌, ◌<◌, ◌≤◌, Bool, true, false, not, ◌&&◌, ◌||◌, cond, List, [], ◌∷◌, ◌++◌, length, take, replicate, slice_get, slice_index_or, slice_set, Option, Some, None, refl, sym, ap, ◌∙◌, arith, true≢false}
use Rattle.std.specs.Str.{bytes_eq}
use Rattle.std.proofs.lemmas.Slice.Eq.{bytes_eq-Decides}
use Rattle.std.proofs.lemmas.List.Folds.{list_any-append}
use Rattle.er_trace.specs.Names.{is_known, number_of, with_name}
use Rattle.er_trace.specs.Trace.{Recording}
use Rattle.er_trace.proofs.NumberLemmas.{alone, kept, still, again, given}
use Rattle.er_event.specs.declared.steps.Step.{Step}
use Rattle.er_lines.specs.declared.faults.TextKind.{TextKind}
use Rattle.er_text.specs.Events.{EventLine, Operation, Acquires, Releases, Accesses, Reuses, IgnoresOn, IgnoresOff, Shows, Levels, Starts, Joins, Signals, Awaits, with_line}
use Rattle.er_text.specs.Inner.Idle.{is_idle, without_idle, with_idle, last_actor, has_run, other_thread, operation_fault, waits_for, is_known_name, idle_past}

pub idle_at : (bs : List Bool) (n : ℕ) (d : Bool) → n < length bs → slice_index_or bs n d ≡ is_idle bs n
idle_at [] n d within = absurd (omega (arith, within))
idle_at (b ∷ bs) zero d within = refl
idle_at (b ∷ bs) (suc n) d within = idle_at bs n d (omega (arith, within))

pub idle_no : (bs : List Bool) (n : ℕ) → length bs ≤ n → is_idle bs n ≡ false
idle_no [] n past = refl
idle_no (b ∷ bs) zero past = absurd (omega (arith, past))
idle_no (b ∷ bs) (suc n) past = idle_no bs n (omega (arith, past))

pub set_idle : (bs : List Bool) (n : ℕ) → slice_set bs n false ≡ without_idle bs n
set_idle [] n = refl
set_idle (b ∷ bs) zero = refl
set_idle (b ∷ bs) (suc n) = ap (λ (x : List Bool). b ∷ x) (set_idle bs n)

pub same_idle : (bs : List Bool) (n : ℕ) → length bs ≤ n → without_idle bs n ≡ bs
same_idle [] n past = refl
same_idle (b ∷ bs) zero past = absurd (omega (arith, past))
same_idle (b ∷ bs) (suc n) past = ap (λ (x : List Bool). b ∷ x) (same_idle bs n (omega (arith, past)))

pub set_more : (bs : List Bool) (n : ℕ) → n < length bs → slice_set bs n true ≡ with_idle bs n
set_more [] n within = absurd (omega (arith, within))
set_more (b ∷ bs) zero within = refl
set_more (b ∷ bs) (suc n) within = ap (λ (x : List Bool). b ∷ x) (set_more bs n (omega (arith, within)))

without_itself : (bs : List Bool) (n : ℕ) → is_idle (without_idle bs n) n ≡ false
without_itself [] n = refl
without_itself (b ∷ bs) zero = refl
without_itself (b ∷ bs) (suc n) = without_itself bs n

without_others : (bs : List Bool) (m n : ℕ) → (m ≡ n → ⊥) → is_idle (without_idle bs m) n ≡ is_idle bs n
without_others [] m n other = refl
without_others (b ∷ bs) zero zero other = absurd (other refl)
without_others (b ∷ bs) zero (suc n) other = refl
without_others (b ∷ bs) (suc m) zero other = refl
without_others (b ∷ bs) (suc m) (suc n) other = without_others bs m n (λ e. other (ap suc e))

with_itself : (bs : List Bool) (n : ℕ) → is_idle (with_idle bs n) n ≡ true
with_itself [] zero = refl
with_itself [] (suc n) = with_itself [] n
with_itself (b ∷ bs) zero = refl
with_itself (b ∷ bs) (suc n) = with_itself bs n

with_others : (bs : List Bool) (m n : ℕ) → (m ≡ n → ⊥) → is_idle (with_idle bs m) n ≡ is_idle bs n
with_others [] zero zero other = absurd (other refl)
with_others [] zero (suc n) other = refl
with_others [] (suc m) zero other = refl
with_others [] (suc m) (suc n) other = with_others [] m n (λ e. other (ap suc e))
with_others (b ∷ bs) zero zero other = absurd (other refl)
with_others (b ∷ bs) zero (suc n) other = refl
with_others (b ∷ bs) (suc m) zero other = refl
with_others (b ∷ bs) (suc m) (suc n) other = with_others bs m n (λ e. other (ap suc e))

or_none : (b : Bool) → (b || false) ≡ b
or_none true = refl
or_none false = refl

itself : (a : List ℕ) → bytes_eq a a ≡ true
itself a = (bytes_eq-Decides a a).1 refl

-- another name is known as it was
known_at : (names : List (List ℕ)) (a b : List ℕ) (known : Bool) → bytes_eq a b ≡ false → is_known (cond known names (names ++ b ∷ [])) a ≡ is_known names a
known_at names a b true other = refl
known_at names a b false other = list_any-append (bytes_eq a) names (b ∷ []) ∙ (rw other (or_none (is_known names a)))

known_other : (names : List (List ℕ)) (a b : List ℕ) → bytes_eq a b ≡ false → is_known (with_name names b) a ≡ is_known names a
known_other names a b other = known_at names a b (is_known names b) other

-- two names that are not the same have two numbers
apart : (names : List (List ℕ)) (a b : List ℕ) → is_known names a ≡ true → bytes_eq a b ≡ false → number_of names b ≡ number_of names a → ⊥
apart names a b known other same = true≢false (sym (itself a) ∙ ap (bytes_eq a) (sym (alone names a b known same)) ∙ other)

-- a thread that acts has run, and the others as before
acts_itself : (names : List (List ℕ)) (idle : List Bool) (t name : List ℕ) → name ≡ t → has_run (with_name names t) (without_idle idle (number_of names t)) name ≡ true
acts_itself names idle t name same = rw (same, given names t, again names t, without_itself idle (number_of names t)) refl

acts_known : (names : List (List ℕ)) (idle : List Bool) (t name : List ℕ) (known : Bool) → is_known names name ≡ known → bytes_eq name t ≡ false
    → has_run (with_name names t) (without_idle idle (number_of names t)) name ≡ has_run names idle name
acts_known names idle t name false is other = rw (known_other names name t other, is) refl
acts_known names idle t name true is other =
    rw (known_other names name t other, kept names name t is)
    (ap (λ (x : Bool). is_known names name && not x) (without_others idle (number_of names t) (number_of names name) (apart names name t is other)))

acts_as : (names : List (List ℕ)) (idle : List Bool) (t name : List ℕ) (same : Bool) → bytes_eq name t ≡ same
    → has_run (with_name names t) (without_idle idle (number_of names t)) name ≡ (same || has_run names idle name)
acts_as names idle t name true is = acts_itself names idle t name ((bytes_eq-Decides name t).0 is)
acts_as names idle t name false is = acts_known names idle t name (is_known names name) refl is

-- a thread that is named has not run
names_itself : (names : List (List ℕ)) (idle : List Bool) (u name : List ℕ) → name ≡ u → is_known names u ≡ false
    → has_run (with_name names u) (with_idle idle (number_of (with_name names u) u)) name ≡ has_run names idle name
names_itself names idle u name same new = rw (same, given names u, with_itself idle (number_of (with_name names u) u), new) refl

names_known : (names : List (List ℕ)) (idle : List Bool) (u name : List ℕ) (known : Bool) → is_known names name ≡ known → bytes_eq name u ≡ false
    → has_run (with_name names u) (with_idle idle (number_of (with_name names u) u)) name ≡ has_run names idle name
names_known names idle u name false is other = rw (known_other names name u other, is) refl
names_known names idle u name true is other =
    let more = with_name names u in
    let there : is_known more name ≡ true = still names name u is in
    ap (λ (x : Bool). is_known more name && not x) (with_others idle (number_of more u) (number_of more name) (apart more name u there other))
    ∙ (rw (known_other names name u other, kept names name u is) refl)

names_as : (names : List (List ℕ)) (idle : List Bool) (u name : List ℕ) (same : Bool) → bytes_eq name u ≡ same → is_known names u ≡ false
    → has_run (with_name names u) (with_idle idle (number_of (with_name names u) u)) name ≡ has_run names idle name
names_as names idle u name true is new = names_itself names idle u name ((bytes_eq-Decides name u).0 is) new
names_as names idle u name false is new = names_known names idle u name (is_known names name) refl is

-- a start or a join, by whether the other thread was known
other_as : (old : List (List ℕ)) (idle : List Bool) (t u name : List ℕ) (known : Bool) → is_known old u ≡ known → bytes_eq u t ≡ false
    → has_run (with_name (with_name old t) u) (waits_for known (with_name (with_name old t) u) (Some u) idle) name ≡ has_run (with_name old t) idle name
other_as old idle t u name true is other =
    let there : is_known (with_name old t) u ≡ true = still old u t is in
    rw there refl
other_as old idle t u name false is other =
    let new : is_known (with_name old t) u ≡ false = known_other old u t other ∙ is in
    names_as (with_name old t) idle u name (bytes_eq name u) refl new

both_act : (old : List (List ℕ)) (idle : List Bool) (t u name : List ℕ) → bytes_eq u t ≡ false
    → has_run (with_name (with_name old t) u) (waits_for (is_known old u) (with_name (with_name old t) u) (Some u) (without_idle idle (number_of old t))) name
    ≡ (bytes_eq name t || has_run old idle name)
both_act old idle t u name other =
    other_as old (without_idle idle (number_of old t)) t u name (is_known old u) refl other ∙ acts_as old idle t name (bytes_eq name t) refl

not_own : (own : Bool) (rest : Option TextKind) (k : TextKind) → cond own (Some k) rest ≡ None → own ≡ false
not_own true rest k e = absurd (cc)
not_own false rest k e = refl

-- past an event line without a fault, its thread has run, and the others as before
pub runs_past : (line : ℕ) (r : Recording) (idle : List Bool) (t : List ℕ) (d : Operation) (name : List ℕ) → operation_fault r.names.threads idle t d ≡ None
    → let s : EventLine = record { thread = t; operation = d } in
    has_run (with_line line s r).names.threads (idle_past r.names.threads (with_line line s r).names.threads s idle) name ≡ (bytes_eq name t || has_run r.names.threads idle name)
runs_past line r idle t (Acquires lock m) name e = acts_as r.names.threads idle t name (bytes_eq name t) refl
runs_past line r idle t (Releases lock m) name e = acts_as r.names.threads idle t name (bytes_eq name t) refl
runs_past line r idle t (Accesses k w None) name e = acts_as r.names.threads idle t name (bytes_eq name t) refl
runs_past line r idle t (Accesses k w (Some site)) name e = acts_as r.names.threads idle t name (bytes_eq name t) refl
runs_past line r idle t (Reuses run None) name e = acts_as r.names.threads idle t name (bytes_eq name t) refl
runs_past line r idle t (Reuses run (Some site)) name e = acts_as r.names.threads idle t name (bytes_eq name t) refl
runs_past line r idle t IgnoresOn name e = acts_as r.names.threads idle t name (bytes_eq name t) refl
runs_past line r idle t IgnoresOff name e = acts_as r.names.threads idle t name (bytes_eq name t) refl
runs_past line r idle t (Shows w) name e = acts_as r.names.threads idle t name (bytes_eq name t) refl
runs_past line r idle t (Levels n) name e = acts_as r.names.threads idle t name (bytes_eq name t) refl
runs_past line r idle t (Starts other) name e = both_act r.names.threads idle t other name (not_own (bytes_eq other t) _ _ e)
runs_past line r idle t (Joins other) name e = both_act r.names.threads idle t other name (not_own (bytes_eq other t) _ _ e)
runs_past line r idle t (Signals object) name e = acts_as r.names.threads idle t name (bytes_eq name t) refl
runs_past line r idle t (Awaits object) name e = acts_as r.names.threads idle t name (bytes_eq name t) refl

-- the thread of a step that was added last
pub last_added : (steps : List Step) (s : Step) → last_actor (steps ++ s ∷ []) ≡ Some s.thread
last_added [] s = refl
last_added (t ∷ []) s = refl
last_added (t ∷ u ∷ steps) s = last_added (u ∷ steps) s

pub last_is : (steps : List Step) (s : Step) → slice_get steps (length steps - 1) ≡ Some s → last_actor steps ≡ Some s.thread
last_is [] s e = absurd (cc)
last_is (t ∷ []) s e = let same : t ≡ s = let h = e in cc in ap (λ (x : Step). Some x.thread) same
last_is (t ∷ u ∷ steps) s e =
    let place : length (t ∷ u ∷ steps) - 1 ≡ suc (length (u ∷ steps) - 1) = omega arith in
    last_is (u ∷ steps) s (rw place at e)

filled : (n : ℕ) → replicate n false ++ true ∷ [] ≡ with_idle [] n
filled zero = refl
filled (suc n) = ap (λ (x : List Bool). false ∷ x) (filled n)

pub with_more : (bs : List Bool) (n : ℕ) → length bs ≤ n → (take n bs ++ replicate (n - length bs) false) ++ true ∷ [] ≡ with_idle bs n
with_more [] zero past = refl
with_more [] (suc n) past = let all : suc n - 0 ≡ suc n = omega arith in rw all (filled (suc n))
with_more (b ∷ bs) zero past = absurd (omega (arith, past))
with_more (b ∷ bs) (suc n) past =
    let rest : suc n - suc (length bs) ≡ n - length bs = omega arith in
    rw rest (ap (λ (x : List Bool). b ∷ x) (with_more bs n (omega (arith, past))))

-- the thread that a line names has a number behind it
pub named_past : (line : ℕ) (r : Recording) (t : List ℕ) (d : Operation) → is_known_name (with_line line (record { thread = t; operation = d }) r).names.threads (other_thread d) ≡ true
named_past line r t (Acquires lock m) = refl
named_past line r t (Releases lock m) = refl
named_past line r t (Accesses k w site) = refl
named_past line r t (Reuses run site) = refl
named_past line r t IgnoresOn = refl
named_past line r t IgnoresOff = refl
named_past line r t (Shows w) = refl
named_past line r t (Levels n) = refl
named_past line r t (Starts other) = given (with_name r.names.threads t) other
named_past line r t (Joins other) = given (with_name r.names.threads t) other
named_past line r t (Signals object) = refl
named_past line r t (Awaits object) = refl

-- no other thread, no fault
pub no_fault : (threads : List (List ℕ)) (idle : List Bool) (t : List ℕ) (d : Operation) → other_thread d ≡ None → operation_fault threads idle t d ≡ None
no_fault threads idle t (Acquires lock m) e = refl
no_fault threads idle t (Releases lock m) e = refl
no_fault threads idle t (Accesses k w site) e = refl
no_fault threads idle t (Reuses run site) e = refl
no_fault threads idle t IgnoresOn e = refl
no_fault threads idle t IgnoresOff e = refl
no_fault threads idle t (Shows w) e = refl
no_fault threads idle t (Levels n) e = refl
no_fault threads idle t (Starts other) e = absurd (cc)
no_fault threads idle t (Joins other) e = absurd (cc)
no_fault threads idle t (Signals object) e = refl
no_fault threads idle t (Awaits object) e = refl
