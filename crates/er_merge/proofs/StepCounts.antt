-- How many steps a trace has at most: a line makes no more than one for each page that a reuse can touch.
use Rattle.std.proofs.Common.{◌≡◌, ℕ, zero, suc, ◌+◌, ◌*◌, ◌-◌, ◌/◌, ◌≤◌, ◌==◌, Bool, true, false, cond, List, [], ◌∷◌, ◌++◌, length, length-append, map, Option, Some, None, refl, sym, ap, subst, ◌∙◌, arith}
use Rattle.std.proofs.lemmas.List.{length-map}
use Rattle.er_event.specs.Span.{Span, most_bytes, page_count, part_of, parts_below}
use Rattle.er_event.specs.declared.addresses.PageRange.{PageRange}
use Rattle.er_event.specs.declared.steps.Event.TheVariants as event
use Rattle.er_event.specs.declared.steps.Step.{Step}
use Rattle.er_lines.specs.Lines.{Placed, words}
use Rattle.er_text.specs.Events.{EventLine, Operation, Acquires, Releases, Accesses, Reuses, IgnoresOn, IgnoresOff, Shows, Levels, Starts, Joins, Signals, Awaits, run_parts, with_line, with_operation}
use Rattle.er_text.specs.Trace.{AllSay, IsOperation, IsTrace, with_lines}
use Rattle.er_text.specs.declared.verbs.Version.{Version}
use Rattle.er_trace.specs.Trace.{Recording, no_steps, with_thread_name}
use Rattle.er_merge.proofs.TraceSteps.{few_events}

count_parts : (span : Span) (n : ℕ) → length (parts_below span n) ≡ n
unfolding parts_below
count_parts span zero = refl
count_parts span (suc n) = length-append (parts_below span n) (part_of span n ∷ []) ∙ ap (λ m. m + 1) (count_parts span n) ∙ omega arith

few_pages : (a n : ℕ) → n ≤ most_bytes → ((a + n - 1) / 4) / 1024 + 1 - (a / 4) / 1024 ≤ 1025
few_pages a n small = omega (arith, small)

few_in_run : (b : Bool) (a n : ℕ) → n ≤ most_bytes → length (run_parts (cond b None (Some (record { first = a / 4; last = (a + n - 1) / 4 })))) ≤ 1025
few_in_run true a n small = omega arith
few_in_run false a n small =
    let span : Span = record { first = a / 4; last = (a + n - 1) / 4 } in
    let pages = few_pages a n small in
    let count : length (parts_below span (page_count span)) ≡ page_count span = count_parts span (page_count span) in
    rw count pages

-- how many steps an operation makes
abbrev Few : Operation → Type 0
Few (Acquires lock m) = Unit {0}
Few (Releases lock m) = Unit {0}
Few (Accesses k w site) = Unit {0}
Few (Reuses run site) = length (run_parts run) ≤ 1025
Few IgnoresOn = Unit {0}
Few IgnoresOff = Unit {0}
Few (Shows w) = Unit {0}
Few (Levels n) = Unit {0}
Few (Starts other) = Unit {0}
Few (Joins other) = Unit {0}
Few (Signals object) = Unit {0}
Few (Awaits object) = Unit {0}

said_few : (v : Version) (ws : List (List ℕ)) (thread : List ℕ) (op : Operation) → IsOperation v ws thread op → Few op
said_few v ws thread (Acquires lock m) is = tt
said_few v ws thread (Releases lock m) is = tt
said_few v ws thread (Accesses k w site) is = tt
said_few v ws thread (Reuses run site) is =
    subst (λ (r : Option Span). length (run_parts r) ≤ 1025) (sym is.11) (few_in_run (is.3 == 0) is.2 is.3 is.8)
said_few v ws thread IgnoresOn is = tt
said_few v ws thread IgnoresOff is = tt
said_few v ws thread (Shows w) is = tt
said_few v ws thread (Levels n) is = tt
said_few v ws thread (Starts other) is = tt
said_few v ws thread (Joins other) is = tt
said_few v ws thread (Signals object) is = tt
said_few v ws thread (Awaits object) is = tt

one_made : (steps : List Step) (step : Step) (n : ℕ) → length steps ≤ n → length (steps ++ step ∷ []) ≤ n + 1025
one_made steps step n before = omega (arith, before, length-append steps (step ∷ []))

run_made : (steps : List Step) (thread n : ℕ) (parts : List PageRange) → length parts ≤ 1025 → length steps ≤ n
    → length (steps ++ map (λ part. record { thread = thread; event = event.Reuse part }) parts) ≤ n + 1025
run_made steps thread n parts few before =
    let made : PageRange → Step = λ part. record { thread = thread; event = event.Reuse part } in
    omega (arith, before, few, length-append steps (map made parts), length-map parts made)

operation_made : (line thread : ℕ) (op : Operation) (r : Recording) (n : ℕ) → Few op → length r.steps ≤ n → length (with_operation line thread op r).steps ≤ n + 1025
operation_made line thread (Acquires lock m) r n few before = one_made r.steps _ n before
operation_made line thread (Releases lock m) r n few before = one_made r.steps _ n before
operation_made line thread (Accesses k w None) r n few before = one_made r.steps _ n before
operation_made line thread (Accesses k w (Some site)) r n few before = one_made r.steps _ n before
operation_made line thread (Reuses run None) r n few before = run_made r.steps thread n (run_parts run) few before
operation_made line thread (Reuses run (Some site)) r n few before = run_made r.steps thread n (run_parts run) few before
operation_made line thread IgnoresOn r n few before = one_made r.steps _ n before
operation_made line thread IgnoresOff r n few before = one_made r.steps _ n before
operation_made line thread (Shows w) r n few before = one_made r.steps _ n before
operation_made line thread (Levels m) r n few before = one_made r.steps _ n before
operation_made line thread (Starts other) r n few before = one_made r.steps _ n before
operation_made line thread (Joins other) r n few before = one_made r.steps _ n before
operation_made line thread (Signals object) r n few before = one_made r.steps _ n before
operation_made line thread (Awaits object) r n few before = one_made r.steps _ n before

lines_made : (v : Version) (ps : List Placed) (ss : List EventLine) (r : Recording) (n m : ℕ) → AllSay v ps ss → n + 1025 * length ps ≤ m → length r.steps ≤ n → length (with_lines ps ss r).steps ≤ m
lines_made v [] [] r n m say low before = omega (arith, low, before)
lines_made v [] (s ∷ ss) r n m say low before = absurd say
lines_made v (p ∷ ps) [] r n m say low before = absurd say
lines_made v (p ∷ ps) (s ∷ ss) r n m say low before =
    lines_made v ps ss (with_line p.number s r) (n + 1025) m say.1 (omega (arith, low))
    (operation_made p.number _ s.operation (with_thread_name r s.thread) n (said_few v (words p.line.bytes) s.thread s.operation say.0.1) before)

pub few_steps : (text : List ℕ) (limit : ℕ) (t : Recording) → IsTrace text limit t → length t.steps ≤ 1025 * length text
few_steps text limit t is =
    let made : length t.steps ≤ 1025 * length is.events =
    subst (λ (r : Recording). length r.steps ≤ 1025 * length is.events) (sym is.told)
    (lines_made is.version is.events is.event_lines no_steps 0 (1025 * length is.events) is.says (omega arith) (omega arith)) in
    omega (arith, made, few_events text limit t is)
