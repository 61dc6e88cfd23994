-- What the lines of an access do to a reading, one after another.
use Rattle.std.proofs.Common.{◌≡◌, ℕ, zero, suc, ◌+◌, ◌/◌, ◌≤◌, ◌<◌, Bool, true, false, List, [], ◌∷◌, ◌++◌, Option, Some, None, Result, Ok, refl, sym, ap, subst, ◌∙◌, arith}
use Rattle.std.specs.Io.KnownBytes.{Keeps}
use Rattle.er_event.specs.declared.steps.Event.TheVariants as event
use Rattle.er_event.specs.declared.steps.Kind.TheVariants as kind
use Rattle.er_event.specs.declared.steps.Mode.TheVariants as mode
use Rattle.er_event.specs.declared.steps.Step.{Step}
use Rattle.er_lines.specs.Lending.{lines_left}
use Rattle.er_lines.specs.Lines.{Placed}
use Rattle.er_lines.specs.Places.{Place}
use Rattle.er_lines.specs.Reading.{Turns}
use Rattle.er_lines.specs.Taking.{TakesLine, TakesLines, ready_bytes, ready_placed}
use Rattle.er_lines.specs.declared.faults.TextKind.{TextKind}
use Rattle.er_lines.specs.declared.ready.ReadyVerb.{ReadyVerb}
use Rattle.er_lines.specs.declared.ready.ReadyVerb.TheVariants as does
use Rattle.er_lines.proofs.TurnLemmas.{turn_on}
use Rattle.er_trace.specs.Names.{number_of, with_name}
use Rattle.er_trace.specs.Trace.{Recording, with_thread_name}
use Rattle.er_trace.proofs.NumberLemmas.{again}
use Rattle.er_text.specs.declared.stages.Stage.{Stage}
use Rattle.er_text.specs.declared.stages.Stage.TheVariants.{Events}
use Rattle.er_text.specs.declared.verbs.Version.TheVariants.{Three}
use Rattle.er_text.specs.Events.{site_number, with_line, with_site_of}
use Rattle.er_text.specs.Named.{Grows}
use Rattle.er_text.specs.Places.{Tail}
use Rattle.er_text.specs.Inner.Endings.{KeepsTail}
use Rattle.er_text.specs.Inner.Idle.{last_actor, without_idle}
use Rattle.er_text.specs.Inner.Ready.{ready_event, site_if, with_lines}
use Rattle.er_text.specs.Inner.Traces.{at_line, read_content}
use Rattle.er_text.proofs.GrowthLemmas.{grows_not, grows_on, line_grows}
use Rattle.er_text.proofs.ReadyLemmas.{ready_read, ready_tail}
use Rattle.er_text.proofs.TailLemmas.{tail_goes_on, tail_on}

-- what some lines did to a reading, to how the lines before end, and to the trace
pub record HasRun (old new : Place) (before behind : Option (List ℕ)) (stage : Stage) (idle after : List Bool) (tail tail_now : Tail) (r s : Recording) : Type 0 where
  pub turn : Turns old.limit read_content (lines_left old before) (lines_left new behind) (at_line old.number stage idle r) (at_line new.number stage after s) (Ok true)
  pub ends : KeepsTail (lines_left old before) (lines_left new behind) tail tail_now
  pub grows : Grows r s
  pub start : old.start ≤ new.start

turn_then : {T : Type 0} (limit : ℕ) (content : T → Placed → Result T TextKind) (all left rest : Option (List Placed)) (t u w : T)
    → Turns limit content all left t u (Ok true) → Turns limit content left rest u w (Ok true) → Turns limit content all rest t w (Ok true)
turn_then limit content None left rest t u w one two = tt
turn_then limit content (Some all) None rest t u w one two = absurd one
turn_then limit content (Some all) (Some left) None t u w one two = two
turn_then limit content (Some all) (Some left) (Some rest) t u w one two = one ∙ two

run_on : (old mid new : Place) (before between behind : Option (List ℕ)) (stage : Stage) (idle then after : List Bool) (tail tail_then tail_now : Tail) (r q s : Recording) → mid.limit ≡ old.limit
    → HasRun old mid before between stage idle then tail tail_then r q → HasRun mid new between behind stage then after tail_then tail_now q s → HasRun old new before behind stage idle after tail tail_now r s
run_on old mid new before between behind stage idle then after tail tail_then tail_now r q s same one two = record {
  turn = turn_then old.limit read_content (lines_left old before) (lines_left mid between) (lines_left new behind) (at_line old.number stage idle r) (at_line mid.number stage then q) (at_line new.number stage after s) one.turn
      (subst (λ (l : ℕ). Turns l read_content (lines_left mid between) (lines_left new behind) (at_line mid.number stage then q) (at_line new.number stage after s) (Ok true)) same two.turn);
  ends = tail_goes_on (lines_left old before) (lines_left mid between) (lines_left new behind) tail tail_then tail_now one.ends two.ends;
  grows = grows_on r q s one.grows two.grows;
  start = omega (arith, one.start, two.start);
}

-- no line was taken
run_none : (old new : Place) (before behind : Option (List ℕ)) (stage : Stage) (idle : List Bool) (tail : Tail) (r : Recording) → (new ≡ old) × Keeps before behind → HasRun old new before behind stage idle idle tail tail r r
run_none old new None behind stage idle tail r is = record { turn = tt; ends = tt; grows = grows_not r; start = omega (arith, ap (λ (p : Place). p.start) is.0) }
run_none old new (Some xs) None stage idle tail r is = absurd is.1
run_none old new (Some xs) (Some ys) stage idle tail r is = rw (is.0, is.1) (record { turn = refl; ends = refl; grows = grows_not r; start = omega arith })

-- one more actor stands last
actor_last : (steps : List Step) (s : Step) → last_actor (steps ++ s ∷ []) ≡ Some s.thread
actor_last [] s = refl
actor_last (a ∷ []) s = refl
actor_last (a ∷ b ∷ steps) s = actor_last (b ∷ steps) s

-- who acts in a line, and that its number stays
abbrev ActsLast : Recording → Recording → List ℕ → Type 0
ActsLast r s thread = (last_actor s.steps ≡ Some (number_of r.names.threads thread)) × (s.names.threads ≡ with_name r.names.threads thread)

site_threads : (r : Recording) (thread : List ℕ) (site : Option (List ℕ)) → (with_site_of (with_thread_name r thread) site).names.threads ≡ with_name r.names.threads thread
site_threads r thread None = refl
site_threads r thread (Some site) = refl

line_acts : (v : ReadyVerb) (line address : ℕ) (thread name : List ℕ) (r : Recording) → ActsLast r (with_line line (ready_event v address thread name) r) thread
line_acts does.Read line address thread name r = (actor_last (with_site_of (with_thread_name r thread) (site_if name)).steps (record { thread = number_of r.names.threads thread; event = event.Access kind.Read (address / 4) (site_number (with_thread_name r thread) (site_if name)) }), site_threads r thread (site_if name))
line_acts does.Write line address thread name r = (actor_last (with_site_of (with_thread_name r thread) (site_if name)).steps (record { thread = number_of r.names.threads thread; event = event.Access kind.Write (address / 4) (site_number (with_thread_name r thread) (site_if name)) }), site_threads r thread (site_if name))
line_acts does.Lock line address thread name r = (actor_last r.steps (record { thread = number_of r.names.threads thread; event = event.Acquire (number_of r.names.locks name) mode.Write }), refl)
line_acts does.Unlock line address thread name r = (actor_last r.steps (record { thread = number_of r.names.threads thread; event = event.Release (number_of r.names.locks name) mode.Write }), refl)
line_acts does.ReadLock line address thread name r = (actor_last r.steps (record { thread = number_of r.names.threads thread; event = event.Acquire (number_of r.names.locks name) mode.Read }), refl)
line_acts does.ReadUnlock line address thread name r = (actor_last r.steps (record { thread = number_of r.names.threads thread; event = event.Release (number_of r.names.locks name) mode.Read }), refl)

same_number : (r s : Recording) (thread : List ℕ) → ActsLast r s thread → number_of s.names.threads thread ≡ number_of r.names.threads thread
same_number r s thread acts = ap (λ (ts : List (List ℕ)). number_of ts thread) acts.1 ∙ again r.names.threads thread

-- of all lines
pub lines_actor : (n : ℕ) (v : ReadyVerb) (line address : ℕ) (thread name : List ℕ) (r : Recording) → 1 ≤ n
    → last_actor (with_lines line v address thread name n r).steps ≡ Some (number_of r.names.threads thread)
lines_actor zero v line address thread name r some = absurd (omega (arith, some))
lines_actor (suc zero) v line address thread name r some = (line_acts v line address thread name r).0
lines_actor (suc (suc n)) v line address thread name r some =
    let s = with_line line (ready_event v address thread name) r in
    lines_actor (suc n) v (line + 1) (address + 4) thread name s (omega arith) ∙ ap (λ (k : ℕ). Some k) (same_number r s thread (line_acts v line address thread name r))

-- by equal numbers and names
pub lines_as : (v : ReadyVerb) (address count line number : ℕ) (thread thread_of name name_of : List ℕ) (r s : Recording) → s ≡ with_lines line v address thread name count r → line ≡ number → thread ≡ thread_of → name ≡ name_of
    → s ≡ with_lines number v address thread_of name_of count r
lines_as v address count line number thread thread_of name name_of r s is here of_thread of_name =
    is ∙ ap (λ (n : ℕ). with_lines n v address thread name count r) here ∙ ap (λ (t : List ℕ). with_lines number v address t name count r) of_thread
    ∙ ap (λ (n : List ℕ). with_lines number v address thread_of n count r) of_name

without_again : (idle : List Bool) (n : ℕ) → without_idle (without_idle idle n) n ≡ without_idle idle n
without_again [] n = refl
without_again (b ∷ bs) zero = refl
without_again (b ∷ bs) (suc n) = ap (λ (x : List Bool). b ∷ x) (without_again bs n)

-- a line was taken
run_one : (old mid : Place) (before between : Option (List ℕ)) (v : ReadyVerb) (address : ℕ) (thread name : List ℕ) (stage : Stage) (idle after : List Bool) (tail : Tail) (r : Recording) → stage ≡ Events Three
    → TakesLine old mid before between v address thread name → after ≡ without_idle idle (number_of r.names.threads thread)
    → HasRun old mid before between stage idle after tail (record { cut = false; comment = tail.comment }) r (with_line old.number (ready_event v address thread name) r)
run_one old mid before between v address thread name stage idle after tail r third taken acts =
    let s = with_line old.number (ready_event v address thread name) r in
    let actor = (line_acts v old.number address thread name r).0 in
    let read = ready_read old.number old.number stage v address thread name thread name idle after r s refl refl refl third taken.right refl
    (λ who last. acts ∙ ap (without_idle idle) (cc (actor, last))) in
    let number : mid.number ≡ old.number + 1 = ap (λ (p : Place). p.number) taken.past in
    record {
      turn = turn_on old.limit read_content (lines_left old before) (lines_left mid between) (ready_placed old v address thread name) (at_line old.number stage idle r) _ taken.first taken.fits
          (read ∙ ap (λ (k : ℕ). Ok (at_line k stage after s)) (sym number));
      ends = tail_on (lines_left old before) (lines_left mid between) (ready_placed old v address thread name) tail _ taken.first (ready_tail old tail v address thread name taken.right);
      grows = line_grows old.number (ready_bytes v address thread name) _ _ read;
      start = omega (arith, taken.some);
    }

-- and those behind it
run_rest : (n : ℕ) (old new : Place) (before behind : Option (List ℕ)) (v : ReadyVerb) (address : ℕ) (thread name : List ℕ) (stage : Stage) (idle : List Bool) (tail : Tail) (r : Recording) → stage ≡ Events Three
    → TakesLines old new before behind v address thread name n → idle ≡ without_idle idle (number_of r.names.threads thread) → tail.cut ≡ false
    → HasRun old new before behind stage idle idle tail tail r (with_lines old.number v address thread name n r)
run_rest zero old new before behind v address thread name stage idle tail r third taken acts whole = run_none old new before behind stage idle tail r taken
run_rest (suc n) old new before behind v address thread name stage idle tail r third taken acts whole =
    let mid = taken.0 in
    let between = taken.1 in
    let one = taken.2 in
    let s = with_line old.number (ready_event v address thread name) r in
    let still : record { cut = false; comment = tail.comment } ≡ tail = ap (λ (b : Bool). record { cut = b; comment = tail.comment }) (sym whole) in
    let number : mid.number ≡ old.number + 1 = ap (λ (p : Place). p.number) one.past in
    let limit : mid.limit ≡ old.limit = ap (λ (p : Place). p.limit) one.past in
    let first = subst (λ (t : Tail). HasRun old mid before between stage idle idle tail t r s) still (run_one old mid before between v address thread name stage idle idle tail r third one acts) in
    let rest = run_rest n mid new between behind v (address + 4) thread name stage idle tail s third taken.3
    (acts ∙ ap (without_idle idle) (sym (same_number r s thread (line_acts v old.number address thread name r)))) whole in
    run_on old mid new before between behind stage idle idle idle tail tail tail r s (with_lines (old.number + 1) v (address + 4) thread name n s) limit first
    (subst (λ (k : ℕ). HasRun mid new between behind stage idle idle tail tail s (with_lines k v (address + 4) thread name n s)) number rest)

-- all of them
pub run_all : (n : ℕ) (old new : Place) (before behind : Option (List ℕ)) (v : ReadyVerb) (address : ℕ) (thread name : List ℕ) (stage : Stage) (idle after : List Bool) (tail : Tail) (r : Recording) → stage ≡ Events Three
    → 1 ≤ n → TakesLines old new before behind v address thread name n → after ≡ without_idle idle (number_of r.names.threads thread)
    → HasRun old new before behind stage idle after tail (record { cut = false; comment = tail.comment }) r (with_lines old.number v address thread name n r) × (old.start < new.start)
run_all zero old new before behind v address thread name stage idle after tail r third some taken acts = absurd (omega (arith, some))
run_all (suc n) old new before behind v address thread name stage idle after tail r third some taken acts =
    let mid = taken.0 in
    let between = taken.1 in
    let one = taken.2 in
    let s = with_line old.number (ready_event v address thread name) r in
    let whole : Tail = record { cut = false; comment = tail.comment } in
    let number : mid.number ≡ old.number + 1 = ap (λ (p : Place). p.number) one.past in
    let limit : mid.limit ≡ old.limit = ap (λ (p : Place). p.limit) one.past in
    let first = run_one old mid before between v address thread name stage idle after tail r third one acts in
    let same = same_number r s thread (line_acts v old.number address thread name r) in
    let rest = run_rest n mid new between behind v (address + 4) thread name stage after whole s third taken.3
    (acts ∙ sym (without_again idle (number_of r.names.threads thread)) ∙ ap (λ (x : List Bool). without_idle x (number_of r.names.threads thread)) (sym acts) ∙ ap (without_idle after) (sym same)) refl in
    let behind_it = subst (λ (k : ℕ). HasRun mid new between behind stage after after whole whole s (with_lines k v (address + 4) thread name n s)) number rest in
    (run_on old mid new before between behind stage idle after after tail whole whole r s (with_lines (old.number + 1) v (address + 4) thread name n s) limit first behind_it, omega (arith, one.some, rest.start))
