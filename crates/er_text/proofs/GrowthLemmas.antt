-- A line that is read adds its steps to the trace, and names keep their numbers.
use Rattle.std.proofs.Common.{◌≡◌, ℕ, ◌+◌, Bool, true, false, not, cond, List, [], ◌++◌, append_assoc, append-nil, Option, Some, None, Result, Ok, Err, refl, subst, sym, ap, ◌∙◌}
use Rattle.std.specs.List.{list_all}
use Rattle.er_trace.specs.Names.{NameTable, number_of, with_name}
use Rattle.er_trace.specs.Trace.{Recording, with_thread_name}
use Rattle.er_event.specs.declared.steps.Step.{Step}
use Rattle.er_lines.specs.declared.faults.TextKind.{TextKind}
use Rattle.er_lines.specs.declared.faults.TextKind.TheVariants.{NotAscii}
use Rattle.er_text.specs.declared.verbs.Version.{Version}
use Rattle.er_lines.specs.Lines.{says_something, words, is_ascii}
use Rattle.er_text.specs.Events.{EventLine, Operation, Acquires, Releases, Accesses, Reuses, IgnoresOn, IgnoresOff, Shows, Levels, Starts, Joins, Signals, Awaits, with_operation}
use Rattle.er_text.specs.Named.{KeepsNames, Grows}
use Rattle.er_text.specs.declared.stages.Stage.{Stage}
use Rattle.er_text.specs.declared.stages.Stage.TheVariants.{Front, Events, Ended}
use Rattle.er_text.specs.Trace.{version_in, is_end}
use Rattle.er_text.specs.Inner.Parsing.{parsed_of}
use Rattle.er_text.specs.Inner.Idle.{order_fault}
use Rattle.er_text.specs.Inner.Traces.{Progress, skip, past_event, add_event, add_parsed, open_with, closed, read_words, plain_at}
use Rattle.er_text.proofs.NamedLaws.{name_goes_on, thread_on}

pub grows_not : (r : Recording) → Grows r r
grows_not r = record {
  names = record { threads = λ n x e. e; locks = λ n x e. e; sites = λ n x e. e };
  more = [];
  others = [];
  named = [];
  steps = sym (append-nil r.steps);
  lines = sym (append-nil r.lines);
  sites = sym (append-nil r.sites);
}

pub grows_on : (r s t : Recording) → Grows r s → Grows s t → Grows r t
grows_on r s t first second = record {
  names = record {
    threads = λ n x e. second.names.threads n x (first.names.threads n x e);
    locks = λ n x e. second.names.locks n x (first.names.locks n x e);
    sites = λ n x e. second.names.sites n x (first.names.sites n x e);
  };
  more = first.more ++ second.more;
  others = first.others ++ second.others;
  named = first.named ++ second.named;
  steps = second.steps ∙ ap (λ (x : List Step). x ++ second.more) first.steps ∙ append_assoc r.steps first.more second.more;
  lines = second.lines ∙ ap (λ (x : List ℕ). x ++ second.others) first.lines ∙ append_assoc r.lines first.others second.others;
  sites = second.sites ∙ ap (λ (x : List ℕ). x ++ second.named) first.sites ∙ append_assoc r.sites first.named second.named;
}

grows_by : (r : Recording) (names : NameTable) (more : List Step) (others named : List ℕ) → KeepsNames r.names names
    → Grows r (record { steps = r.steps ++ more; lines = r.lines ++ others; sites = r.sites ++ named; names = names })
grows_by r names more others named keeps = record { names = keeps; more = more; others = others; named = named; steps = refl; lines = refl; sites = refl }

threads_on : (r : Recording) (thread other : List ℕ) → KeepsNames r.names (with_thread_name (with_thread_name r thread) other).names
threads_on r thread other = record {
  threads = λ n x e. name_goes_on (with_name r.names.threads thread) other n x (name_goes_on r.names.threads thread n x e);
  locks = λ n x e. e;
  sites = λ n x e. e;
}

operation_grows : (line n : ℕ) (thread : List ℕ) (d : Operation) (r : Recording) → Grows r (with_operation line n d (with_thread_name r thread))
operation_grows line n thread (Acquires lock m) r =
    grows_by r _ _ _ _ (record { threads = name_goes_on r.names.threads thread; locks = name_goes_on r.names.locks lock; sites = λ k x e. e })
operation_grows line n thread (Releases lock m) r =
    grows_by r _ _ _ _ (record { threads = name_goes_on r.names.threads thread; locks = name_goes_on r.names.locks lock; sites = λ k x e. e })
operation_grows line n thread (Accesses k w None) r = grows_by r _ _ _ _ (thread_on r thread)
operation_grows line n thread (Accesses k w (Some site)) r =
    grows_by r _ _ _ _ (record { threads = name_goes_on r.names.threads thread; locks = λ j x e. e; sites = name_goes_on r.names.sites site })
operation_grows line n thread (Reuses run None) r = grows_by r _ _ _ _ (thread_on r thread)
operation_grows line n thread (Reuses run (Some site)) r =
    grows_by r _ _ _ _ (record { threads = name_goes_on r.names.threads thread; locks = λ j x e. e; sites = name_goes_on r.names.sites site })
operation_grows line n thread IgnoresOn r = grows_by r _ _ _ _ (thread_on r thread)
operation_grows line n thread IgnoresOff r = grows_by r _ _ _ _ (thread_on r thread)
operation_grows line n thread (Shows w) r = grows_by r _ _ _ _ (thread_on r thread)
operation_grows line n thread (Levels l) r = grows_by r _ _ _ _ (thread_on r thread)
operation_grows line n thread (Starts other) r = grows_by r _ _ _ _ (threads_on r thread other)
operation_grows line n thread (Joins other) r = grows_by r _ _ _ _ (threads_on r thread other)
operation_grows line n thread (Signals object) r =
    grows_by r _ _ _ _ (record { threads = name_goes_on r.names.threads thread; locks = name_goes_on r.names.locks object; sites = λ k x e. e })
operation_grows line n thread (Awaits object) r =
    grows_by r _ _ _ _ (record { threads = name_goes_on r.names.threads thread; locks = name_goes_on r.names.locks object; sites = λ k x e. e })

abbrev Adds : Recording → Progress → Type 0
Adds r q = Grows r q.told

event_grows : (line : ℕ) (p q : Progress) (s : EventLine) (fault : Option TextKind) → add_event line p s fault ≡ Ok q → Grows p.told q.told
event_grows line p q s (Some k) e = absurd (cc)
event_grows line p q s None e =
    let same : past_event line p s ≡ q = cc in
    subst (Adds p.told) same (operation_grows line (number_of p.told.names.threads s.thread) s.thread s.operation p.told)

parsed_grows : (line : ℕ) (p q : Progress) (r : Result EventLine TextKind) → add_parsed line p r ≡ Ok q → Grows p.told q.told
parsed_grows line p q (Err k) e = absurd (cc)
parsed_grows line p q (Ok s) e = event_grows line p q s (order_fault p.told.names.threads p.idle s) e

opened_grows : (p q : Progress) (v : Option Version) → open_with p v ≡ Ok q → Grows p.told q.told
opened_grows p q None e = absurd (cc)
opened_grows p q (Some v) e =
    let same : record p { number = p.number + 1; stage = Events v } ≡ q = cc in
    subst (Adds p.told) same (grows_not p.told)

closed_grows : (ended : Bool) (line : ℕ) (p q : Progress) (r : Result EventLine TextKind) → cond ended (Ok (closed p)) (add_parsed line p r) ≡ Ok q → Grows p.told q.told
closed_grows true line p q r e = let same : closed p ≡ q = cc in subst (Adds p.told) same (grows_not p.told)
closed_grows false line p q r e = parsed_grows line p q r e

words_grow : (stage : Stage) (line : ℕ) (p q : Progress) (ws : List (List ℕ)) → read_words stage line p ws ≡ Ok q → Grows p.told q.told
words_grow Front line p q ws e = opened_grows p q (version_in ws) e
words_grow (Events v) line p q ws e = closed_grows (is_end v ws) line p q (parsed_of v ws) e
words_grow Ended line p q ws e = absurd (cc)

chosen_grows : (ascii some : Bool) (p q : Progress) (r : Result Progress TextKind) → (r ≡ Ok q → Grows p.told q.told)
    → cond (not ascii) (Err NotAscii) (cond some r (Ok (skip p))) ≡ Ok q → Grows p.told q.told
chosen_grows false some p q r grows e = absurd (cc)
chosen_grows true true p q r grows e = grows e
chosen_grows true false p q r grows e = let same : skip p ≡ q = cc in subst (Adds p.told) same (grows_not p.told)

-- a line that was read
pub line_grows : (line : ℕ) (bytes : List ℕ) (p q : Progress) → plain_at p line bytes ≡ Ok q → Grows p.told q.told
line_grows line bytes p q e =
    chosen_grows (list_all is_ascii bytes) (says_something bytes) p q (read_words p.stage line p (words bytes)) (λ h. words_grow p.stage line p q (words bytes) h) e
