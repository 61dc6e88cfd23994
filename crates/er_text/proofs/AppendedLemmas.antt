-- A line adds to an appended recording what it adds to the recording alone, by numbers of other names.
use Rattle.std.proofs.Common.{◌≡◌, ℕ, ◌+◌, ◌<◌, ◌≤◌, List, [], ◌∷◌, ◌++◌, map, length, refl, ap, ◌∙◌, arith, add-one}
use Rattle.std.specs.List.{All}
use Rattle.std.specs.Prelude.{Some, None}
use Rattle.std.proofs.lemmas.List.Elements.{All-nil, All-cons, All-append, All-push}
use Rattle.er_event.specs.declared.addresses.PageRange.{PageRange}
use Rattle.er_event.specs.declared.steps.Event.{Event}
use Rattle.er_event.specs.declared.steps.Event.TheVariants as event
use Rattle.er_event.specs.declared.steps.Kind.{Kind}
use Rattle.er_event.specs.declared.steps.Step.{Step}
use Rattle.er_event.specs.declared.steps.Sync.TheVariants as order
use Rattle.er_trace.specs.Names.{NameTable, number_of, with_name}
use Rattle.er_trace.specs.Trace.{Recording, IsNamed, HasSiteName, with_step, with_steps, with_thread_name, with_lock_name, with_site_name}
use Rattle.er_trace.specs.Appended.{with_names, with_table, renumbered, renumbered_site, renumbered_event, renumbered_step, appended}
use Rattle.er_trace.proofs.AppendedLemmas.{with_more, new_number, same_number, below_more, more_names}
use Rattle.er_trace.proofs.AppendedSteps.{appended_thread, appended_lock, appended_site, appended_steps, named_with_thread, named_with_lock, named_with_site, known_with_site}
use Rattle.er_text.specs.Named.{KeepsNumbers, Grows}
use Rattle.er_text.proofs.NamedLaws.{name_goes_on}
use Rattle.er_text.specs.Events.{EventLine, Operation, Acquires, Releases, Accesses, Reuses, IgnoresOn, IgnoresOff, Shows, Levels, Starts, Joins, Signals, Awaits, run_parts, with_reuses, with_operation, with_line}

-- a step by a thread
abbrev step : ℕ → Event → Step
step thread e = record { thread = thread; event = e }

-- the site behind the missing one
next_site : (old new : List (List ℕ)) (n : ℕ) → renumbered_site old new (n + 1) ≡ renumbered old new n + 1
next_site old new n = rw (add-one n) refl

-- the steps of pages by a thread with another number, and their lines
same_reuses : (old new : NameTable) (thread n : ℕ) → renumbered old.threads new.threads thread ≡ n → (parts : List PageRange)
    → map (renumbered_step old new) (map (λ part. step thread (event.Reuse part)) parts) ≡ map (λ part. step n (event.Reuse part)) parts
same_reuses old new thread n is [] = refl
same_reuses old new thread n is (part ∷ parts) =
    ap (λ (m : ℕ). step m (event.Reuse part) ∷ map (renumbered_step old new) (map (λ part. step thread (event.Reuse part)) parts)) is
    ∙ ap (λ (steps : List Step). step n (event.Reuse part) ∷ steps) (same_reuses old new thread n is parts)

same_lines : (before line : ℕ) (parts : List PageRange) → map (λ n. before + n) (map (λ part. line) parts) ≡ map (λ part. before + line) parts
same_lines before line [] = refl
same_lines before line (part ∷ parts) = ap (λ (lines : List ℕ). (before + line) ∷ lines) (same_lines before line parts)

same_sites : (old new : List (List ℕ)) (site far : ℕ) → renumbered_site old new site ≡ far → (parts : List PageRange)
    → map (renumbered_site old new) (map (λ part. site) parts) ≡ map (λ part. far) parts
same_sites old new site far is [] = refl
same_sites old new site far is (part ∷ parts) =
    ap (λ (n : ℕ). n ∷ map (renumbered_site old new) (map (λ part. site) parts)) is ∙ ap (λ (ns : List ℕ). far ∷ ns) (same_sites old new site far is parts)

module _ (before : ℕ) (r : Recording) where
  -- what appending makes of the recording, and its names
  abbrev on : Recording → Recording
  on q = appended before r q

  -- a step more, whose new numbers are these
  step_on : (q s : Recording) (thread n line site far : ℕ) (e f : Event) → on q ≡ s → renumbered q.names.threads (on q).names.threads thread ≡ n → renumbered_event q.names (on q).names e ≡ f
      → renumbered_site q.names.sites (on q).names.sites site ≡ far
      → on (with_step q (step thread e) line site) ≡ with_step s (step n f) (before + line) far
  step_on q s thread n line site far e f is number does at =
      appended_steps before r q (step thread e ∷ []) (line ∷ []) (site ∷ [])
      ∙ ap (λ (m : ℕ). with_step (on q) (step m (renumbered_event q.names (on q).names e)) (before + line) (renumbered_site q.names.sites (on q).names.sites site)) number
      ∙ ap (λ (d : Event). with_step (on q) (step n d) (before + line) (renumbered_site q.names.sites (on q).names.sites site)) does
      ∙ ap (λ (m : ℕ). with_step (on q) (step n f) (before + line) m) at
      ∙ ap (λ (t : Recording). with_step t (step n f) (before + line) far) is

  -- the steps of the pages of a run
  reuses_on : (q s : Recording) (thread n line site far : ℕ) (parts : List PageRange) → on q ≡ s → renumbered q.names.threads (on q).names.threads thread ≡ n
      → renumbered_site q.names.sites (on q).names.sites site ≡ far
      → on (with_reuses q line thread site parts) ≡ with_reuses s (before + line) n far parts
  reuses_on q s thread n line site far parts is number at =
      let reuses : ℕ → List Step = λ m. map (λ part. step m (event.Reuse part)) parts in
      let lines : List ℕ = map (λ m. before + m) (map (λ part. line) parts) in
      let sites : List ℕ = map (renumbered_site q.names.sites (on q).names.sites) (map (λ part. site) parts) in
      appended_steps before r q (reuses thread) (map (λ part. line) parts) (map (λ part. site) parts)
      ∙ ap (λ (steps : List Step). with_steps (on q) steps lines sites) (same_reuses q.names (on q).names thread n number parts)
      ∙ ap (λ (ls : List ℕ). with_steps (on q) (reuses n) ls sites) (same_lines before line parts)
      ∙ ap (λ (ns : List ℕ). with_steps (on q) (reuses n) (map (λ part. before + line) parts) ns) (same_sites q.names.sites (on q).names.sites site far at parts)
      ∙ ap (λ (t : Recording). with_reuses t (before + line) n far parts) is

  module _ (q : Recording) (named : All (IsNamed q.names) q.steps) (known : All (HasSiteName q.names) q.sites) (t : List ℕ) where
    -- once the thread has appeared
    abbrev seen : Recording
    seen = with_thread_name q t

    still : All (IsNamed seen.names) seen.steps
    still = named_with_thread q named t

    thread_on : on seen ≡ with_thread_name (on q) t
    thread_on = appended_thread before r q named known t

    thread_number : renumbered seen.names.threads (on seen).names.threads (number_of q.names.threads t) ≡ number_of (on q).names.threads t
    thread_number = new_number r.names.threads q.names.threads t

    -- an event that names nothing
    plain_on : (line : ℕ) (e : Event) → renumbered_event seen.names (on seen).names e ≡ e
        → on (with_step seen (step (number_of q.names.threads t) e) line 0) ≡ with_step (with_thread_name (on q) t) (step (number_of (on q).names.threads t) e) (before + line) 0
    plain_on line e same = step_on seen (with_thread_name (on q) t) (number_of q.names.threads t) (number_of (on q).names.threads t) line 0 0 e e thread_on thread_number same refl

    -- one that names a lock or an object
    lock_on : (line : ℕ) (x : List ℕ) (make : ℕ → Event) → ((old new : NameTable) (n : ℕ) → renumbered_event old new (make n) ≡ make (renumbered old.locks new.locks n))
        → on (with_step (with_lock_name seen x) (step (number_of q.names.threads t) (make (number_of q.names.locks x))) line 0)
        ≡ with_step (with_lock_name (with_thread_name (on q) t) x) (step (number_of (on q).names.threads t) (make (number_of (on q).names.locks x))) (before + line) 0
    lock_on line x make says =
        let later : Recording = with_lock_name seen x in
        step_on later (with_lock_name (with_thread_name (on q) t) x) (number_of q.names.threads t) (number_of (on q).names.threads t) line 0 0
        (make (number_of q.names.locks x)) (make (number_of (on q).names.locks x))
        (appended_lock before r seen still known x ∙ ap (λ (s : Recording). with_lock_name s x) thread_on) thread_number
        (says later.names (on later).names (number_of q.names.locks x) ∙ ap make (new_number r.names.locks q.names.locks x)) refl

    -- one that names another thread
    other_on : (line : ℕ) (x : List ℕ) (make : ℕ → Event) → ((old new : NameTable) (n : ℕ) → renumbered_event old new (make n) ≡ make (renumbered old.threads new.threads n))
        → on (with_step (with_thread_name seen x) (step (number_of q.names.threads t) (make (number_of seen.names.threads x))) line 0)
        ≡ with_step (with_thread_name (with_thread_name (on q) t) x)
        (step (number_of (on q).names.threads t) (make (number_of (with_thread_name (on q) t).names.threads x))) (before + line) 0
    other_on line x make says =
        let later : Recording = with_thread_name seen x in
        step_on later (with_thread_name (with_thread_name (on q) t) x) (number_of q.names.threads t) (number_of (on q).names.threads t) line 0 0
        (make (number_of seen.names.threads x)) (make (number_of (with_thread_name (on q) t).names.threads x))
        (appended_thread before r seen still known x ∙ ap (λ (s : Recording). with_thread_name s x) thread_on)
        (same_number r.names.threads seen.names.threads x (number_of q.names.threads t) (below_more q.names.threads t) ∙ thread_number)
        (says later.names (on later).names (number_of seen.names.threads x)
        ∙ ap make (new_number r.names.threads seen.names.threads x ∙ ap (λ (names : List (List ℕ)). number_of names x) (with_more r.names.threads q.names.threads t))) refl

    -- once a site has appeared too
    abbrev sited : List ℕ → Recording
    sited x = with_site_name seen x

    site_on : (x : List ℕ) → on (sited x) ≡ with_site_name (with_thread_name (on q) t) x
    site_on x = appended_site before r seen still known x ∙ ap (λ (s : Recording). with_site_name s x) thread_on

    site_number_on : (x : List ℕ) → renumbered_site (sited x).names.sites (on (sited x)).names.sites (number_of q.names.sites x + 1) ≡ number_of (on q).names.sites x + 1
    site_number_on x = next_site (sited x).names.sites (on (sited x)).names.sites (number_of q.names.sites x) ∙ ap (λ (n : ℕ). n + 1) (new_number r.names.sites q.names.sites x)

    -- an access
    access_on : (line : ℕ) (k : Kind) (w : ℕ) (x : List ℕ)
        → on (with_step (sited x) (step (number_of q.names.threads t) (event.Access k w (number_of q.names.sites x + 1))) line (number_of q.names.sites x + 1))
        ≡ with_step (with_site_name (with_thread_name (on q) t) x) (step (number_of (on q).names.threads t) (event.Access k w (number_of (on q).names.sites x + 1))) (before + line)
        (number_of (on q).names.sites x + 1)
    access_on line k w x =
        step_on (sited x) (with_site_name (with_thread_name (on q) t) x) (number_of q.names.threads t) (number_of (on q).names.threads t) line
        (number_of q.names.sites x + 1) (number_of (on q).names.sites x + 1)
        (event.Access k w (number_of q.names.sites x + 1)) (event.Access k w (number_of (on q).names.sites x + 1))
        (site_on x) thread_number (ap (λ (n : ℕ). event.Access k w n) (site_number_on x)) (site_number_on x)

    operation_on : (line : ℕ) (d : Operation)
        → on (with_operation line (number_of q.names.threads t) d seen) ≡ with_operation (before + line) (number_of (on q).names.threads t) d (with_thread_name (on q) t)
    operation_on line (Acquires lock m) = lock_on line lock (λ n. event.Acquire n m) (λ old new n. refl)
    operation_on line (Releases lock m) = lock_on line lock (λ n. event.Release n m) (λ old new n. refl)
    operation_on line (Accesses k w None) = plain_on line (event.Access k w 0) refl
    operation_on line (Accesses k w (Some site)) = access_on line k w site
    operation_on line (Reuses run None) =
        reuses_on seen (with_thread_name (on q) t) (number_of q.names.threads t) (number_of (on q).names.threads t) line 0 0 (run_parts run) thread_on thread_number refl
    operation_on line (Reuses run (Some site)) =
        reuses_on (sited site) (with_site_name (with_thread_name (on q) t) site) (number_of q.names.threads t) (number_of (on q).names.threads t) line
        (number_of q.names.sites site + 1) (number_of (on q).names.sites site + 1) (run_parts run) (site_on site) thread_number (site_number_on site)
    operation_on line IgnoresOn = plain_on line event.IgnoreOn refl
    operation_on line IgnoresOff = plain_on line event.IgnoreOff refl
    operation_on line (Shows w) = plain_on line (event.Show w) refl
    operation_on line (Levels n) = plain_on line (event.Level n) refl
    operation_on line (Starts other) = other_on line other (λ n. event.Sync (order.Start n)) (λ old new n. refl)
    operation_on line (Joins other) = other_on line other (λ n. event.Sync (order.Join n)) (λ old new n. refl)
    operation_on line (Signals object) = lock_on line object (λ n. event.Sync (order.Signal n)) (λ old new n. refl)
    operation_on line (Awaits object) = lock_on line object (λ n. event.Sync (order.Await n)) (λ old new n. refl)

-- a line more of what is appended is a line more behind it
pub line_appended : (before : ℕ) (r q : Recording) (s : EventLine) (n : ℕ) → All (IsNamed q.names) q.steps → All (HasSiteName q.names) q.sites
    → appended before r (with_line n s q) ≡ with_line (before + n) s (appended before r q)
line_appended before r q s n named known = operation_on before r q named known s.thread n s.operation

-- a thread that has appeared has a number, also once another one has
thread_below : (q : Recording) (t x : List ℕ) → number_of q.names.threads t < length (with_name (with_name q.names.threads t) x)
thread_below q t x =
    let first = below_more q.names.threads t in
    let more = more_names (with_name q.names.threads t) x in
    omega (arith, first, more)

parts_named : (names : NameTable) (thread : ℕ) (parts : List PageRange) → thread < length names.threads → All (IsNamed names) (map (λ part. step thread (event.Reuse part)) parts)
parts_named names thread [] known = All-nil (IsNamed names)
parts_named names thread (part ∷ parts) known =
    All-cons (IsNamed names) (step thread (event.Reuse part)) (map (λ part. step thread (event.Reuse part)) parts) (record { thread = known; event = tt })
    (parts_named names thread parts known)

module _ (q : Recording) (named : All (IsNamed q.names) q.steps) (t : List ℕ) where
  still_named : All (IsNamed (with_thread_name q t).names) q.steps
  still_named = named_with_thread q named t

  operation_named : (line : ℕ) (d : Operation)
      → let u = with_operation line (number_of q.names.threads t) d (with_thread_name q t) in All (IsNamed u.names) u.steps
  operation_named line (Acquires lock m) =
      All-push (IsNamed _) q.steps _ (named_with_lock (with_thread_name q t) still_named lock) (record { thread = below_more q.names.threads t; event = below_more q.names.locks lock })
  operation_named line (Releases lock m) =
      All-push (IsNamed _) q.steps _ (named_with_lock (with_thread_name q t) still_named lock) (record { thread = below_more q.names.threads t; event = below_more q.names.locks lock })
  operation_named line (Accesses k w None) = All-push (IsNamed _) q.steps _ still_named (record { thread = below_more q.names.threads t; event = omega arith })
  operation_named line (Accesses k w (Some site)) =
      All-push (IsNamed _) q.steps _ (named_with_site (with_thread_name q t) still_named site)
      (record { thread = below_more q.names.threads t; event = (let less = below_more q.names.sites site in omega (arith, less)) })
  operation_named line (Reuses run None) =
      All-append (IsNamed _) q.steps _ still_named (parts_named (with_thread_name q t).names (number_of q.names.threads t) (run_parts run) (below_more q.names.threads t))
  operation_named line (Reuses run (Some site)) =
      All-append (IsNamed _) q.steps _ (named_with_site (with_thread_name q t) still_named site)
      (parts_named (with_site_name (with_thread_name q t) site).names (number_of q.names.threads t) (run_parts run) (below_more q.names.threads t))
  operation_named line IgnoresOn = All-push (IsNamed _) q.steps _ still_named (record { thread = below_more q.names.threads t; event = tt })
  operation_named line IgnoresOff = All-push (IsNamed _) q.steps _ still_named (record { thread = below_more q.names.threads t; event = tt })
  operation_named line (Shows w) = All-push (IsNamed _) q.steps _ still_named (record { thread = below_more q.names.threads t; event = tt })
  operation_named line (Levels n) = All-push (IsNamed _) q.steps _ still_named (record { thread = below_more q.names.threads t; event = tt })
  operation_named line (Starts other) =
      All-push (IsNamed _) q.steps _ (named_with_thread (with_thread_name q t) still_named other)
      (record { thread = thread_below q t other; event = below_more (with_name q.names.threads t) other })
  operation_named line (Joins other) =
      All-push (IsNamed _) q.steps _ (named_with_thread (with_thread_name q t) still_named other)
      (record { thread = thread_below q t other; event = below_more (with_name q.names.threads t) other })
  operation_named line (Signals object) =
      All-push (IsNamed _) q.steps _ (named_with_lock (with_thread_name q t) still_named object) (record { thread = below_more q.names.threads t; event = below_more q.names.locks object })
  operation_named line (Awaits object) =
      All-push (IsNamed _) q.steps _ (named_with_lock (with_thread_name q t) still_named object) (record { thread = below_more q.names.threads t; event = below_more q.names.locks object })

-- the steps of a line have names
pub line_named : (n : ℕ) (s : EventLine) (q : Recording) → All (IsNamed q.names) q.steps → All (IsNamed (with_line n s q).names) (with_line n s q).steps
line_named n s q named = operation_named q named s.thread n s.operation

-- and so have its sites
parts_known : (names : NameTable) (site : ℕ) (parts : List PageRange) → HasSiteName names site → All (HasSiteName names) (map (λ part. site) parts)
parts_known names site [] known = All-nil (HasSiteName names)
parts_known names site (part ∷ parts) known = All-cons (HasSiteName names) site (map (λ part. site) parts) known (parts_known names site parts known)

module _ (q : Recording) (known : All (HasSiteName q.names) q.sites) (t : List ℕ) where
  site_below : (x : List ℕ) → number_of q.names.sites x + 1 ≤ length (with_name q.names.sites x)
  site_below x = let less = below_more q.names.sites x in omega (arith, less)

  -- a line that names no site
  none_known : All (HasSiteName q.names) (q.sites ++ 0 ∷ [])
  none_known = All-push (HasSiteName q.names) q.sites 0 known (omega arith)

  operation_known : (line thread : ℕ) (d : Operation) → let u = with_operation line thread d (with_thread_name q t) in All (HasSiteName u.names) u.sites
  operation_known line thread (Acquires lock m) = none_known
  operation_known line thread (Releases lock m) = none_known
  operation_known line thread (Accesses k w None) = none_known
  operation_known line thread (Accesses k w (Some site)) = All-push (HasSiteName (with_site_name q site).names) q.sites _ (known_with_site q known site) (site_below site)
  operation_known line thread (Reuses run None) = All-append (HasSiteName q.names) q.sites _ known (parts_known q.names 0 (run_parts run) (omega arith))
  operation_known line thread (Reuses run (Some site)) =
      All-append (HasSiteName (with_site_name q site).names) q.sites _ (known_with_site q known site) (parts_known (with_site_name q site).names _ (run_parts run) (site_below site))
  operation_known line thread IgnoresOn = none_known
  operation_known line thread IgnoresOff = none_known
  operation_known line thread (Shows w) = none_known
  operation_known line thread (Levels n) = none_known
  operation_known line thread (Starts other) = none_known
  operation_known line thread (Joins other) = none_known
  operation_known line thread (Signals object) = none_known
  operation_known line thread (Awaits object) = none_known

pub line_sites_named : (n : ℕ) (s : EventLine) (q : Recording) → All (HasSiteName q.names) q.sites → All (HasSiteName (with_line n s q).names) (with_line n s q).sites
line_sites_named n s q known = operation_known q known s.thread n (number_of q.names.threads s.thread) s.operation

-- what is appended comes behind, and names that had numbers keep them
names_go_on : (a b : List (List ℕ)) → KeepsNumbers a (with_names a b)
names_go_on a [] = λ n x e. e
names_go_on a (y ∷ b) = λ n x e. names_go_on (with_name a y) b n x (name_goes_on a y n x e)

pub appended_grows : (before : ℕ) (r q : Recording) → Grows r (appended before r q)
appended_grows before r q = record {
  names = record {
    threads = names_go_on r.names.threads q.names.threads;
    locks = names_go_on r.names.locks q.names.locks;
    sites = names_go_on r.names.sites q.names.sites;
  };
  more = map (renumbered_step q.names (with_table r.names q.names)) q.steps;
  others = map (λ line. before + line) q.lines;
  named = map (renumbered_site q.names.sites (with_names r.names.sites q.names.sites)) q.sites;
  steps = refl;
  lines = refl;
  sites = refl;
}
