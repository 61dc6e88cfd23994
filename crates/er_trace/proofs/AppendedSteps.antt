-- Steps of an appended recording: their new numbers have names, and stay as they are once more names have appeared.
use Rattle.std.proofs.Common.{◌≡◌, ℕ, zero, suc, ◌+◌, ◌<◌, ◌≤◌, List, [], ◌∷◌, ◌++◌, map, length, append_assoc, append-nil, refl, ap, ◌∙◌, arith}
use Rattle.std.specs.List.{All, AllByRecursion}
use Rattle.std.proofs.lemmas.List.{map-append}
use Rattle.std.proofs.lemmas.List.Elements.{All-map, All-weaker, recursion_from_All}
use Rattle.er_event.specs.declared.steps.Event.{Event}
use Rattle.er_event.specs.declared.steps.Event.TheVariants.{Acquire, Release, Access, Reuse, IgnoreOn, IgnoreOff, Show, Level, Sync}
use Rattle.er_event.specs.declared.steps.Step.{Step}
use Rattle.er_event.specs.declared.steps.Sync.{Sync as Order}
use Rattle.er_event.specs.declared.steps.Sync.TheVariants.{Start, Join, Signal, Await}
use Rattle.er_trace.specs.Names.{NameTable}
use Rattle.er_trace.specs.Trace.{Recording, no_steps, HasOrderNames, HasNames, IsNamed, HasSiteName, with_steps, with_thread_name, with_lock_name, with_site_name}
use Rattle.er_trace.specs.Appended.{HasAll, with_names, with_table, renumbered, renumbered_site, renumbered_order, renumbered_event, renumbered_step, appended}
use Rattle.er_trace.proofs.AppendedLemmas.{with_more, renumbered_below, same_number, more_names, all_more}

-- new numbers have names
site_below : (a b : List (List ℕ)) (site : ℕ) → site ≤ length b → renumbered_site b (with_names a b) site ≤ length (with_names a b)
site_below a b zero below = omega arith
site_below a b (suc n) below = let less = renumbered_below a b n (omega (arith, below)) in omega (arith, less)

order_named : (a b : NameTable) (o : Order) → HasOrderNames b o → HasOrderNames (with_table a b) (renumbered_order b (with_table a b) o)
order_named a b (Start thread) is = renumbered_below a.threads b.threads thread is
order_named a b (Join thread) is = renumbered_below a.threads b.threads thread is
order_named a b (Signal object) is = renumbered_below a.locks b.locks object is
order_named a b (Await object) is = renumbered_below a.locks b.locks object is

event_named : (a b : NameTable) (e : Event) → HasNames b e → HasNames (with_table a b) (renumbered_event b (with_table a b) e)
event_named a b (Acquire lock mode) is = renumbered_below a.locks b.locks lock is
event_named a b (Release lock mode) is = renumbered_below a.locks b.locks lock is
event_named a b (Access kind word site) is = site_below a.sites b.sites site is
event_named a b (Reuse range) is = tt
event_named a b IgnoreOn is = tt
event_named a b IgnoreOff is = tt
event_named a b (Show word) is = tt
event_named a b (Level level) is = tt
event_named a b (Sync sync) is = order_named a b sync is

step_named : (a b : NameTable) (s : Step) → IsNamed b s → IsNamed (with_table a b) (renumbered_step b (with_table a b) s)
step_named a b s is = record { thread = renumbered_below a.threads b.threads s.thread is.thread; event = event_named a b s.event is.event }

-- what has a number keeps its new number from one pair of names to another
abbrev Same : List (List ℕ) → List (List ℕ) → List (List ℕ) → List (List ℕ) → Type 0
Same old new later newer = (n : ℕ) → n < length old → renumbered later newer n ≡ renumbered old new n

record AllSame (old new later newer : NameTable) : Type 0 where
  threads : Same old.threads new.threads later.threads newer.threads
  locks : Same old.locks new.locks later.locks newer.locks
  sites : Same old.sites new.sites later.sites newer.sites

module _ (old new later newer : NameTable) (same : AllSame old new later newer) where
  same_site : (site : ℕ) → site ≤ length old.sites → renumbered_site later.sites newer.sites site ≡ renumbered_site old.sites new.sites site
  same_site zero below = refl
  same_site (suc n) below = ap (λ k. k + 1) (same.sites n (omega (arith, below)))

  same_order : (o : Order) → HasOrderNames old o → renumbered_order later newer o ≡ renumbered_order old new o
  same_order (Start thread) is = ap Start (same.threads thread is)
  same_order (Join thread) is = ap Join (same.threads thread is)
  same_order (Signal object) is = ap Signal (same.locks object is)
  same_order (Await object) is = ap Await (same.locks object is)

  same_event : (e : Event) → HasNames old e → renumbered_event later newer e ≡ renumbered_event old new e
  same_event (Acquire lock mode) is = ap (λ n. Acquire n mode) (same.locks lock is)
  same_event (Release lock mode) is = ap (λ n. Release n mode) (same.locks lock is)
  same_event (Access kind word site) is = ap (λ n. Access kind word n) (same_site site is)
  same_event (Reuse range) is = refl
  same_event IgnoreOn is = refl
  same_event IgnoreOff is = refl
  same_event (Show word) is = refl
  same_event (Level level) is = refl
  same_event (Sync sync) is = ap Sync (same_order sync is)

  same_step : (s : Step) → IsNamed old s → renumbered_step later newer s ≡ renumbered_step old new s
  same_step s is =
      ap (λ (n : ℕ). record { thread = n; event = renumbered_event later newer s.event }) (same.threads s.thread is.thread)
      ∙ ap (λ (e : Event). record { thread = renumbered old.threads new.threads s.thread; event = e }) (same_event s.event is.event)

  same_steps : (steps : List Step) → AllByRecursion (IsNamed old) steps → map (renumbered_step later newer) steps ≡ map (renumbered_step old new) steps
  same_steps [] all = refl
  same_steps (s ∷ steps) all =
      ap (λ (t : Step). t ∷ map (renumbered_step later newer) steps) (same_step s all.0)
      ∙ ap (λ (ts : List Step). renumbered_step old new s ∷ ts) (same_steps steps all.1)

  same_sites : (sites : List ℕ) → AllByRecursion (HasSiteName old) sites → map (renumbered_site later.sites newer.sites) sites ≡ map (renumbered_site old.sites new.sites) sites
  same_sites [] all = refl
  same_sites (site ∷ sites) all =
      ap (λ (n : ℕ). n ∷ map (renumbered_site later.sites newer.sites) sites) (same_site site all.0)
      ∙ ap (λ (ns : List ℕ). renumbered_site old.sites new.sites site ∷ ns) (same_sites sites all.1)

-- recordings with the same lines
abbrev parts : List Step → List ℕ → List ℕ → NameTable → Recording
parts steps lines sites names = record { steps = steps; lines = lines; sites = sites; names = names }

same_parts : (steps more : List Step) (lines sites others : List ℕ) (names later : NameTable)
    → steps ≡ more → sites ≡ others → names ≡ later → parts steps lines sites names ≡ parts more lines others later
same_parts steps more lines sites others names later e f g =
    ap (λ (s : List Step). parts s lines sites names) e ∙ ap (λ (ns : List ℕ). parts more lines ns names) f ∙ ap (λ (n : NameTable). parts more lines others n) g

module _ (before : ℕ) (r q : Recording) (named : All (IsNamed q.names) q.steps) (known : All (HasSiteName q.names) q.sites) (x : List ℕ) where
  all : AllByRecursion (IsNamed q.names) q.steps
  all = recursion_from_All (IsNamed q.names) q.steps named

  all_sites : AllByRecursion (HasSiteName q.names) q.sites
  all_sites = recursion_from_All (HasSiteName q.names) q.sites known

  -- one more name of each sort
  pub appended_thread : appended before r (with_thread_name q x) ≡ with_thread_name (appended before r q) x
  appended_thread =
      let later : NameTable = (with_thread_name q x).names in
      let same : AllSame q.names (with_table r.names q.names) later (with_table r.names later) =
      record { threads = λ n below. same_number r.names.threads q.names.threads x n below; locks = λ n below. refl; sites = λ n below. refl } in
      same_parts _ _ _ _ _ _ _ (ap (λ (s : List Step). r.steps ++ s) (same_steps q.names (with_table r.names q.names) later (with_table r.names later) same q.steps all))
      (ap (λ (ns : List ℕ). r.sites ++ ns) (same_sites q.names (with_table r.names q.names) later (with_table r.names later) same q.sites all_sites))
      (ap (λ (names : List (List ℕ)). record (with_table r.names q.names) { threads = names }) (with_more r.names.threads q.names.threads x))

  pub appended_lock : appended before r (with_lock_name q x) ≡ with_lock_name (appended before r q) x
  appended_lock =
      let later : NameTable = (with_lock_name q x).names in
      let same : AllSame q.names (with_table r.names q.names) later (with_table r.names later) =
      record { threads = λ n below. refl; locks = λ n below. same_number r.names.locks q.names.locks x n below; sites = λ n below. refl } in
      same_parts _ _ _ _ _ _ _ (ap (λ (s : List Step). r.steps ++ s) (same_steps q.names (with_table r.names q.names) later (with_table r.names later) same q.steps all))
      (ap (λ (ns : List ℕ). r.sites ++ ns) (same_sites q.names (with_table r.names q.names) later (with_table r.names later) same q.sites all_sites))
      (ap (λ (names : List (List ℕ)). record (with_table r.names q.names) { locks = names }) (with_more r.names.locks q.names.locks x))

  pub appended_site : appended before r (with_site_name q x) ≡ with_site_name (appended before r q) x
  appended_site =
      let later : NameTable = (with_site_name q x).names in
      let same : AllSame q.names (with_table r.names q.names) later (with_table r.names later) =
      record { threads = λ n below. refl; locks = λ n below. refl; sites = λ n below. same_number r.names.sites q.names.sites x n below } in
      same_parts _ _ _ _ _ _ _ (ap (λ (s : List Step). r.steps ++ s) (same_steps q.names (with_table r.names q.names) later (with_table r.names later) same q.steps all))
      (ap (λ (ns : List ℕ). r.sites ++ ns) (same_sites q.names (with_table r.names q.names) later (with_table r.names later) same q.sites all_sites))
      (ap (λ (names : List (List ℕ)). record (with_table r.names q.names) { sites = names }) (with_more r.names.sites q.names.sites x))

-- and more steps, which have names there
pub appended_steps : (before : ℕ) (r q : Recording) (steps : List Step) (lines sites : List ℕ)
    → appended before r (with_steps q steps lines sites)
    ≡ with_steps (appended before r q) (map (renumbered_step q.names (with_table r.names q.names)) steps) (map (λ line. before + line) lines)
    (map (renumbered_site q.names.sites (with_names r.names.sites q.names.sites)) sites)
appended_steps before r q steps lines sites =
    let f : Step → Step = renumbered_step q.names (with_table r.names q.names) in
    let g : ℕ → ℕ = λ line. before + line in
    let h : ℕ → ℕ = renumbered_site q.names.sites (with_names r.names.sites q.names.sites) in
    rw (
      map-append f q.steps steps,
      map-append g q.lines lines,
      map-append h q.sites sites,
      append_assoc r.steps (map f q.steps) (map f steps),
      append_assoc r.lines (map g q.lines) (map g lines),
      append_assoc r.sites (map h q.sites) (map h sites),
    ) refl

-- nothing to append
pub nothing_appended : (before : ℕ) (r : Recording) (kept : NameTable) → HasAll r.names kept → appended before r (record no_steps { names = kept }) ≡ r
nothing_appended before r kept has =
    ap (λ (names : NameTable). record { steps = r.steps ++ []; lines = r.lines ++ []; sites = r.sites ++ []; names = names }) has
    ∙ rw (append-nil r.steps, append-nil r.lines, append-nil r.sites) refl

-- steps that have names keep them once another one has appeared
order_still : (b c : NameTable) (o : Order) → length b.threads ≤ length c.threads → length b.locks ≤ length c.locks → HasOrderNames b o → HasOrderNames c o
order_still b c (Start thread) threads locks is = omega (arith, threads, is)
order_still b c (Join thread) threads locks is = omega (arith, threads, is)
order_still b c (Signal object) threads locks is = omega (arith, locks, is)
order_still b c (Await object) threads locks is = omega (arith, locks, is)

event_still : (b c : NameTable) (e : Event) → length b.threads ≤ length c.threads → length b.locks ≤ length c.locks → length b.sites ≤ length c.sites → HasNames b e → HasNames c e
event_still b c (Acquire lock mode) threads locks sites is = omega (arith, locks, is)
event_still b c (Release lock mode) threads locks sites is = omega (arith, locks, is)
event_still b c (Access kind word site) threads locks sites is = omega (arith, sites, is)
event_still b c (Reuse range) threads locks sites is = tt
event_still b c IgnoreOn threads locks sites is = tt
event_still b c IgnoreOff threads locks sites is = tt
event_still b c (Show word) threads locks sites is = tt
event_still b c (Level level) threads locks sites is = tt
event_still b c (Sync sync) threads locks sites is = order_still b c sync threads locks is

steps_still : (b c : NameTable) (steps : List Step) → length b.threads ≤ length c.threads → length b.locks ≤ length c.locks → length b.sites ≤ length c.sites → All (IsNamed b) steps
    → All (IsNamed c) steps
steps_still b c steps threads locks sites all =
    let one : (s : Step) → IsNamed b s → IsNamed c s = λ s is. record {
      thread = (let less = is.thread in omega (arith, threads, less));
      event = event_still b c s.event threads locks sites is.event;
    } in
    All-weaker (IsNamed b) (IsNamed c) one steps all

-- and so do sites
sites_still : (b c : NameTable) (sites : List ℕ) → length b.sites ≤ length c.sites → All (HasSiteName b) sites → All (HasSiteName c) sites
sites_still b c sites more all = All-weaker (HasSiteName b) (HasSiteName c) (λ n is. omega (arith, more, is)) sites all

pub known_with_site : (q : Recording) (known : All (HasSiteName q.names) q.sites) (x : List ℕ) → All (HasSiteName (with_site_name q x).names) q.sites
known_with_site q known x = sites_still q.names (with_site_name q x).names q.sites (more_names q.names.sites x) known

module _ (q : Recording) (named : All (IsNamed q.names) q.steps) (x : List ℕ) where
  pub named_with_thread : All (IsNamed (with_thread_name q x).names) q.steps
  named_with_thread = steps_still q.names (with_thread_name q x).names q.steps (more_names q.names.threads x) (omega arith) (omega arith) named

  pub named_with_lock : All (IsNamed (with_lock_name q x).names) q.steps
  named_with_lock = steps_still q.names (with_lock_name q x).names q.steps (omega arith) (more_names q.names.locks x) (omega arith) named

  pub named_with_site : All (IsNamed (with_site_name q x).names) q.steps
  named_with_site = steps_still q.names (with_site_name q x).names q.steps (omega arith) (omega arith) (more_names q.names.sites x) named

-- steps keep their names once those of another trace have come behind
pub still_named : (a b : NameTable) (steps : List Step) → All (IsNamed a) steps → All (IsNamed (with_table a b)) steps
still_named a b steps named = steps_still a (with_table a b) steps (all_more a.threads b.threads) (all_more a.locks b.locks) (all_more a.sites b.sites) named

-- and the steps of that trace have names by their new numbers
pub new_named : (a b : NameTable) (steps : List Step) → All (IsNamed b) steps → All (IsNamed (with_table a b)) (map (renumbered_step b (with_table a b)) steps)
new_named a b steps named =
    let P : Step → Type 0 = λ s. IsNamed (with_table a b) (renumbered_step b (with_table a b) s) in
    All-map (IsNamed (with_table a b)) (renumbered_step b (with_table a b)) steps (All-weaker (IsNamed b) P (step_named a b) steps named)

-- and the same of sites
pub sites_still_named : (a b : NameTable) (sites : List ℕ) → All (HasSiteName a) sites → All (HasSiteName (with_table a b)) sites
sites_still_named a b sites named = sites_still a (with_table a b) sites (all_more a.sites b.sites) named

pub new_sites_named : (a b : NameTable) (sites : List ℕ) → All (HasSiteName b) sites → All (HasSiteName (with_table a b)) (map (renumbered_site b.sites (with_names a.sites b.sites)) sites)
new_sites_named a b sites named =
    let P : ℕ → Type 0 = λ n. HasSiteName (with_table a b) (renumbered_site b.sites (with_names a.sites b.sites) n) in
    All-map (HasSiteName (with_table a b)) (renumbered_site b.sites (with_names a.sites b.sites)) sites (All-weaker (HasSiteName b) P (site_below a.sites b.sites) sites named)
