-- Numbers keep their names as a trace grows, and a new number has the name that was read.
use Rattle.std.proofs.Common.{◌≡◌, ℕ, zero, suc, ◌+◌, ◌-◌, Bool, true, false, not, ◌||◌, cond, List, [], ◌∷◌, ◌++◌, map, Option, Some, None, refl, subst, sym, ap, arith}
use Rattle.std.specs.List.{Contains, slice_get, list_any, position_or_len}
use Rattle.std.specs.Str.{bytes_eq}
use Rattle.er_trace.specs.Names.{NameTable, is_known, number_of, with_name}
use Rattle.er_event.specs.Span.{Span}
use Rattle.er_trace.specs.Trace.{Recording, no_steps, with_thread_name}
use Rattle.er_event.specs.declared.addresses.PageRange.{PageRange}
use Rattle.er_event.specs.declared.steps.Event.{Event}
use Rattle.er_event.specs.declared.steps.Event.TheVariants as event
use Rattle.er_event.specs.declared.steps.Step.{Step}
use Rattle.er_event.specs.declared.steps.Sync.{Sync as Order}
use Rattle.er_event.specs.declared.steps.Sync.TheVariants as order
use Rattle.er_text.specs.declared.verbs.Version.{Version}
use Rattle.er_lines.specs.Lines.{Placed, words}
use Rattle.er_text.specs.Events.{EventLine, Operation, Acquires, Releases, Accesses, Reuses, IgnoresOn, IgnoresOff, Shows, Levels, Starts, Joins, Signals, Awaits, run_parts, with_operation, with_line}
use Rattle.er_text.specs.Trace.{Says, AllSay, with_lines, IsTrace}
use Rattle.er_text.specs.Named.{KeepsNumbers, KeepsNames, IsSiteNumber, Does, site_named, AreNamed}
use Rattle.er_lines.proofs.SpelledLemmas.{equal}

kept : {X : Type 0} (xs ys : List X) (n : ℕ) (x : X) → slice_get xs n ≡ Some x → slice_get (xs ++ ys) n ≡ Some x
kept [] ys n x e = absurd (cc)
kept (y ∷ xs) ys zero x e = e
kept (y ∷ xs) ys (suc n) x e = kept xs ys n x e

known_step : (name x : List ℕ) (names : List (List ℕ)) (b : Bool) → bytes_eq name x ≡ b
    → (list_any (bytes_eq name) names ≡ true → slice_get names (position_or_len (bytes_eq name) names) ≡ Some name)
    → (b || list_any (bytes_eq name) names) ≡ true → slice_get (x ∷ names) (cond (not b) (1 + position_or_len (bytes_eq name) names) 0) ≡ Some name
known_step name x names true is more e = ap Some (sym (equal name x is))
known_step name x names false is more e =
    let one : 1 + position_or_len (bytes_eq name) names ≡ suc (position_or_len (bytes_eq name) names) = omega arith in
    rw one (more e)

known_named : (name : List ℕ) (names : List (List ℕ)) → list_any (bytes_eq name) names ≡ true → slice_get names (position_or_len (bytes_eq name) names) ≡ Some name
known_named name [] e = absurd (cc)
known_named name (x ∷ names) e = known_step name x names (bytes_eq name x) refl (known_named name names) e

new_step : (name x : List ℕ) (names : List (List ℕ)) (b : Bool)
    → (list_any (bytes_eq name) names ≡ false → slice_get (names ++ name ∷ []) (position_or_len (bytes_eq name) names) ≡ Some name)
    → (b || list_any (bytes_eq name) names) ≡ false → slice_get (x ∷ names ++ name ∷ []) (cond (not b) (1 + position_or_len (bytes_eq name) names) 0) ≡ Some name
new_step name x names true more e = absurd (cc)
new_step name x names false more e =
    let one : 1 + position_or_len (bytes_eq name) names ≡ suc (position_or_len (bytes_eq name) names) = omega arith in
    rw one (more e)

new_named : (name : List ℕ) (names : List (List ℕ)) → list_any (bytes_eq name) names ≡ false → slice_get (names ++ name ∷ []) (position_or_len (bytes_eq name) names) ≡ Some name
new_named name [] e = refl
new_named name (x ∷ names) e = new_step name x names (bytes_eq name x) (new_named name names) e

numbered : (names : List (List ℕ)) (name : List ℕ) (b : Bool) → is_known names name ≡ b → slice_get (cond b names (names ++ name ∷ [])) (number_of names name) ≡ Some name
numbered names name true e = known_named name names e
numbered names name false e = new_named name names e

-- a name that was read stands at its number
name_there : (names : List (List ℕ)) (name : List ℕ) → slice_get (with_name names name) (number_of names name) ≡ Some name
name_there names name = numbered names name (is_known names name) refl

goes_on : (names : List (List ℕ)) (name : List ℕ) (b : Bool) → KeepsNumbers names (cond b names (names ++ name ∷ []))
goes_on names name true = λ n x e. e
goes_on names name false = λ n x e. kept names (name ∷ []) n x e

pub name_goes_on : (names : List (List ℕ)) (name : List ℕ) → KeepsNumbers names (with_name names name)
name_goes_on names name = goes_on names name (is_known names name)

site_kept : (old new : List (List ℕ)) (n : ℕ) (site : Option (List ℕ)) → KeepsNumbers old new → IsSiteNumber old n site → IsSiteNumber new n site
site_kept old new n None on is = is
site_kept old new n (Some site) on is = (is.0, on (n - 1) site is.1)

does_kept : (old new : NameTable) (d : Operation) (e : Event) → KeepsNames old new → Does old d e → Does new d e
does_kept old new (Acquires lock m) e on is = (is.0, is.1, on.locks is.0 lock is.2)
does_kept old new (Releases lock m) e on is = (is.0, is.1, on.locks is.0 lock is.2)
does_kept old new (Accesses k w site) e on is = (is.0, is.1, site_kept old.sites new.sites is.0 site on.sites is.2)
does_kept old new (Reuses run site) e on is = is
does_kept old new IgnoresOn e on is = is
does_kept old new IgnoresOff e on is = is
does_kept old new (Shows w) e on is = is
does_kept old new (Levels n) e on is = is
does_kept old new (Starts other) e on is = (is.0, is.1, on.threads is.0 other is.2)
does_kept old new (Joins other) e on is = (is.0, is.1, on.threads is.0 other is.2)
does_kept old new (Signals object) e on is = (is.0, is.1, on.locks is.0 object is.2)
does_kept old new (Awaits object) e on is = (is.0, is.1, on.locks is.0 object is.2)

named_kept : (v : Version) (events : List Placed) (old new : NameTable) (steps : List Step) (lines sites : List ℕ) → KeepsNames old new → AreNamed v events old steps lines sites
    → AreNamed v events new steps lines sites
named_kept v events old new [] [] [] on are = tt
named_kept v events old new [] [] (site ∷ sites) on are = absurd are
named_kept v events old new [] (line ∷ lines) sites on are = absurd are
named_kept v events old new (step ∷ steps) [] sites on are = absurd are
named_kept v events old new (step ∷ steps) (line ∷ lines) [] on are = absurd are
named_kept v events old new (step ∷ steps) (line ∷ lines) (site ∷ sites) on are =
    let told = are.0.3 in (
      (
        are.0.0,
        are.0.1,
        are.0.2,
        record {
          event_line = told.event_line;
          says = told.says;
          thread = on.threads step.thread told.event_line.thread told.thread;
          does = does_kept old new told.event_line.operation step.event on told.does;
          site = site_kept old.sites new.sites site (site_named told.event_line.operation) on.sites told.site;
        },
      ),
      named_kept v events old new steps lines sites on are.1,
    )

both_named : (v : Version) (events : List Placed) (names : NameTable) (steps more : List Step) (lines others sites behind : List ℕ) → AreNamed v events names steps lines sites
    → AreNamed v events names more others behind → AreNamed v events names (steps ++ more) (lines ++ others) (sites ++ behind)
both_named v events names [] more [] others [] behind are also = also
both_named v events names [] more [] others (site ∷ sites) behind are also = absurd are
both_named v events names [] more (line ∷ lines) others sites behind are also = absurd are
both_named v events names (step ∷ steps) more [] others sites behind are also = absurd are
both_named v events names (step ∷ steps) more (line ∷ lines) others [] behind are also = absurd are
both_named v events names (step ∷ steps) more (line ∷ lines) others (site ∷ sites) behind are also = (are.0, both_named v events names steps more lines others sites behind are.1 also)

first_there : {X : Type 0} (x : X) (xs : List X) → Contains (x ∷ xs) x
first_there x xs = (0, omega arith, refl)

later_there : {X : Type 0} (x y : X) (xs : List X) → Contains xs y → Contains (x ∷ xs) y
later_there x y xs is = (suc is.0, (let within = is.1 in omega (arith, within)), is.2)

-- the steps of the pages of a run
parts_named : (v : Version) (events : List Placed) (names : NameTable) (p : Placed) (s : EventLine) (run : Option Span) (site : Option (List ℕ)) (thread n : ℕ) (parts : List PageRange)
    → Contains events p → Says v (words p.line.bytes) s → s.operation ≡ Reuses run site → slice_get names.threads thread ≡ Some s.thread → IsSiteNumber names.sites n site
    → ((part : PageRange) → Contains parts part → Contains (run_parts run) part)
    → AreNamed v events names (map (λ part. record { thread = thread; event = event.Reuse part }) parts) (map (λ part. p.number) parts) (map (λ part. n) parts)
parts_named v events names p s run site thread n [] there says operation named at among = tt
parts_named v events names p s run site thread n (part ∷ parts) there says operation named at among =
    let does : Does names s.operation (event.Reuse part) = rw operation (part, refl, among part (first_there part parts)) in (
      (p, there, refl, record { event_line = s; says = says; thread = named; does = does; site = rw operation at }),
      parts_named v events names p s run site thread n parts there says operation named at (λ q is. among q (later_there part q parts is)),
    )

-- all of them behind the steps before
reuse_named : (v : Version) (events : List Placed) (r : Recording) (names : NameTable) (p : Placed) (s : EventLine) (run : Option Span) (site : Option (List ℕ)) (thread n : ℕ)
    → Contains events p → Says v (words p.line.bytes) s → s.operation ≡ Reuses run site → KeepsNames r.names names → slice_get names.threads thread ≡ Some s.thread
    → IsSiteNumber names.sites n site → AreNamed v events r.names r.steps r.lines r.sites
    → AreNamed v events names (r.steps ++ map (λ part. record { thread = thread; event = event.Reuse part }) (run_parts run)) (r.lines ++ map (λ part. p.number) (run_parts run))
    (r.sites ++ map (λ part. n) (run_parts run))
reuse_named v events r names p s run site thread n there says operation on named at are =
    both_named v events names r.steps _ r.lines _ r.sites _ (named_kept v events r.names names r.steps r.lines r.sites on are)
    (parts_named v events names p s run site thread n (run_parts run) there says operation named at (λ part is. is))

-- one step more
step_named : (v : Version) (events : List Placed) (r : Recording) (names : NameTable) (p : Placed) (s : EventLine) (step : Step) (n : ℕ) → Contains events p → Says v (words p.line.bytes) s
    → KeepsNames r.names names → slice_get names.threads step.thread ≡ Some s.thread → Does names s.operation step.event → IsSiteNumber names.sites n (site_named s.operation)
    → AreNamed v events r.names r.steps r.lines r.sites → AreNamed v events names (r.steps ++ step ∷ []) (r.lines ++ p.number ∷ []) (r.sites ++ n ∷ [])
step_named v events r names p s step n there says on thread does at are =
    both_named v events names r.steps (step ∷ []) r.lines (p.number ∷ []) r.sites (n ∷ []) (named_kept v events r.names names r.steps r.lines r.sites on are)
    ((p, there, refl, record { event_line = s; says = says; thread = thread; does = does; site = at }), tt)

pub thread_on : (r : Recording) (name : List ℕ) → KeepsNames r.names (with_thread_name r name).names
thread_on r name = record { threads = name_goes_on r.names.threads name; locks = λ n x e. e; sites = λ n x e. e }

site_does : (sites : List (List ℕ)) (site : List ℕ) → IsSiteNumber (with_name sites site) (number_of sites site + 1) (Some site)
site_does sites site =
    let back : number_of sites site + 1 - 1 ≡ number_of sites site = omega arith in
    (omega arith, rw back (name_there sites site))

-- the names once a thread and another one have appeared
abbrev with_threads : NameTable → List ℕ → List ℕ → NameTable
with_threads names thread other = record names { threads = with_name (with_name names.threads thread) other }

-- a start or a join
other_named : (v : Version) (events : List Placed) (r : Recording) (p : Placed) (s : EventLine) (other : List ℕ) (f : ℕ → Order) → Contains events p → Says v (words p.line.bytes) s
    → AreNamed v events r.names r.steps r.lines r.sites
    → Does (with_threads r.names s.thread other) s.operation (event.Sync (f (number_of (with_name r.names.threads s.thread) other))) → site_named s.operation ≡ None
    → AreNamed v events (with_threads r.names s.thread other)
    (r.steps ++ record { thread = number_of r.names.threads s.thread; event = event.Sync (f (number_of (with_name r.names.threads s.thread) other)) } ∷ []) (r.lines ++ p.number ∷ []) (r.sites ++ 0 ∷ [])
other_named v events r p s other f there says are does none =
    let names = with_threads r.names s.thread other in
    let on = name_goes_on (with_name r.names.threads s.thread) other in
    step_named v events r names p s (record { thread = number_of r.names.threads s.thread; event = event.Sync (f (number_of (with_name r.names.threads s.thread) other)) }) 0 there says
    (record { threads = λ n x e. on n x (name_goes_on r.names.threads s.thread n x e); locks = λ n x e. e; sites = λ n x e. e })
    (on (number_of r.names.threads s.thread) s.thread (name_there r.names.threads s.thread)) does (rw none refl) are

-- the names once a thread and an object have appeared
abbrev with_object : NameTable → List ℕ → List ℕ → NameTable
with_object names thread object = record { threads = with_name names.threads thread; locks = with_name names.locks object; sites = names.sites }

-- a signal or an await
object_named : (v : Version) (events : List Placed) (r : Recording) (p : Placed) (s : EventLine) (object : List ℕ) (f : ℕ → Order) → Contains events p → Says v (words p.line.bytes) s
    → AreNamed v events r.names r.steps r.lines r.sites → Does (with_object r.names s.thread object) s.operation (event.Sync (f (number_of r.names.locks object))) → site_named s.operation ≡ None
    → AreNamed v events (with_object r.names s.thread object)
    (r.steps ++ record { thread = number_of r.names.threads s.thread; event = event.Sync (f (number_of r.names.locks object)) } ∷ []) (r.lines ++ p.number ∷ []) (r.sites ++ 0 ∷ [])
object_named v events r p s object f there says are does none =
    step_named v events r (with_object r.names s.thread object) p s (record { thread = number_of r.names.threads s.thread; event = event.Sync (f (number_of r.names.locks object)) }) 0 there says
    (record { threads = name_goes_on r.names.threads s.thread; locks = name_goes_on r.names.locks object; sites = λ n x e. e })
    (name_there r.names.threads s.thread) does (rw none refl) are

-- what one event line tells
operation_named : (v : Version) (events : List Placed) (r : Recording) (p : Placed) (s : EventLine) (d : Operation) → Contains events p → Says v (words p.line.bytes) s → s.operation ≡ d
    → AreNamed v events r.names r.steps r.lines r.sites
    → let t = with_operation p.number (number_of r.names.threads s.thread) d (with_thread_name r s.thread) in AreNamed v events t.names t.steps t.lines t.sites
operation_named v events r p s (Acquires lock m) there says operation are =
    let names : NameTable = record { threads = with_name r.names.threads s.thread; locks = with_name r.names.locks lock; sites = r.names.sites } in
    step_named v events r names p s (record { thread = number_of r.names.threads s.thread; event = event.Acquire (number_of r.names.locks lock) m }) 0 there says
    (record { threads = name_goes_on r.names.threads s.thread; locks = name_goes_on r.names.locks lock; sites = λ n x e. e })
    (name_there r.names.threads s.thread) (rw operation (number_of r.names.locks lock, refl, name_there r.names.locks lock)) (rw operation refl) are
operation_named v events r p s (Releases lock m) there says operation are =
    let names : NameTable = record { threads = with_name r.names.threads s.thread; locks = with_name r.names.locks lock; sites = r.names.sites } in
    step_named v events r names p s (record { thread = number_of r.names.threads s.thread; event = event.Release (number_of r.names.locks lock) m }) 0 there says
    (record { threads = name_goes_on r.names.threads s.thread; locks = name_goes_on r.names.locks lock; sites = λ n x e. e })
    (name_there r.names.threads s.thread) (rw operation (number_of r.names.locks lock, refl, name_there r.names.locks lock)) (rw operation refl) are
operation_named v events r p s (Accesses k w None) there says operation are =
    step_named v events r (with_thread_name r s.thread).names p s (record { thread = number_of r.names.threads s.thread; event = event.Access k w 0 }) 0 there says
    (thread_on r s.thread) (name_there r.names.threads s.thread) (rw operation (0, refl, refl)) (rw operation refl) are
operation_named v events r p s (Accesses k w (Some site)) there says operation are =
    let names : NameTable = record { threads = with_name r.names.threads s.thread; locks = r.names.locks; sites = with_name r.names.sites site } in
    step_named v events r names p s (record { thread = number_of r.names.threads s.thread; event = event.Access k w (number_of r.names.sites site + 1) }) (number_of r.names.sites site + 1) there says
    (record { threads = name_goes_on r.names.threads s.thread; locks = λ n x e. e; sites = name_goes_on r.names.sites site })
    (name_there r.names.threads s.thread) (rw operation (number_of r.names.sites site + 1, refl, site_does r.names.sites site)) (rw operation (site_does r.names.sites site)) are
operation_named v events r p s (Reuses run None) there says operation are =
    reuse_named v events r (with_thread_name r s.thread).names p s run None (number_of r.names.threads s.thread) 0 there says operation (thread_on r s.thread)
    (name_there r.names.threads s.thread) refl are
operation_named v events r p s (Reuses run (Some site)) there says operation are =
    let names : NameTable = record { threads = with_name r.names.threads s.thread; locks = r.names.locks; sites = with_name r.names.sites site } in
    reuse_named v events r names p s run (Some site) (number_of r.names.threads s.thread) (number_of r.names.sites site + 1) there says operation
    (record { threads = name_goes_on r.names.threads s.thread; locks = λ n x e. e; sites = name_goes_on r.names.sites site })
    (name_there r.names.threads s.thread) (site_does r.names.sites site) are
operation_named v events r p s IgnoresOn there says operation are =
    step_named v events r (with_thread_name r s.thread).names p s (record { thread = number_of r.names.threads s.thread; event = event.IgnoreOn }) 0 there says
    (thread_on r s.thread) (name_there r.names.threads s.thread) (rw operation refl) (rw operation refl) are
operation_named v events r p s IgnoresOff there says operation are =
    step_named v events r (with_thread_name r s.thread).names p s (record { thread = number_of r.names.threads s.thread; event = event.IgnoreOff }) 0 there says
    (thread_on r s.thread) (name_there r.names.threads s.thread) (rw operation refl) (rw operation refl) are
operation_named v events r p s (Shows w) there says operation are =
    step_named v events r (with_thread_name r s.thread).names p s (record { thread = number_of r.names.threads s.thread; event = event.Show w }) 0 there says
    (thread_on r s.thread) (name_there r.names.threads s.thread) (rw operation refl) (rw operation refl) are
operation_named v events r p s (Levels n) there says operation are =
    step_named v events r (with_thread_name r s.thread).names p s (record { thread = number_of r.names.threads s.thread; event = event.Level n }) 0 there says
    (thread_on r s.thread) (name_there r.names.threads s.thread) (rw operation refl) (rw operation refl) are
operation_named v events r p s (Starts other) there says operation are =
    other_named v events r p s other order.Start there says are (rw operation (number_of (with_name r.names.threads s.thread) other, refl, name_there (with_name r.names.threads s.thread) other)) (rw operation refl)
operation_named v events r p s (Joins other) there says operation are =
    other_named v events r p s other order.Join there says are (rw operation (number_of (with_name r.names.threads s.thread) other, refl, name_there (with_name r.names.threads s.thread) other)) (rw operation refl)
operation_named v events r p s (Signals object) there says operation are =
    object_named v events r p s object order.Signal there says are (rw operation (number_of r.names.locks object, refl, name_there r.names.locks object)) (rw operation refl)
operation_named v events r p s (Awaits object) there says operation are =
    object_named v events r p s object order.Await there says are (rw operation (number_of r.names.locks object, refl, name_there r.names.locks object)) (rw operation refl)

all_named : (v : Version) (events lines : List Placed) (event_lines : List EventLine) (r : Recording) → AllSay v lines event_lines → ((p : Placed) → Contains lines p → Contains events p)
    → AreNamed v events r.names r.steps r.lines r.sites
    → let t = with_lines lines event_lines r in AreNamed v events t.names t.steps t.lines t.sites
all_named v events [] [] r says among are = are
all_named v events [] (s ∷ ss) r says among are = absurd says
all_named v events (p ∷ ps) [] r says among are = absurd says
all_named v events (p ∷ ps) (s ∷ ss) r says among are =
    all_named v events ps ss (with_line p.number s r) says.1 (λ q is. among q (later_there p q ps is))
    (operation_named v events r p s s.operation (among p (first_there p ps)) says.0 refl are)

-- the steps of a trace are what its event lines say, under its names
pub trace_named : (text : List ℕ) (limit : ℕ) (t : Recording) (is : IsTrace text limit t) → AreNamed is.version is.events t.names t.steps t.lines t.sites
trace_named text limit t is =
    let told = all_named is.version is.events is.events is.event_lines no_steps is.says (λ p there. there) tt in
    let P : Recording → Type 0 = λ r. AreNamed is.version is.events r.names r.steps r.lines r.sites in
    subst P (sym is.told) told
