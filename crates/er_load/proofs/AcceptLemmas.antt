-- The scripts of the workloads are accepted by the definitions: each thread gives up what it takes.
use Rattle.std.proofs.Common.{◌≡◌, ◌∙◌, ℕ, zero, suc, ◌+◌, ◌-◌, ◌*◌, ◌<◌, ◌==◌, cond, Bool, true, false, not, ◌&&◌, List, [], ◌∷◌, ◌++◌, length, map, take, drop, get_or, refl, sym, ap, arith, append_assoc, append-nil}
use Rattle.std.specs.Prelude.{Option, Some, None, is_some}
use Rattle.std.proofs.lemmas.Bool.{eq-eqb}
use Rattle.std.proofs.lemmas.List.{map-append}
use Rattle.er_event.specs.Lockset.{with_lock, without_lock}
use Rattle.er_event.specs.declared.addresses.PageRange.{PageRange}
use Rattle.er_event.specs.declared.refusals.Refusal.{Refusal}
use Rattle.er_event.specs.declared.steps.Event.{Event}
use Rattle.er_event.specs.declared.steps.Event.TheVariants.{Access, Reuse, IgnoreOn, IgnoreOff}
use Rattle.er_event.specs.declared.steps.Kind.{Kind}
use Rattle.er_event.specs.declared.steps.Kind.TheVariants as kind
use Rattle.er_event.specs.declared.steps.Mode.TheVariants as mode
use Rattle.er_event.specs.declared.steps.Step.{Step}
use Rattle.er_event.specs.Span.{parts_of}
use Rattle.er_held.specs.Held.{nothing_held}
use Rattle.er_model.specs.Holdings.{Holdings, acquired_among, holdings_end, refused_by, changed_by}
use Rattle.er_model.specs.Locality.{steps_by}
use Rattle.er_journal.specs.Merges.{events_in}
use Rattle.er_model.proofs.Prefixes.{holdings-empty, holdings-grow}
use Rattle.er_settle.specs.Seats.{SeatList}
use Rattle.er_seat.specs.Seats.{held_after, holdings_of}
use Rattle.er_load.specs.Inner.Accepted.{accepts, after}
use Rattle.er_load.specs.Inner.Progress.{HasMade, IsSeatAt, done_before}
use Rattle.er_load.specs.Inner.Scripts.{events_by, events_in_all}
use Rattle.er_load.specs.declared.runner.Action.{Action}
use Rattle.er_load.specs.Workloads.{stage_events, times, each_word, locked, page, page_events, count_events, table_events}
use Rattle.er_load.specs.declared.workloads.Workload.{Workload}
use Rattle.er_load.specs.declared.workloads.Workload.TheVariants.{LockedCounter, RacyCounter, InitThenRead, RwTable, ReusePool, IgnoredStats}
use Rattle.er_load.specs.declared.workloads.Stage.{Stage}
use Rattle.er_load.specs.declared.workloads.Stage.TheVariants.{First, Second}

both : (a b : Bool) → (a && b) ≡ true → (a ≡ true) × (b ≡ true)
both true b h = (refl, h)
both false b h = absurd (cc)

all-three : (a b c : Bool) → (a && (b && c)) ≡ ((a && b) && c)
all-three true b c = refl
all-three false b c = refl

no-refusal : (o : Option Refusal) → not (is_some o) ≡ true → o ≡ None
no-refusal None h = refl
no-refusal (Some why) h = absurd (cc)

-- events, and then some more
pub accepts-append : (h : Holdings) (xs ys : List Event) → accepts h (xs ++ ys) ≡ (accepts h xs && accepts (after h xs) ys)
accepts-append h [] ys = refl
accepts-append h (x ∷ xs) ys =
    ap (λ (b : Bool). not (is_some (refused_by h x)) && b) (accepts-append (changed_by h x) xs ys)
    ∙ all-three (not (is_some (refused_by h x))) (accepts (changed_by h x) xs) (accepts (after (changed_by h x) xs) ys)

pub after-append : (h : Holdings) (xs ys : List Event) → after h (xs ++ ys) ≡ after (after h xs) ys
after-append h [] ys = refl
after-append h (x ∷ xs) ys = after-append (changed_by h x) xs ys

-- what a thread holds by its own events
abbrev held_by : ℕ → List Event → Holdings
held_by t events = holdings_end (steps_by t events) t

grown : (t : ℕ) (es : List Event) (e : Event) → refused_by (held_by t es) e ≡ None → held_by t (es ++ e ∷ []) ≡ changed_by (held_by t es) e
grown t es e accepted =
    ap (λ (steps : List Step). holdings_end steps t) (map-append (λ (event : Event). record { thread = t; event = event }) es (e ∷ []))
    ∙ holdings-grow (steps_by t es) (record { thread = t; event = e }) t
    ∙ rw (eq-eqb t t refl, accepted) refl

held-more : (t : ℕ) (es more : List Event) → accepts (held_by t es) more ≡ true → held_by t (es ++ more) ≡ after (held_by t es) more
held-more t es [] accepted = ap (held_by t) (append-nil es)
held-more t es (e ∷ later) accepted =
    let two = both (not (is_some (refused_by (held_by t es) e))) (accepts (changed_by (held_by t es) e) later) accepted in
    let one = grown t es e (no-refusal (refused_by (held_by t es) e) two.0) in
    ap (held_by t) (sym (append_assoc es (e ∷ []) later))
    ∙ held-more t (es ++ e ∷ []) later (rw one two.1)
    ∙ ap (λ (h : Holdings). after h later) one

-- what a seat's thread holds once the seat made more calls
pub made-held : (seat now : SeatList) (es : List Event) → HasMade seat now es → accepts (holdings_of seat) es ≡ true → holdings_of now ≡ after (holdings_of seat) es
unfolding held_after
made-held seat now es made accepted = rw (made.thread, made.events) (held-more seat.thread (events_in seat.calls) es accepted)

-- accesses and reuses are accepted, and change nothing
words-accepted : (h : Holdings) (k : Kind) (first n : ℕ) → (accepts h (each_word k first n) ≡ true) × (after h (each_word k first n) ≡ h)
unfolding each_word
words-accepted h k first zero = (refl, refl)
words-accepted h k first (suc n) =
    let rest = words-accepted h k first n in
    (accepts-append h (each_word k first n) (Access k (first + n) 0 ∷ []) ∙ rw rest.0 refl, after-append h (each_word k first n) (Access k (first + n) 0 ∷ []) ∙ rest.1)

reuses-accepted : (h : Holdings) (ranges : List PageRange) → (accepts h (map Reuse ranges) ≡ true) × (after h (map Reuse ranges) ≡ h)
reuses-accepted h [] = (refl, refl)
reuses-accepted h (range ∷ ranges) = reuses-accepted h ranges

-- a round that leaves what it found, so many times
times-accepted : (h : Holdings) (n : ℕ) (round : List Event) → accepts h round ≡ true → after h round ≡ h → (accepts h (times n round) ≡ true) × (after h (times n round) ≡ h)
unfolding times
times-accepted h zero round fits same = (refl, refl)
times-accepted h (suc n) round fits same =
    let rest = times-accepted h n round fits same in
    (accepts-append h (times n round) round ∙ rw (rest.0, rest.1) fits, after-append h (times n round) round ∙ rw rest.1 same)

-- the parts of the workloads
IsAccepted : List Event → Type 0
IsAccepted events = (accepts nothing_held events ≡ true) × (after nothing_held events ≡ nothing_held)

page-accepted : (p : ℕ) → IsAccepted (page_events p)
unfolding IsAccepted
page-accepted p =
    let words = words-accepted nothing_held kind.Write (1024 * p) 8 in
    let reuses = reuses-accepted nothing_held (parts_of (page p)) in (
      accepts-append nothing_held (each_word kind.Write (1024 * p) 8) (map Reuse (parts_of (page p))) ∙ rw (words.0, words.1) reuses.0,
      after-append nothing_held (each_word kind.Write (1024 * p) 8) (map Reuse (parts_of (page p))) ∙ rw words.1 reuses.1,
    )

counted-accepted : IsAccepted (locked mode.Write count_events)
unfolding IsAccepted with_lock without_lock acquired_among
counted-accepted = (refl, refl)

table-accepted : (b : Bool) → IsAccepted (cond b (locked mode.Write (each_word kind.Write 1024 4)) (locked mode.Read (each_word kind.Read 1024 4)))
unfolding IsAccepted with_lock without_lock acquired_among each_word
table-accepted true = (refl, refl)
table-accepted false = (refl, refl)

words-or-none : (b : Bool) (k : Kind) → IsAccepted (cond b (each_word k 1024 16) []) × IsAccepted (cond b [] (each_word k 1024 16))
unfolding IsAccepted
words-or-none true k = (words-accepted nothing_held k 1024 16, (refl, refl))
words-or-none false k = ((refl, refl), words-accepted nothing_held k 1024 16)

ignored-accepted : IsAccepted (IgnoreOn ∷ times 10 count_events ++ IgnoreOff ∷ [])
unfolding IsAccepted
ignored-accepted =
    let h : Holdings = changed_by nothing_held IgnoreOn in
    let rest = times-accepted h 10 count_events refl refl in (
      accepts-append h (times 10 count_events) (IgnoreOff ∷ []) ∙ rw (rest.0, rest.1) refl,
      after-append h (times 10 count_events) (IgnoreOff ∷ []) ∙ rw rest.1 refl,
    )

first-accepted : (w : Workload) (t : ℕ) → IsAccepted (stage_events w First t)
unfolding IsAccepted stage_events
first-accepted LockedCounter t = times-accepted nothing_held 100 (locked mode.Write count_events) counted-accepted.0 counted-accepted.1
first-accepted RacyCounter t = times-accepted nothing_held 2 (Access kind.Write 1024 0 ∷ []) refl refl
first-accepted InitThenRead t = (words-or-none (t == 0) kind.Write).0
first-accepted RwTable t = times-accepted nothing_held 10 (table_events t) (table-accepted (t == 0)).0 (table-accepted (t == 0)).1
first-accepted ReusePool t = page-accepted (1 + t)
first-accepted IgnoredStats t = ignored-accepted

second-accepted : (w : Workload) (t : ℕ) → accepts nothing_held (stage_events w Second t) ≡ true
unfolding IsAccepted stage_events
second-accepted LockedCounter t = refl
second-accepted RacyCounter t = refl
second-accepted InitThenRead t = (words-or-none (t == 0) kind.Read).1.0
second-accepted RwTable t = refl
second-accepted ReusePool t = (page-accepted (2 - t)).0
second-accepted IgnoredStats t = refl

-- what a seat holds that made these calls
held-at : (t : ℕ) (all : List Event) (seat : SeatList) → IsSeatAt t all seat → holdings_of seat ≡ held_by t all
unfolding held_after
held-at t all seat at = rw (at.thread, at.events) refl

held-start : (t : ℕ) (all : List Event) → accepts nothing_held all ≡ true → held_by t all ≡ after nothing_held all
held-start t all accepted = held-more t [] all (rw (holdings-empty t) accepted) ∙ ap (λ (h : Holdings). after h all) (holdings-empty t)

-- each task is accepted by the seat that comes to it
pub stage_events-accepted : (w : Workload) (s : Stage) (t : ℕ) (seat : SeatList) → IsSeatAt t (done_before w s t) seat → accepts (holdings_of seat) (stage_events w s t) ≡ true
unfolding IsAccepted
stage_events-accepted w First t seat at = rw (held-at t [] seat at, holdings-empty t) (first-accepted w t).0
stage_events-accepted w Second t seat at =
    let first = first-accepted w t in
    rw (held-at t (stage_events w First t) seat at, held-start t (stage_events w First t) first.0, first.1) (second-accepted w t)

-- and so is each action of a script, where the whole of it is
script-at : (script : List Action) (i : ℕ) (action : Action) → i < length script → action ≡ get_or script i action → events_in_all script ≡ events_in_all (take i script) ++ (events_by action ++ events_in_all (drop (suc i) script))
unfolding events_in_all
script-at [] i action below is = absurd (omega arith)
script-at (x ∷ script) zero action below is = rw is refl
script-at (x ∷ script) (suc i) action below is = ap (λ (es : List Event). events_by x ++ es) (script-at script i action (omega arith) is) ∙ sym (append_assoc (events_by x) (events_in_all (take i script)) (events_by action ++ events_in_all (drop (suc i) script)))

pub action-accepted : (seat now : SeatList) (script : List Action) (i : ℕ) (action : Action) → accepts (holdings_of seat) (events_in_all script) ≡ true →
    HasMade seat now (events_in_all (take i script)) → i < length script → action ≡ get_or script i action → accepts (holdings_of now) (events_by action) ≡ true
action-accepted seat now script i action accepted made below is =
    let front = events_in_all (take i script) in
    let back = events_in_all (drop (suc i) script) in
    let whole : accepts (holdings_of seat) (front ++ (events_by action ++ back)) ≡ true = ap (accepts (holdings_of seat)) (sym (script-at script i action below is)) ∙ accepted in
    let parts = both (accepts (holdings_of seat) front) (accepts (after (holdings_of seat) front) (events_by action ++ back)) (sym (accepts-append (holdings_of seat) front (events_by action ++ back)) ∙ whole) in
    let mid = made-held seat now front made parts.0 in
    let next = both (accepts (holdings_of now) (events_by action)) (accepts (after (holdings_of now) (events_by action)) back) (sym (accepts-append (holdings_of now) (events_by action) back) ∙ ap (λ (h : Holdings). accepts h (events_by action ++ back)) mid ∙ parts.1) in
    next.0
