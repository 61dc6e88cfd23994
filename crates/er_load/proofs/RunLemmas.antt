-- Seats that are done with all, and the run that they make.
use Rattle.std.proofs.Common.{inl, inr, ◌≡◌, ◌∙◌, ℕ, zero, suc, ◌+◌, ◌<◌, ◌≤◌, Bool, true, false, ◌==◌, cond, List, [], ◌∷◌, ◌++◌, map, filter, length, refl, sym, ap, arith, append_assoc, append-nil, length-append, nat_lt}
use Rattle.std.specs.Prelude.{Some, slice_get}
use Rattle.std.proofs.lemmas.Bool.{cases_lt, eqb-true, eq-eqb, lt-ltb, le-ltb}
use Rattle.er_event.specs.declared.steps.Event.{Event}
use Rattle.er_event.specs.declared.steps.Reply.{Reply}
use Rattle.er_event.specs.declared.steps.Step.{Step}
use Rattle.er_model.specs.Locality.{event_by, events_of}
use Rattle.er_journal.specs.Merges.{events_in}
use Rattle.er_settle.specs.Runs.{TurnShown, calls_of, steps_of, IsInTurn}
use Rattle.er_settle.specs.Seats.{calls_by}
use Rattle.er_detector.specs.Settlement.{MayBeFirst}
use Rattle.er_settle.specs.Faults.{AreOfDetector, AreDistinct}
use Rattle.er_settle.specs.declared.unsettled.Unsettled.{Unsettled}
use Rattle.er_settle.specs.declared.unsettled.Unsettled.TheVariants.{ForeignSeat, SeatTwice, SeatMissing, Order, Entries, Answer, Memory}
use Rattle.er_settle.specs.Seats.{SeatList}
use Rattle.er_load.specs.Faults.{MayFail}
use Rattle.er_load.specs.declared.workloads.LoadFault.TheVariants.{Unsettled as NotSettled}
use Rattle.er_load.specs.declared.workloads.Workload.{Workload}
use Rattle.er_load.specs.declared.workloads.Stage.TheVariants.{First, Second}
use Rattle.er_load.specs.Inner.Progress.{detector_name, IsSeatAt, AreSeatsAt, done_before, done_after}
use Rattle.er_load.specs.declared.workloads.Workload.TheVariants.{LockedCounter, RacyCounter, InitThenRead, RwTable, ReusePool, IgnoredStats}
use Rattle.er_load.specs.Workloads.{workload_events, thread_count, step_count, stage_events, times, each_word}
use Rattle.er_load.proofs.JoinLemmas.{placed-push}
use Rattle.er_event.proofs.Lists.{get_front, get_seam}
use Rattle.er_event.specs.Span.{parts_below, part_of}

-- a thread's own events in a list of steps
own : ℕ → List Step → List Event
own t [] = []
own t (s ∷ steps) = event_by t (Some s) ++ own t steps

own-both : (t : ℕ) (xs ys : List Step) → own t (xs ++ ys) ≡ own t xs ++ own t ys
unfolding own
own-both t [] ys = refl
own-both t (x ∷ xs) ys = ap (λ (es : List Event). event_by t (Some x) ++ es) (own-both t xs ys) ∙ sym (append_assoc (event_by t (Some x)) (own t xs) (own t ys))

-- what comes behind changes nothing before
events-front : (t n : ℕ) (xs ys : List Step) → n ≤ length xs → events_of (xs ++ ys) t n ≡ events_of xs t n
unfolding events_of
events-front t zero xs ys low = refl
events-front t (suc n) xs ys low =
    ap (λ (es : List Event). es ++ event_by t (slice_get (xs ++ ys) n)) (events-front t n xs ys (omega arith))
    ∙ ap (λ (s : _). events_of xs t n ++ event_by t s) (get_front xs ys n (omega arith))

-- by one step more
events-more : (t : ℕ) (xs ys : List Step) (y : Step) → events_of (xs ++ y ∷ ys) t (suc (length xs)) ≡ events_of xs t (length xs) ++ event_by t (Some y)
unfolding events_of
events-more t xs ys y =
    ap (λ (es : List Event). es ++ event_by t (slice_get (xs ++ y ∷ ys) (length xs))) (events-front t (length xs) xs (y ∷ ys) (omega arith))
    ∙ ap (λ (s : _). events_of xs t (length xs) ++ event_by t s) (get_seam xs ys y)

events-own-from : (t : ℕ) (front back : List Step) → events_of front t (length front) ≡ own t front → events_of (front ++ back) t (length (front ++ back)) ≡ own t (front ++ back)
unfolding own
events-own-from t front [] far = rw (append-nil front) far
events-own-from t front (y ∷ back) far =
    let one : length (front ++ y ∷ []) ≡ suc (length front) = omega (arith, length-append front (y ∷ [])) in
    let next : events_of (front ++ y ∷ []) t (length (front ++ y ∷ [])) ≡ own t (front ++ y ∷ []) =
    ap (λ (n : ℕ). events_of (front ++ y ∷ []) t n) one ∙ (events-more t front [] y ∙ (ap (λ (es : List Event). es ++ event_by t (Some y)) far
    ∙ (ap (λ (es : List Event). own t front ++ es) (sym (append-nil (event_by t (Some y)))) ∙ sym (own-both t front (y ∷ []))))) in
    rw (append_assoc front (y ∷ []) back) at (events-own-from t (front ++ y ∷ []) back next)

events-own : (t : ℕ) (steps : List Step) → events_of steps t (length steps) ≡ own t steps
unfolding events_of own
events-own t steps = events-own-from t [] steps refl

own-turn : (t : ℕ) (a : TurnShown) (turns : List TurnShown) (b : Bool) → (a.thread == t) ≡ b → own t (steps_of turns) ≡ events_in (calls_of t turns)
    → cond b (a.call.event ∷ []) [] ++ own t (steps_of turns) ≡ events_in (map (λ c. c.call) (cond b (a ∷ filter (λ c. c.thread == t) turns) (filter (λ c. c.thread == t) turns)))
own-turn t a turns true is far = ap (λ (es : List Event). a.call.event ∷ es) far
own-turn t a turns false is far = far

own-turns : (t : ℕ) (turns : List TurnShown) → own t (steps_of turns) ≡ events_in (calls_of t turns)
unfolding own
own-turns t [] = refl
own-turns t (a ∷ turns) = own-turn t a turns (a.thread == t) refl (own-turns t turns)

-- a thread's events among the steps are those of its calls among the turns
pub events-turns : (t : ℕ) (turns : List TurnShown) → events_of (steps_of turns) t (length (steps_of turns)) ≡ events_in (calls_of t turns)
events-turns t turns = events-own t (steps_of turns) ∙ own-turns t turns

-- seats that are opened one by one
pub opened-more : (w : Workload) (seats now : List SeatList) (seat : SeatList) → AreSeatsAt (done_before w First) seats → now ≡ seats ++ seat ∷ [] → seat.name ≡ detector_name → seat.thread ≡ length seats → seat.calls ≡ []
    → AreSeatsAt (done_before w First) now
opened-more w seats now seat far grown named thread none =
    rw grown (placed-push (λ t s. IsSeatAt t (done_before w First t) s) seats seat far (record { name = named; thread = thread; events = ap events_in none }))

-- seats by their places, numbered from o on
SeatsFrom : ℕ → (ℕ → List Event) → List SeatList → Type 0
SeatsFrom o f seats = (k : ℕ) (seat : SeatList) → slice_get seats k ≡ Some seat → IsSeatAt (o + k) (f (o + k)) seat

seats-next : (o : ℕ) (f : ℕ → List Event) (s : SeatList) (seats : List SeatList) → SeatsFrom o f (s ∷ seats) → SeatsFrom (o + 1) f seats
unfolding SeatsFrom
seats-next o f s seats each k seat is =
    let at : o + 1 + k ≡ o + suc k = omega arith in
    rw at (each (suc k) seat is)

seat-here : (o : ℕ) (f : ℕ → List Event) (s : SeatList) (seats : List SeatList) → SeatsFrom o f (s ∷ seats) → IsSeatAt o (f o) s
unfolding SeatsFrom
seat-here o f s seats each = let here : o + 0 ≡ o = omega arith in rw here at (each 0 s refl)

seat-first : (o : ℕ) (s : SeatList) (seats : List SeatList) (f : ℕ → List Event) (t : ℕ) (b : Bool) → IsSeatAt o (f o) s → o ≤ t → (s.thread == t) ≡ b
    → (o + 1 ≤ t → events_in (calls_by seats t) ≡ cond (nat_lt t (o + 1 + length seats)) (f t) [])
    → events_in (cond b s.calls (calls_by seats t)) ≡ cond (nat_lt t (o + suc (length seats))) (f t) []
seat-first o s seats f t true at low is rest =
    let same : t ≡ o = sym (eqb-true s.thread t is) ∙ at.thread in
    rw (lt-ltb t (o + suc (length seats)) (omega arith), same) at.events
seat-first o s seats f t false at low is rest = elim (cases_lt o t) [
  | inl later ↦ (
      let count : o + 1 + length seats ≡ o + suc (length seats) = omega arith in
      rw count at (rest (omega arith)))
  | inr here ↦ (let yes : (s.thread == t) ≡ true = eq-eqb s.thread t (let thread = at.thread in omega arith) in absurd (cc))
]

seats-events : (o : ℕ) (seats : List SeatList) (f : ℕ → List Event) (t : ℕ) → SeatsFrom o f seats → o ≤ t → events_in (calls_by seats t) ≡ cond (nat_lt t (o + length seats)) (f t) []
unfolding calls_by
seats-events o [] f t each low = rw (le-ltb t (o + 0) (omega arith)) refl
seats-events o (s ∷ seats) f t each low =
    seat-first o s seats f t (s.thread == t) (seat-here o f s seats each) low refl (λ later. seats-events (o + 1) seats f t (seats-next o f s seats each) later)

from-zero : (f : ℕ → List Event) (seats : List SeatList) → AreSeatsAt f seats → SeatsFrom 0 f seats
unfolding SeatsFrom
from-zero f seats each k seat is = let here : 0 + k ≡ k = omega arith in rw here (each k seat is)

-- the run of seats that are done with all
pub run-events : (w : Workload) (seats : List SeatList) (steps : List Step) (replies : List Reply) → IsInTurn seats steps replies → length seats ≡ thread_count w
    → AreSeatsAt (done_after w Second) seats → (t : ℕ) → events_of steps t (length steps) ≡ workload_events w t
unfolding workload_events
run-events w seats steps replies turn count each t =
    let turns = turn.0 in
    let whole : events_of steps t (length steps) ≡ events_in (calls_of t turns) = rw turn.1 (events-turns t turns) in
    let here : 0 + length seats ≡ thread_count w = omega (arith, count) in
    whole ∙ (ap events_in (turn.3 t) ∙ (rw here at (seats-events 0 seats (done_after w Second) t (from-zero (done_after w Second) seats each) (omega arith))))

-- how many steps there are, where all threads are below 3
nothing-left : (t : ℕ) (s : Step) (steps : List Step) → own t (s ∷ steps) ≡ [] → own t steps ≡ []
unfolding own
nothing-left t s steps none = later (s.thread == t) none
  where
    later : (b : Bool) → cond b (s.event ∷ []) [] ++ own t steps ≡ [] → own t steps ≡ []
    later true is = cc
    later false is = is

is-below : (s : Step) (steps : List Step) → ((t : ℕ) → 3 ≤ t → own t (s ∷ steps) ≡ []) → s.thread < 3
unfolding own
is-below s steps none = elim (cases_lt s.thread 3) [
  | inl low ↦ low
  | inr high ↦ (
      let here : (s.thread == s.thread) ≡ true = eq-eqb s.thread s.thread refl in
      let empty : s.event ∷ own s.thread steps ≡ [] = rw here at (none s.thread high) in
      absurd (cc))
]

length_by : ℕ → Step → ℕ
length_by t s = length (event_by t (Some s))

one-of : (n : ℕ) (s : Step) → s.thread ≡ n → n < 3 → length_by 0 s + length_by 1 s + length_by 2 s ≡ 1
unfolding length_by
one-of zero s is low = rw is refl
one-of (suc zero) s is low = rw is refl
one-of (suc (suc zero)) s is low = rw is refl
one-of (suc (suc (suc n))) s is low = absurd (omega arith)

own-length : (t : ℕ) (s : Step) (steps : List Step) → length (own t (s ∷ steps)) ≡ length_by t s + length (own t steps)
unfolding own length_by
own-length t s steps = length-append (event_by t (Some s)) (own t steps)

length-own : (steps : List Step) → ((t : ℕ) → 3 ≤ t → own t steps ≡ []) → length steps ≡ length (own 0 steps) + length (own 1 steps) + length (own 2 steps)
unfolding own
length-own [] none = refl
length-own (s ∷ steps) none =
    let rest = length-own steps (λ t high. nothing-left t s steps (none t high)) in
    let one = one-of s.thread s refl (is-below s steps none) in
    omega (arith, own-length 0 s steps, own-length 1 s steps, own-length 2 s steps)

-- a thread that isn't there does nothing
no-thread : (w : Workload) (t : ℕ) → 3 ≤ t → workload_events w t ≡ []
unfolding workload_events
no-thread w t high = rw (le-ltb t (thread_count w) (few w)) refl
  where
    few : (w : Workload) → thread_count w ≤ t
    few InitThenRead = omega arith
    few RwTable = omega arith
    few LockedCounter = omega arith
    few RacyCounter = omega arith
    few ReusePool = omega arith
    few IgnoredStats = omega arith

-- what all threads do, counted
all-counted : (w : Workload) → length (workload_events w 0) + length (workload_events w 1) + length (workload_events w 2) ≡ step_count w
unfolding workload_events stage_events times each_word parts_below part_of
all-counted LockedCounter = refl
all-counted RacyCounter = refl
all-counted InitThenRead = refl
all-counted RwTable = refl
all-counted ReusePool = refl
all-counted IgnoredStats = refl

pub run-count : (w : Workload) (steps : List Step) → ((t : ℕ) → events_of steps t (length steps) ≡ workload_events w t) → length steps ≡ step_count w
run-count w steps each =
    let are : (t : ℕ) → own t steps ≡ workload_events w t = λ t. sym (events-own t steps) ∙ each t in
    let sum = length-own steps (λ t high. are t ∙ no-thread w t high) in
    sum ∙ (rw (are 0, are 1, are 2) (all-counted w))

-- seats at their places have numbers of their own
pub seats-once : (events : ℕ → List Event) (seats : List SeatList) → AreSeatsAt events seats → AreDistinct seats
seats-once events seats are = record { apart = λ j k x y below here there same. (let p = (are j x here).thread in let q = (are k y there).thread in absurd (omega arith)) }

-- and are all the detector's
pub seats-named : (events : ℕ → List Event) (name : ℕ) (seats : List SeatList) → AreSeatsAt events seats → name ≡ detector_name → AreOfDetector name seats
seats-named events name seats are is i s here = (are i s here).name ∙ sym is

-- so none is foreign and none is given twice
pub may-fail : (name most : ℕ) (seats : List SeatList) (fault : Unsettled) → MayBeFirst name most seats fault → AreOfDetector name seats → AreDistinct seats → MayFail (NotSettled fault)
may-fail name most seats ForeignSeat first own once = first own
may-fail name most seats SeatTwice first own once = first.1 once
may-fail name most seats SeatMissing first own once = tt
may-fail name most seats Order first own once = tt
may-fail name most seats Entries first own once = tt
may-fail name most seats Answer first own once = tt
may-fail name most seats Memory first own once = tt
