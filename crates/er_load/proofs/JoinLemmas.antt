-- Workers that are joined one by one.
use Rattle.std.proofs.Common.{inl, inr, ◌≡◌, ◌∙◌, ℕ, zero, suc, ◌<◌, List, [], ◌∷◌, ◌++◌, length, map, refl, sym, ap, arith, append_assoc, length-append}
use Rattle.std.specs.Prelude.{◌⊎◌, Some, slice_get, Result, Ok, Err, IfOk, IfErr, IsErrAnd, IsTrue}
use Rattle.std.proofs.lemmas.List.{length-map}
use Rattle.std.proofs.lemmas.Bool.{cases_lt}
use Rattle.std.proofs.lemmas.Option.{slice_get_within}
use Rattle.er_event.specs.declared.refusals.Refusal.{Refusal}
use Rattle.er_event.specs.declared.refusals.Refusal.TheVariants.{OutOfMemory}
use Rattle.er_event.specs.declared.steps.Event.{Event}
use Rattle.er_settle.specs.Seats.{SeatList}
use Rattle.er_settle.proofs.PairLemmas.{to_map}
use Rattle.er_load.specs.declared.runs.Worker.{Worker}
use Rattle.er_load.specs.declared.workloads.Workload.{Workload}
use Rattle.er_load.specs.declared.workloads.Stage.{Stage}
use Rattle.er_load.specs.Faults.{MayFail, may_meet}
use Rattle.er_load.specs.declared.workloads.LoadFault.{LoadFault}
use Rattle.er_load.specs.declared.workloads.LoadFault.TheVariants.{Refused}
use Rattle.er_event.proofs.Lists.{get_seam}
use Rattle.er_load.specs.Inner.Progress.{IsSeatAt, AreSeatsAt, EndsAt, AreWorkers, AreAnswersAt, AreMet, first_refusal, done_after}

pub get_left : {A : Type 0} (xs : List A) (y : A) (k : ℕ) → k < length xs → slice_get (xs ++ y ∷ []) k ≡ slice_get xs k
get_left [] y k below = absurd (omega arith)
get_left (z ∷ xs) y zero below = refl
get_left (z ∷ xs) y (suc k) below = get_left xs y k (omega arith)

-- of a list that grew by one, what is said of each by its place
pub placed-push : {A : Type 0} (P : ℕ → A → Type 0) (xs : List A) (y : A) → ((k : ℕ) (x : A) → slice_get xs k ≡ Some x → P k x) → P (length xs) y
    → (k : ℕ) (x : A) → slice_get (xs ++ y ∷ []) k ≡ Some x → P k x
placed-push {A = A} P xs y each last k x is = elim (cases_lt k (length xs)) [
  | inl low ↦ each k x (sym (get_left xs y k low) ∙ is)
  | inr high ↦ (
      let inside = slice_get_within (xs ++ y ∷ []) k x is in
      let at : k ≡ length xs = omega (arith, length-append xs (y ∷ [])) in
      let same : Some y ≡ Some x = sym (get_seam xs [] y) ∙ (ap (λ (n : ℕ). slice_get (xs ++ y ∷ []) n) (sym at) ∙ is) in
      let whole : y ≡ x = cc in
      rw (at, ← whole) last)
]

-- the answers of those that are gone
pub record AreJoined (workers rest : List Worker) (answers : List (Result SeatList Refusal)) : Type 0 where
  pub gone : List Worker
  pub split : workers ≡ gone ++ rest
  pub count : length answers ≡ length gone
  pub answered : (workload : Workload) (stage : Stage) → AreWorkers workload stage workers → AreAnswersAt (done_after workload stage) answers
  pub met : AreMet answers

pub joined-more : (workers rest left : List Worker) (answers now : List (Result SeatList Refusal)) (w : Worker) (answer : Result SeatList Refusal)
    → AreJoined workers rest answers → rest ≡ w ∷ left → now ≡ answers ++ answer ∷ []
    → ((workload : Workload) (stage : Stage) (t : ℕ) → EndsAt workload stage t w → IfOk answer (λ seat. IsSeatAt t (done_after workload stage t) seat))
    → IfErr answer (λ why. IsTrue (may_meet why)) → AreJoined workers left now
joined-more workers rest left answers now w answer far next grown ends meets = record {
  met = rw grown (placed-push (λ t r. IfErr r (λ why. IsTrue (may_meet why))) answers answer far.met meets);
  gone = far.gone ++ w ∷ [];
  split = far.split ∙ (ap (λ (xs : List Worker). far.gone ++ xs) next ∙ sym (append_assoc far.gone (w ∷ []) left));
  count = (let c = far.count in let a = length-append answers (answer ∷ []) in let b = length-append far.gone (w ∷ []) in rw grown (omega arith));
  answered = λ workload stage are. (
      let at : slice_get workers (length far.gone) ≡ Some w = ap (λ (xs : List Worker). slice_get xs (length far.gone)) (far.split ∙ ap (λ (xs : List Worker). far.gone ++ xs) next) ∙ get_seam far.gone left w in
      let last : IfOk answer (λ seat. IsSeatAt (length far.gone) (done_after workload stage (length far.gone)) seat) = ends workload stage (length far.gone) (are (length far.gone) w at) in
      rw grown (placed-push (λ t r. IfOk r (λ seat. IsSeatAt t (done_after workload stage t) seat)) answers answer (far.answered workload stage are) (rw far.count last)));
}

first-behind : (seats : List SeatList) (why : Refusal) (left : List (Result SeatList Refusal)) → first_refusal (map Ok seats ++ Err why ∷ left) ≡ Some why
first-behind [] why left = refl
first-behind (s ∷ seats) why left = first-behind seats why left

pub first-at : (all rest left : List (Result SeatList Refusal)) (seats : List SeatList) (answer : Result SeatList Refusal) (why : Refusal)
    → all ≡ map Ok seats ++ rest → rest ≡ answer ∷ left → answer ≡ Err why → first_refusal all ≡ Some why
first-at all rest left seats answer why far next is = rw (far, next, is) (first-behind seats why left)

-- where every answer is a seat, the seats are done as the answers are
pub seats-are : (events : ℕ → List Event) (answers : List (Result SeatList Refusal)) (seats : List SeatList) → answers ≡ map Ok seats → AreAnswersAt events answers → AreSeatsAt events seats
seats-are events answers seats all each t seat is = each t (Ok seat) (rw all (to_map Ok seats t seat is))

pub seats-count : (answers : List (Result SeatList Refusal)) (seats : List SeatList) → answers ≡ map Ok seats → length seats ≡ length answers
seats-count answers seats all = rw all (sym (length-map seats Ok))

-- the error that a `?` hands on is the first refusal
pub hands-first : {T : Type 0} (r : Result T Refusal) (G : Refusal → Type 0) (all : List (Result SeatList Refusal)) → IsErrAnd r G → ((why : Refusal) → G why → first_refusal all ≡ Some why)
    → IfErr r (λ why. (why ≡ OutOfMemory) ⊎ (first_refusal all ≡ Some why))
hands-first (Ok seat) G all is first = absurd is
hands-first (Err why) G all is first = inr (first why is)

first-met-at : (answers : List (Result SeatList Refusal)) (why : Refusal) → AreMet answers → first_refusal answers ≡ Some why → IsTrue (may_meet why)
first-met-at [] why met is = absurd (cc)
first-met-at (Ok seat ∷ later) why met is = first-met-at later why (λ t answer there. met (suc t) answer there) is
first-met-at (Err other ∷ later) why met is = (let same : other ≡ why = cc in rw (← same) (met zero (Err other) refl))

-- what all_seats refuses is such a refusal, too
pub first-met : {T : Type 0} (r : Result T Refusal) (answers : List (Result SeatList Refusal)) → AreMet answers → IfErr r (λ why. (why ≡ OutOfMemory) ⊎ (first_refusal answers ≡ Some why)) → IfErr r (λ why. IsTrue (may_meet why))
first-met (Ok v) answers met told = tt
first-met (Err why) answers met (inl memory) = rw memory refl
first-met (Err why) answers met (inr first) = first-met-at answers why met first

-- a refusal that a `?` makes a fault of
pub no-value : {T : Type 0} (r : Result T LoadFault) (G : LoadFault → Type 0) (P : T → Type 0) → IsErrAnd r G → IfOk r P
no-value (Ok v) G P is = absurd is
no-value (Err fault) G P is = tt

pub refused-fault : {T : Type 0} (r : Result T LoadFault) (why : Refusal) → IsErrAnd r (λ fault. fault ≡ Refused why) → IsTrue (may_meet why) → IfErr r MayFail
refused-fault (Ok v) why is met = tt
refused-fault (Err fault) why is met = rw is met
