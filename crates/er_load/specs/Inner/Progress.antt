-- How far threads are with their tasks.
use Rattle.std.specs.Prelude.{◌≡◌, ℕ, List, [], ◌∷◌, ◌++◌, slice_get, Option, Some, None, Result, Ok, Err, IfOk, IfErr, IsTrue}
use Rattle.er_event.specs.declared.refusals.Refusal.{Refusal}
use Rattle.er_event.specs.declared.steps.Event.{Event}
use Rattle.er_journal.specs.Merges.{events_in}
use Rattle.er_settle.specs.Seats.{SeatList}
use Rattle.er_load.specs.declared.workloads.Workload.{Workload}
use Rattle.er_load.specs.declared.workloads.Stage.{Stage}
use Rattle.er_load.specs.declared.workloads.Stage.TheVariants.{First, Second}
use Rattle.er_load.specs.declared.runs.Worker.{Worker}
use Rattle.er_load.specs.Faults.{may_meet}
use Rattle.er_load.specs.Workloads.{stage_events}

-- what a thread did before the stage
abbrev pub done_before : Workload → Stage → ℕ → List Event
done_before workload First t = []
done_before workload Second t = stage_events workload First t

-- what a thread did when it is done with the stage
abbrev pub done_after : Workload → Stage → ℕ → List Event
done_after workload First t = stage_events workload First t
done_after workload Second t = stage_events workload First t ++ stage_events workload Second t

-- the seat made these calls more
pub record HasMade (seat next : SeatList) (more : List Event) : Type 0 where
  pub name : next.name ≡ seat.name
  pub thread : next.thread ≡ seat.thread
  pub events : events_in next.calls ≡ events_in seat.calls ++ more

-- the name of the detector that a workload calls
abbrev pub detector_name : ℕ
detector_name = 1

-- the seat is that detector's, and the one of thread t, which did this
pub record IsSeatAt (t : ℕ) (all : List Event) (seat : SeatList) : Type 0 where
  pub name : seat.name ≡ detector_name
  pub thread : seat.thread ≡ t
  pub events : events_in seat.calls ≡ all

-- the seats are those of the threads from 0 on, of which each did its task
abbrev pub AreSeatsAt : (ℕ → List Event) → List SeatList → Type 0
AreSeatsAt events seats = (t : ℕ) (seat : SeatList) → slice_get seats t ≡ Some seat → IsSeatAt t (events t) seat

-- the worker promised thread t's seat, which is done with the stage if it ends well
abbrev pub EndsAt : Workload → Stage → ℕ → Worker → Type 0
EndsAt workload stage t worker = worker.handle.promise ≡ record { workload = workload; stage = stage; thread = t }

-- the workers are those of the threads from 0 on
abbrev pub AreWorkers : Workload → Stage → List Worker → Type 0
AreWorkers workload stage workers = (t : ℕ) (worker : Worker) → slice_get workers t ≡ Some worker → EndsAt workload stage t worker

-- the answers are those of the threads from 0 on, and each that is a seat is done with its task
abbrev pub AreAnswersAt : (ℕ → List Event) → List (Result SeatList Refusal) → Type 0
AreAnswersAt events answers = (t : ℕ) (answer : Result SeatList Refusal) → slice_get answers t ≡ Some answer → IfOk answer (λ seat. IsSeatAt t (events t) seat)

-- each answer that is a refusal is one that no definition gives
abbrev pub AreMet : List (Result SeatList Refusal) → Type 0
AreMet answers = (t : ℕ) (answer : Result SeatList Refusal) → slice_get answers t ≡ Some answer → IfErr answer (λ why. IsTrue (may_meet why))

-- the first refusal among the answers
abbrev pub first_refusal : List (Result SeatList Refusal) → Option Refusal
first_refusal [] = None
first_refusal (Ok seat ∷ later) = first_refusal later
first_refusal (Err why ∷ later) = Some why
