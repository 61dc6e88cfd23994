-- Workers that are started one by one.
use Rattle.std.proofs.Common.{◌≡◌, ◌∙◌, ℕ, ◌<◌, List, [], ◌∷◌, ◌++◌, length, sym, ap, arith, append_assoc, length-append}
use Rattle.std.specs.Prelude.{Some, slice_get}
use Rattle.std.proofs.lemmas.Option.{slice_get_within}
use Rattle.er_settle.specs.Seats.{SeatList}
use Rattle.er_load.specs.declared.runs.Worker.{Worker}
use Rattle.er_load.specs.declared.workloads.Workload.{Workload}
use Rattle.er_load.specs.declared.workloads.Stage.{Stage}
use Rattle.er_load.specs.Inner.Progress.{IsSeatAt, AreSeatsAt, EndsAt, AreWorkers, done_before}
use Rattle.er_event.proofs.Lists.{get_seam}
use Rattle.er_load.proofs.JoinLemmas.{placed-push}

-- the workers of the seats that are gone
pub record AreStarted (w : Workload) (s : Stage) (seats rest : List SeatList) (workers : List Worker) : Type 0 where
  pub gone : List SeatList
  pub split : seats ≡ gone ++ rest
  pub count : length workers ≡ length gone
  pub ends : AreWorkers w s workers

-- the next seat is that of its place
pub next-seat : (w : Workload) (s : Stage) (seats rest left : List SeatList) (workers : List Worker) (seat : SeatList) → AreStarted w s seats rest workers → rest ≡ seat ∷ left
    → AreSeatsAt (done_before w s) seats → (length workers < length seats) × IsSeatAt (length workers) (done_before w s (length workers)) seat
next-seat w s seats rest left workers seat far next before =
    let at : slice_get seats (length far.gone) ≡ Some seat = ap (λ (xs : List SeatList). slice_get xs (length far.gone)) (far.split ∙ ap (λ (xs : List SeatList). far.gone ++ xs) next) ∙ get_seam far.gone left seat in
    let here : slice_get seats (length workers) ≡ Some seat = ap (λ (n : ℕ). slice_get seats n) far.count ∙ at in
    (slice_get_within seats (length workers) seat here, before (length workers) seat here)

pub started-more : (w : Workload) (s : Stage) (seats rest left : List SeatList) (workers now : List Worker) (seat : SeatList) (worker : Worker) → AreStarted w s seats rest workers → rest ≡ seat ∷ left
    → now ≡ workers ++ worker ∷ [] → EndsAt w s (length workers) worker → AreStarted w s seats left now
started-more w s seats rest left workers now seat worker far next grown last = record {
  gone = far.gone ++ seat ∷ [];
  split = far.split ∙ (ap (λ (xs : List SeatList). far.gone ++ xs) next ∙ sym (append_assoc far.gone (seat ∷ []) left));
  count = (let c = far.count in let a = length-append workers (worker ∷ []) in let b = length-append far.gone (seat ∷ []) in rw grown (omega arith));
  ends = rw grown (placed-push (λ t x. EndsAt w s t x) workers worker far.ends last);
}
