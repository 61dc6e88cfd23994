-- What a demo comes to.
use Rattle.std.specs.Prelude.{◌≡◌, ℕ, List, length, slice_get, Option, Some, Ok}
use Rattle.std.specs.Io.KnownBytes.{Appends}
use Rattle.er_event.specs.declared.steps.Reply.{Reply}
use Rattle.er_event.specs.declared.steps.Step.{Step}
use Rattle.er_load.specs.Workloads.{name_of, workload_events}
use Rattle.er_load.specs.declared.workloads.Workload.{Workload}
use Rattle.er_model.specs.Answers.{answer}
use Rattle.er_model.specs.Locality.{events_of}
use Rattle.er_journal.specs.Merges.{reply_at}
use Rattle.er_settle.specs.Runs.{races_in}
use Rattle.er_exit.specs.Lines.{demo_line}
use Rattle.er_exit.specs.Statuses.{demo_status}

-- the threads made a run of the workload, with the replies that the definitions give, and what was written is its line
pub record IsDemo (workload : Workload) (old new : Option (List ℕ)) (exit : ℕ) : Type 0 where
  pub steps : List Step
  pub replies : List Reply
  pub events : (t : ℕ) → events_of steps t (length steps) ≡ workload_events workload t
  pub answered : (k : ℕ) (step : Step) → slice_get steps k ≡ Some step → answer steps k ≡ Ok (reply_at replies k)
  pub line : Appends old new (demo_line (name_of workload) (length steps) (races_in replies))
  pub status : exit ≡ demo_status (races_in replies)
