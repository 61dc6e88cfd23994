-- How far a machine has come in the steps of a recording, and the report behind it.
use Rattle.std.specs.Prelude.{◌≡◌, ℕ, ◌+◌, ◌<◌, length, take, Option, Some, None, IsTrue, is_some}
use Rattle.er_batch.specs.Runs.{MayStopAt}
use Rattle.er_journal.specs.declared.answers.Stopped.{Stopped}
use Rattle.er_replay.specs.Standing.{Replayed, Stands}
use Rattle.er_report.specs.Builder.{Built, ArePlain, IsReported, KeepStates}
use Rattle.er_trace.specs.Trace.{Recording}

-- the machine stands for the recording's first n steps, and the report is theirs, with their reasons if these are wanted
pub record HasAnswered (machine : Replayed) (builder : Built) (r : Recording) (n : ℕ) : Type 0 where
  pub stands : Stands machine (take n r.steps)
  pub reported : IsReported builder r n

-- the report is that of a recording's first n steps without the last of these, so many, which can be added at once
pub record Lags (builder : Built) (r : Recording) (n plain : ℕ) : Type 0 where
  pub start : ℕ
  pub behind : start + plain ≡ n
  pub reported : IsReported builder r start
  pub answers : ArePlain r.steps start plain
  pub keep : IsTrue (is_some builder.kept) → KeepStates r.steps start plain

-- the machine stands for the recording's first n steps, and the report lags behind by so many
pub record HasComeTo (machine : Replayed) (builder : Built) (r : Recording) (n plain : ℕ) : Type 0 where
  pub stands : Stands machine (take n r.steps)
  pub lags : Lags builder r n plain

-- from the recording's step n on all were answered, or those up to one that found no room
abbrev pub Answers : Replayed → Built → Recording → ℕ → Option Stopped → Type 0
Answers machine builder r n None = HasAnswered machine builder r (length r.steps)
Answers machine builder r n (Some stop) =
    IsReported builder r (n + stop.at) × (n + stop.at < length r.steps) × MayStopAt r.steps (record { at = n + stop.at; cause = stop.cause })
