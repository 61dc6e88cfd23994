-- A run over the steps of a trace, which has answered all of them or stopped at one that found no room.
use Rattle.std.specs.Prelude.{◌≡◌, ℕ, ◌<◌, ◌++◌, ◌∷◌, [], All, List, length, take, slice_get, Option, None, IfSome, IsSomeAnd}
use Rattle.er_event.specs.declared.refusals.NoRoom.{NoRoom}
use Rattle.er_event.specs.declared.steps.Step.{Step}
use Rattle.er_journal.specs.declared.answers.Stopped.{Stopped}
use Rattle.er_parts.specs.Parts.{PartView, kept}
use Rattle.er_replay.specs.Standing.{Replayed, Stands}
use Rattle.er_replay.specs.Stops.{MayLack}
use Rattle.er_report.specs.Builder.{Built, IsReported}
use Rattle.er_report.specs.Report.{answered_steps, stop_line}
use Rattle.er_text.specs.Trace.{IsTrace}
use Rattle.er_trace.specs.Names.{NameTable}
use Rattle.er_trace.specs.Trace.{Recording, IsNamed, HasSiteName}

-- a run of these steps may stop so: the definitions don't refuse the step there, and it may want what had no room
abbrev pub MayStopAt : List Step → Stopped → Type 0
MayStopAt steps stopped = IsSomeAnd (slice_get steps stopped.at) (λ step. MayLack (take stopped.at steps) step stopped.cause)

-- the recording is what is kept of the text's trace for a part of it, or the whole trace without a part
pub record IsPartOf (part : Option PartView) (text : List ℕ) (limit : ℕ) (recording : Recording) : Type 0 where
  pub whole : Recording
  pub trace : IsTrace text limit whole
  pub kept : recording ≡ kept part whole

-- a run of the text's trace, or of a part of it, which stopped at one of its steps for want of room that it may want, or not at all
pub record IsRunOf (part : Option PartView) (text : List ℕ) (limit : ℕ) (recording : Recording) (stop : Option Stopped) : Type 0 where
  pub trace : IsPartOf part text limit recording
  pub within : IfSome stop (λ s. s.at < length recording.steps)
  pub cause : IfSome stop (λ s. MayStopAt recording.steps s)

-- these steps, their lines and sites, under these names
abbrev pub recorded : List Step → List ℕ → List ℕ → NameTable → Recording
recorded steps lines sites names = record { steps = steps; lines = lines; sites = sites; names = names }

-- the steps of lists, one behind the other
abbrev pub all_of : List (List Step) → List Step
all_of [] = []
all_of (steps ∷ more) = steps ++ all_of more

-- each step has a line and a site, and its numbers have names
pub record IsWellFormed (r : Recording) : Type 0 where
  pub named : All (IsNamed r.names) r.steps
  pub long : length r.lines ≡ length r.steps
  pub known : All (HasSiteName r.names) r.sites
  pub one_each : length r.sites ≡ length r.steps

-- a run over a recording's steps, which has answered all of them or stopped at one that found no room
pub record HasRun (machine : Replayed) (builder : Built) (stop : Option (ℕ × NoRoom)) (r : Recording) : Type 0 where
  pub stopped : Option Stopped
  pub line : stop ≡ stop_line r stopped
  pub within : IfSome stopped (λ s. s.at < length r.steps)
  pub cause : IfSome stopped (λ s. MayStopAt r.steps s)
  pub reported : IsReported builder r (length (answered_steps r.steps stopped))
  pub stands : stopped ≡ None → Stands machine r.steps
  pub formed : IsWellFormed r
