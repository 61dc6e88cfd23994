-- What an analyst is asked for, and what a pass over a text comes to.
use Rattle.std.specs.Prelude.{◌≡◌, ◌++◌, ◌-◌, ◌^◌, ℕ, min, Bool, List, [], count_by, length, Option, Some, None, IfSome, is_some, Result, MatchResult}
use Rattle.er_batch.specs.Inner.Items.{AreListItems, Holds}
use Rattle.er_batch.specs.Runs.{HasRun, IsPartOf, IsWellFormed, all_of}
use Rattle.er_event.specs.declared.refusals.NoRoom.{NoRoom}
use Rattle.er_event.specs.declared.steps.Step.{Step}
use Rattle.er_parallel.specs.Crews.{Crewed, HaveAnswered}
use Rattle.er_parallel.specs.Faults.{MayFail}
use Rattle.er_parallel.specs.declared.config.ReplayFault.{ReplayFault}
use Rattle.er_parallel.specs.declared.worker.Unusual.{Unusual}
use Rattle.er_parts.specs.Parts.{PartView, is_of_page}
use Rattle.er_replay.specs.Standing.{Replayed}
use Rattle.er_report.specs.Builder.{Built, IsReported}
use Rattle.er_report.specs.declared.reports.Analysis.{Analysis}
use Rattle.er_rules.specs.Rules.{Target}
use Rattle.er_text.specs.Trace.{IsFault}
use Rattle.er_lines.specs.declared.ready.Touch.{Touch}
use Rattle.er_lines.specs.declared.faults.ReadFault.{ReadFault}
use Rattle.er_lines.specs.declared.faults.ReadFault.TheVariants.{Text, Memory, Read}
use Rattle.er_trace.specs.Names.{NameTable}
use Rattle.er_trace.specs.Trace.{Recording}

-- by which analysis, the rules that take races, whether the others are explained, whether damage is looked for, and what the accesses of the
-- text touch that don't touch their whole word, if it is known
pub record Asked : Type 0 where
  pub analysis : Analysis
  pub rules : List Target
  pub explain : Bool
  pub strict : Bool
  pub touches : Option (List Touch)

-- what answers is there exactly if it is wanted, and stands so
pub record StandsIf {A : Type 0} (Stands : A → Type 0) (wanted : Bool) (analyst : Option A) : Type 0 where
  pub there : is_some analyst ≡ wanted
  pub stands : IfSome analyst Stands

-- so many of the steps that a part keeps are accesses, reuses and shows, or more than the greatest number; without a part nobody counts them
abbrev pub HasCounted : Option PartView → ℕ → List Step → Type 0
HasCounted None count steps = Unit {0}
HasCounted (Some part) count steps = count ≡ min (count_by is_of_page steps) (2 ^ 64 - 1)

-- the text is a trace with these names, and this stands for it, or for what is kept of it for a part
pub record IsAnswered (Stands : Recording → Type 0) (part : Option PartView) (told : Option (List ℕ)) (limit : ℕ) (used : NameTable) : Type 0 where
  pub recording : Recording
  pub trace : IfSome told (λ text. IsPartOf part text limit recording)
  pub names : used ≡ recording.names
  pub stands : Stands recording

-- a fault of the text is its first
abbrev pub IsFaultOfReading : Option (List ℕ) → ℕ → ReadFault → Type 0
IsFaultOfReading told limit (Text fault) = IfSome told (λ text. IsFault text limit fault)
IsFaultOfReading told limit Memory = Unit {0}
IsFaultOfReading told limit Read = Unit {0}

-- what the lockset rule keeps of the steps so far: its machine, its report, and where it has stopped
pub record Ran : Type 0 where
  pub machine : Replayed
  pub builder : Built
  pub stop : Option (ℕ × NoRoom)

-- that is a run over the recording's steps, under the rules that are asked for
pub record HasRunFor (ran : Ran) (asked : Asked) (r : Recording) : Type 0 where
  pub run : HasRun ran.machine ran.builder ran.stop r
  pub rules : ran.builder.rules ≡ asked.rules
  pub explain : is_some ran.builder.kept ≡ asked.explain

-- what several workers keep of the steps so far: a machine that has what threads hold, themselves, or why they have stopped, the unusual
-- answers to each list of the last batch, and the report
pub record CrewRan : Type 0 where
  pub holder : Replayed
  pub crew : Result Crewed ReplayFault
  pub items : List (List Unusual)
  pub builder : Built

-- the recording's steps are in the report, and they have answered these lists of steps behind them too, which aren't, or have a fault that all these may
-- give; if reasons are wanted, what threads hold after the recording's steps is known
pub record IsCrewReady (ran : CrewRan) (asked : Asked) (r : Recording) (lists : List (List Step)) : Type 0 where
  pub answered : MatchResult ran.crew
      (λ crew. HaveAnswered crew (r.steps ++ all_of lists) × IsReported ran.builder r (length r.steps) × AreListItems (is_some ran.builder.kept) r.steps lists ran.items
      × Holds (is_some ran.builder.kept) ran.holder r.steps (length r.steps)) (λ why. MayFail (r.steps ++ all_of lists) why)
  pub rules : ran.builder.rules ≡ asked.rules
  pub explain : is_some ran.builder.kept ≡ asked.explain
  pub formed : IsWellFormed r

-- they have answered the recording's steps, and no others
abbrev pub HasCrewRun : CrewRan → Asked → Recording → Type 0
HasCrewRun ran asked r = IsCrewReady ran asked r []
