-- The lines of a report, as contracts compare them: by the lists that they hold.
use Rattle.std.specs.Prelude.{Box, ℕ, List, [], Option, Some, None}
use Rattle.er_event.specs.declared.refusals.Refusal.{Refusal}
use Rattle.er_event.specs.declared.steps.Step.{Step}
use Rattle.er_event.specs.declared.steps.WordState.{WordState}
use Rattle.er_report.specs.declared.report.Because.{Because}
use Rattle.er_report.specs.declared.report.Deed.{Deed}
use Rattle.er_report.specs.declared.report.Deed.TheVariants as deed
use Rattle.er_report.specs.declared.report.Details.{Details}
use Rattle.er_report.specs.declared.report.Line.{Line}
use Rattle.er_report.specs.declared.report.Line.TheVariants.{Race, Reused, Refused, Shown}

-- the race of an access or of a reuse, with its line in the text, the locks that its thread held and its reasons
pub record RaceView : Type 0 where
  pub line : ℕ
  pub thread : ℕ
  pub deed : Deed
  pub site : ℕ
  pub held : List ℕ
  pub explained : List Because

-- a race, a refused step, or a word that was shown
pub data LineView : Type 0 where
  RacedView : (race : RaceView) → LineView
  RefusedView : (number : ℕ) → (step : Step) → (refusal : Refusal) → LineView
  ShownView : (number : ℕ) → (word : ℕ) → (state : WordState) → LineView

-- the locks of a race, which keeps none if they are none
abbrev pub locks_kept : {Z : Type 0} → Option (Box (List ℕ) Z) → List ℕ
locks_kept None = []
locks_kept (Some locks) = locks.value

-- the locks among a race's details
abbrev pub locks_in : {Z : Type 0} → Option (Box Details Z) → List ℕ
locks_in None = []
locks_in (Some details) = locks_kept details.value.held

-- the reasons among them
abbrev pub reasons_in : {Z : Type 0} → Option (Box Details Z) → List Because
reasons_in None = []
reasons_in (Some details) = details.value.explained.items

-- what a line says
abbrev pub line_view : Line → LineView
line_view (Race kind thread site number word details) = RacedView (record { line = number; thread = thread; deed = deed.Access kind word; site = site; held = locks_in details; explained = reasons_in details })
line_view (Reused thread site number range details) = RacedView (record { line = number; thread = thread; deed = deed.Reuse range.value; site = site; held = locks_in details; explained = reasons_in details })
line_view (Refused refusal step number) = RefusedView number step refusal
line_view (Shown number word state) = ShownView number word state.value

-- the race of a line, if it is one
abbrev pub race_of : LineView → Option RaceView
race_of (RacedView race) = Some race
race_of (RefusedView number step refusal) = None
race_of (ShownView number word state) = None
