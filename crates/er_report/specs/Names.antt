-- The numbers in a report that need a name to be printed.
use Rattle.std.specs.Prelude.{◌≡◌, ◌<◌, ◌≤◌, ℕ, false, List, length, All, Ok}
use Rattle.er_event.specs.Lockset.{is_level_lock}
use Rattle.er_trace.specs.Names.{NameTable}
use Rattle.er_event.specs.declared.steps.Event.{Event}
use Rattle.er_event.specs.declared.steps.Event.TheVariants.{Acquire, Release, Access, Reuse, IgnoreOn, IgnoreOff, Show, Level, Sync}
use Rattle.er_event.specs.declared.steps.Reply.TheVariants.{State}
use Rattle.er_event.specs.declared.steps.WordState.{WordState}
use Rattle.er_event.specs.declared.steps.WordState.TheVariants.{Virgin, Exclusive, Shared, SharedModified}
use Rattle.er_report.specs.Lines.{LineView, RaceView, RacedView, RefusedView, ShownView, line_view}
use Rattle.er_report.specs.Report.{Answering}
use Rattle.er_report.specs.declared.report.Because.{Because}
use Rattle.er_report.specs.declared.report.Label.{Label}
use Rattle.er_report.specs.declared.report.Label.TheVariants as label
use Rattle.er_report.specs.declared.report.Line.{Line}

-- the lock has a name; a level lock needs none
abbrev pub HasLockName : NameTable → ℕ → Type 0
HasLockName names lock = is_level_lock lock ≡ false → lock < length names.locks

-- each of the locks has
abbrev pub HasLockNames : NameTable → List ℕ → Type 0
HasLockNames names locks = All (HasLockName names) locks

-- the lock that an event takes or gives up has
abbrev pub HasEventNames : NameTable → Event → Type 0
HasEventNames names (Acquire lock mode) = HasLockName names lock
HasEventNames names (Release lock mode) = HasLockName names lock
HasEventNames names (Access kind word site) = Unit {0}
HasEventNames names (Reuse range) = Unit {0}
HasEventNames names IgnoreOn = Unit {0}
HasEventNames names IgnoreOff = Unit {0}
HasEventNames names (Show word) = Unit {0}
HasEventNames names (Level level) = Unit {0}
HasEventNames names (Sync sync) = Unit {0}

-- the site of an access has; the missing site needs none
abbrev pub HasSiteName : NameTable → Event → Type 0
HasSiteName names (Access kind word site) = site ≤ length names.sites
HasSiteName names (Acquire lock mode) = Unit {0}
HasSiteName names (Release lock mode) = Unit {0}
HasSiteName names (Reuse range) = Unit {0}
HasSiteName names IgnoreOn = Unit {0}
HasSiteName names IgnoreOff = Unit {0}
HasSiteName names (Show word) = Unit {0}
HasSiteName names (Level level) = Unit {0}
HasSiteName names (Sync sync) = Unit {0}

-- the thread or the locks of a state have
abbrev pub HasStateNames : NameTable → WordState → Type 0
HasStateNames names Virgin = Unit {0}
HasStateNames names (Exclusive thread) = thread < length names.threads
HasStateNames names (Shared locks) = HasLockNames names locks
HasStateNames names (SharedModified locks) = HasLockNames names locks

-- each state that is answered has
abbrev pub HaveStateNames : NameTable → Answering → Type 0
HaveStateNames names answers = (k : ℕ) (state : WordState) → answers k ≡ Ok (State state) → HasStateNames names state

-- the lock of a label has
abbrev pub HasLabelName : NameTable → Label → Type 0
HasLabelName names label.First = Unit {0}
HasLabelName names label.Joined = Unit {0}
HasLabelName names label.Write = Unit {0}
HasLabelName names (label.Uncovered lock) = HasLockName names lock
HasLabelName names label.Unordered = Unit {0}

-- the thread and the lock of a reason have
abbrev pub HasReasonNames : NameTable → Because → Type 0
HasReasonNames names because = (because.thread < length names.threads) × HasLabelName names because.label

-- each thread, lock and site of a race has; site 0 needs none
pub record HasRaceNames (names : NameTable) (race : RaceView) : Type 0 where
  pub thread : race.thread < length names.threads
  pub site : race.site ≤ length names.sites
  pub held : HasLockNames names race.held
  pub explained : All (HasReasonNames names) race.explained

-- and each of a line
abbrev pub HasViewNames : NameTable → LineView → Type 0
HasViewNames names (RacedView race) = HasRaceNames names race
HasViewNames names (RefusedView number step refusal) = (step.thread < length names.threads) × HasEventNames names step.event
HasViewNames names (ShownView number word state) = HasStateNames names state

abbrev pub HasNames : NameTable → Line → Type 0
HasNames names line = HasViewNames names (line_view line)
