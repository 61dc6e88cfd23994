-- The numbers in a story that need a name to be written.
use Rattle.std.specs.Prelude.{◌<◌, length, All, Option, Some, None}
use Rattle.er_places.specs.Places.{HasPlaceNames}
use Rattle.er_report.specs.Names.{HasEventNames, HasLockNames, HasSiteName, HasStateNames}
use Rattle.er_story.specs.Tale.{WordTale}
use Rattle.er_story.specs.declared.story.Story.{Story}
use Rattle.er_story.specs.declared.story.Turn.{Turn}
use Rattle.er_trace.specs.Names.{NameTable}

-- each thread, lock and site of a turn has one; the missing site needs none
pub record HasTurnNames (names : NameTable) (turn : Turn) : Type 0 where
  pub thread : turn.place.thread < length names.threads
  pub place : HasPlaceNames names turn.place
  pub state : HasStateNames names turn.state

-- each number in what is told of a word has a name
pub record HasTaleNames (names : NameTable) (tale : WordTale) : Type 0 where
  pub before : HasStateNames names tale.before
  pub after : HasStateNames names tale.after
  pub turns : All (HasTurnNames names) tale.turns

-- the same, if something is told of a word
abbrev pub HasWordNames : NameTable → Option WordTale → Type 0
HasWordNames names None = Unit {0}
HasWordNames names (Some tale) = HasTaleNames names tale

-- each number of a story has a name
pub record HasStoryNames (names : NameTable) (story : Story) : Type 0 where
  pub thread : story.step.thread < length names.threads
  pub event : HasEventNames names story.step.event
  pub site : HasSiteName names story.step.event
  pub held : HasLockNames names story.held
  pub word : HasWordNames names story.word
