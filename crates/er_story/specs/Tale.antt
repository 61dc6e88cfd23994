-- What a story says of a word.
use Rattle.std.specs.Prelude.{ℕ, List}
use Rattle.er_event.specs.declared.steps.WordState.{WordState}
use Rattle.er_story.specs.declared.story.Turn.{Turn}

-- its state before and after the step, how many accesses counted before it since the word's last reuse, and those that changed the state
pub record WordTale : Type 0 where
  pub word : ℕ
  pub before : WordState
  pub after : WordState
  pub accesses : ℕ
  pub turns : List Turn
