-- Which events there are.
use Rattle.std.specs.Prelude.{Bool, true, false}
use Rattle.er_event.specs.declared.steps.Event.{Event}
use Rattle.er_event.specs.declared.steps.Event.TheVariants.{Show}

-- the event asks for a word's state
abbrev pub is_show : Event → Bool
is_show (Show word) = true
is_show _ = false
