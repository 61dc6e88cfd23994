-- Events that the definitions accept in turn.
use Rattle.std.specs.Prelude.{Bool, true, not, ◌&&◌, List, [], ◌∷◌, is_some}
use Rattle.er_event.specs.declared.steps.Event.{Event}
use Rattle.er_model.specs.Holdings.{Holdings, refused_by, changed_by}

-- each event is accepted by what the thread then holds
abbrev pub accepts : Holdings → List Event → Bool
accepts h [] = true
accepts h (event ∷ later) = not (is_some (refused_by h event)) && accepts (changed_by h event) later

-- what the thread holds after the events
abbrev pub after : Holdings → List Event → Holdings
after h [] = h
after h (event ∷ later) = after (changed_by h event) later
