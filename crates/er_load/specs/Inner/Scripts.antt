-- The events of scripts.
use Rattle.std.specs.Prelude.{List, [], ◌∷◌, ◌++◌, map}
use Rattle.er_event.specs.declared.steps.Event.{Event}
use Rattle.er_event.specs.declared.steps.Event.TheVariants as event
use Rattle.er_event.specs.Span.{parts_of}
use Rattle.er_load.specs.declared.runner.Action.{Action}
use Rattle.er_load.specs.declared.runner.Action.TheVariants.{Acquire, Release, Access, Reuse, IgnoreOn, IgnoreOff}

-- the events of one action: a reuse is one for each page
abbrev pub events_by : Action → List Event
events_by (Acquire mode) = event.Acquire 1 mode ∷ []
events_by (Release mode) = event.Release 1 mode ∷ []
events_by (Access kind word) = event.Access kind word 0 ∷ []
events_by (Reuse range) = map event.Reuse (parts_of range)
events_by IgnoreOn = event.IgnoreOn ∷ []
events_by IgnoreOff = event.IgnoreOff ∷ []

-- the events of all actions of a script, in order
unfoldable pub events_in_all : List Action → List Event
events_in_all [] = []
events_in_all (action ∷ script) = events_by action ++ events_in_all script
