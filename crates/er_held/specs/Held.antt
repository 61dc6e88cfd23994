-- What one thread holds, beside the definitions of the model.
use Rattle.std.specs.Prelude.{Bool, true, false, []}
use Rattle.er_event.specs.declared.steps.Event.{Event}
use Rattle.er_event.specs.declared.steps.Event.TheVariants.{Acquire, Release, Access, Reuse, IgnoreOn, IgnoreOff, Show, Level, Sync}
use Rattle.er_model.specs.Holdings.{Holdings}

-- no lock, the lowest level, no bracket
abbrev pub nothing_held : Holdings
nothing_held = record { held = []; write_held = []; level = 0; depth = 0 }

-- an event of this sort may take memory to hold more
abbrev pub takes_memory : Event → Bool
takes_memory (Acquire lock mode) = true
takes_memory (Release lock mode) = false
takes_memory (Access kind word site) = false
takes_memory (Reuse range) = false
takes_memory IgnoreOn = false
takes_memory IgnoreOff = false
takes_memory (Show word) = false
takes_memory (Level level) = true
takes_memory (Sync sync) = false
