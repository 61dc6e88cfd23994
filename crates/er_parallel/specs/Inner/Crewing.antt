-- Workers that begin, and what they stand for.
use Rattle.std.specs.Prelude.{◌≡◌, ℕ, [], List, slice_get, Some}
use Rattle.er_parallel.specs.Crews.{Crewed}
use Rattle.er_parallel.specs.Inner.Merging.{machines_of}
use Rattle.er_parallel.specs.declared.worker.Worker.{Worker}
use Rattle.er_replay.specs.Standing.{Stands}

-- none has answered a step
abbrev pub AreFresh : List Worker → Type 0
AreFresh workers = (i : ℕ) (worker : Worker) → slice_get workers i ≡ Some worker → Stands worker.machine []

-- the crew of these workers
abbrev pub crewed : ℕ → List Worker → Crewed
crewed shards workers = record { shards = shards; machines = machines_of workers }
