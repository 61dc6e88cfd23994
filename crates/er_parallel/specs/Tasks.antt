-- Which worker answers which step.
use Rattle.std.specs.Prelude.{ℕ, ◌%◌, ◌≤◌, ◌<◌}
use Rattle.er_event.specs.declared.steps.Event.{Event}
use Rattle.er_event.specs.declared.steps.Event.TheVariants.{Acquire, Release, Access, Reuse, IgnoreOn, IgnoreOff, Show, Level, Sync}
use Rattle.er_journal.specs.Merges.{shard_of}
use Rattle.er_parallel.specs.declared.worker.Share.{Share}

-- the shard of an event's words; an event on no word goes with shard 0
abbrev pub shard_for : ℕ → Event → ℕ
shard_for shards (Access kind w site) = shard_of shards w
shard_for shards (Reuse range) = shard_of shards range.lo
shard_for shards (Show w) = shard_of shards w
shard_for shards (Acquire l m) = 0
shard_for shards (Release l m) = 0
shard_for shards IgnoreOn = 0
shard_for shards IgnoreOff = 0
shard_for shards (Level n) = 0
shard_for shards (Sync sync) = 0

-- the number of the worker that answers the event
abbrev pub worker_for : ℕ → ℕ → Event → ℕ
worker_for shards workers event = shard_for shards event % workers

-- there are some shards and workers, and few of them, and the worker is one of them
abbrev pub IsShare : Share → Type 0
IsShare share = (1 ≤ share.shards) × (share.shards ≤ 64) × (share.worker < share.workers) × (share.workers ≤ 16)
