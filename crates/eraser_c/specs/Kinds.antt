-- What a handle's number says.
use Rattle.std.specs.Prelude.{ℕ, Option, Some, None}
use Rattle.eraser_c.specs.Owned.{Value}
use Rattle.eraser_c.specs.declared.kept.Kept.TheVariants.{Shard, Thread, Journal, Seat}

-- 0 is empty, 1 a shard, 2 a thread, 3 a shard with a journal, 4 a seat
abbrev pub handle_number : Option Value → ℕ
handle_number None = 0
handle_number (Some (Shard calls)) = 1
handle_number (Some (Thread thread)) = 2
handle_number (Some (Journal shard)) = 3
handle_number (Some (Seat seat)) = 4
