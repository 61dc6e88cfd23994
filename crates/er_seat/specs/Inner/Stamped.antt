-- What a seat knows of its last stamp. No public clause cites this file.
use Rattle.std.specs.Prelude.{◌≡◌, ◌≤◌, ℕ, List, length, Some}
use Rattle.std.specs.declared.option.Option.{Option}
use Rattle.er_journal.specs.Entries.{Call, LocksHeld}
use Rattle.er_model.specs.Holdings.{Holdings}

-- how many calls there were at the last stamp, whose locks are the thread's; if no call came since, they are those that are held
pub record IsStamped (thread stamped : ℕ) (recent : Option LocksHeld) (calls : List Call) (held : Holdings) : Type 0 where
  pub before : stamped ≤ length calls
  pub own : (locks : LocksHeld) → recent ≡ Some locks → locks.thread ≡ thread
  pub locks : (locks : LocksHeld) → recent ≡ Some locks → stamped ≡ length calls → locks ≡ record { thread = thread; held = held.held; write_held = held.write_held }
