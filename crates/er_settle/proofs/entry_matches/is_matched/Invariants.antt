use Rattle.std.proofs.Common.{◌≡◌, ◌≤◌, take, length}
use Rattle.er_settle.specs.Inner.EntryMatches.{ticketed_calls, ticketed_entries}
use Rattle.er_settle.proofs.entry_matches.is_matched.Given as goal

abbrev pub invariant-loop-call : goal.invariant-loop-call
invariant-loop-call l = record { same : ticketed_calls (take l.call-index l.calls) ≡ take l.at (ticketed_entries l.group); within : l.at ≤ length l.group }
