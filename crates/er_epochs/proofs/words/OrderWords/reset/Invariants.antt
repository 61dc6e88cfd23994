use Rattle.std.proofs.Common.{◌≡◌, ℕ, Some, IfSome}
use Rattle.std.specs.Option.{option_map}
use Rattle.er_clock.specs.Counts.{count_by}
use Rattle.er_epochs.specs.Words.{known_among}
use Rattle.er_epochs.proofs.Blocks.{AreResetTo}
use Rattle.er_epochs.proofs.Lowest.{use_found, IsLowestBelow}
use Rattle.er_epochs.proofs.words.OrderWords.reset.Given as goal

abbrev pub invariant-loop-number : goal.invariant-loop-number
invariant-loop-number g l = record {
  reset : AreResetTo l.fn.self l.self l.fn.range l.number;
  in_use : IsLowestBelow l.fn.self l.fn.range (count_by l.clock) l.number (option_map (λ (found : ℕ × g.row.A.Denot). found.0) l.found);
  named : IfSome l.found (λ found. Some found.1 ≡ use_found (count_by l.clock) (known_among l.fn.self found.0));
}
