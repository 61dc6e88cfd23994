-- As many pieces as there were turns.
use Rattle.std.proofs.Common.{◌≡◌, ◌≤◌, length}
use Rattle.er_reading.proofs.reading.PieceReader.new.Given as goal

abbrev pub invariant-loop : goal.invariant-loop
invariant-loop l = record { count : length l.pieces.items ≡ l.counter; room : l.readers ≤ l.pieces.cap }
