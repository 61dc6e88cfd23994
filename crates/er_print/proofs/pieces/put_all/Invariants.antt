use Rattle.std.proofs.Common.{◌≡◌, ◌++◌, take, flat_map}
use Rattle.er_print.specs.Pieces.{piece_text}
use Rattle.er_print.proofs.pieces.put_all.Given as goal

abbrev pub invariant-loop-piece : goal.invariant-loop-piece
invariant-loop-piece l = l.out.items ≡ l.fn.out.items ++ flat_map (piece_text l.style l.names) (take l.piece-index l.pieces)
