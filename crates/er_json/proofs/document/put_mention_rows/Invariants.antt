use Rattle.std.proofs.Common.{◌≡◌, ◌++◌, take, flat_map}
use Rattle.er_json.specs.Document.{mention_row}
use Rattle.er_json.proofs.document.put_mention_rows.Given as goal

abbrev pub invariant-loop-number : goal.invariant-loop-number
invariant-loop-number l = l.out.items ≡ l.fn.out.items ++ flat_map (mention_row l.of l.legend.names.now l.legend.places.now) (take l.number-index l.numbers)
