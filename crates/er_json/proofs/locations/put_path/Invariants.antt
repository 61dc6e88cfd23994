use Rattle.std.proofs.Common.{◌≡◌, ◌++◌, take, flat_map}
use Rattle.er_json.specs.Uris.{uri_byte}
use Rattle.er_json.proofs.locations.put_path.Given as goal

abbrev pub invariant-loop-byte : goal.invariant-loop-byte
invariant-loop-byte l = l.out.items ≡ l.fn.out.items ++ flat_map uri_byte (take l.byte-index l.file)
