use Rattle.std.proofs.Common.{◌≡◌, ◌++◌, take, flat_map}
use Rattle.er_forms.specs.Page.{source_byte}
use Rattle.er_forms.proofs.page.put_source.Given as goal

abbrev pub invariant-loop-byte : goal.invariant-loop-byte
invariant-loop-byte l = l.out.items ≡ l.fn.out.items ++ flat_map source_byte (take l.byte-index l.text)
