use Rattle.std.proofs.Common.{◌≡◌, ◌++◌, take, flat_map}
use Rattle.er_sites.specs.Mentions.{mention_text}
use Rattle.er_sites.proofs.mentions.put_mentions.Given as goal

abbrev pub invariant-loop-number : goal.invariant-loop-number
invariant-loop-number l = l.out.items ≡ l.fn.out.items ++ flat_map (mention_text l.of l.legend.names.now l.legend.places.now) (take l.number-index l.numbers)
