use Rattle.std.proofs.Common.{◌≡◌, take, flat_map}
use Rattle.er_sites.specs.Mentions.{each_once, line_mentions}
use Rattle.er_sites.proofs.mentions.mentioned_in.Given as goal

abbrev pub invariant-loop-line : goal.invariant-loop-line
invariant-loop-line l = l.numbers.keys ≡ each_once (flat_map (line_mentions l.of l.places) (take l.line-index l.lines))
