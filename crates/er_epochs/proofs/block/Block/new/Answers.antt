use Rattle.std.proofs.Common.{◌∙◌, map, ap, arith}
use Rattle.er_epochs.specs.Words.{said, word_at}
use Rattle.er_epochs.proofs.Places.{blank_more}
use Rattle.er_epochs.proofs.block.Block.new.Goals as goal

pub loop-preserved : goal.loop-preserved
loop-preserved g c = record {
  words = λ i. ap (λ items. word_at (map said items) i) c.push_reserved.ensures.items ∙ blank_more c.loop.words.items c.new.result c.new.ensures c.loop.invariant.words i;
  room = let same = c.push_reserved.ensures.capacity in omega (arith, same, c.loop.invariant.room);
  long = let more = c.push_reserved.ensures.len in omega (arith, more, c.loop.invariant.long);
}
