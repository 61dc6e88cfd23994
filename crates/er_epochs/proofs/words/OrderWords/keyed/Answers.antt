use Rattle.er_epochs.proofs.Blocks.{no_words}
use Rattle.er_epochs.proofs.KnownSteps.{follows-none}
use Rattle.er_epochs.proofs.words.OrderWords.keyed.Goals as goal

pub returns : goal.returns
returns g c = record {
  known = no_words _ c.with_hasher.ensures.empty;
  follows = λ tags touched. follows-none _ tags touched (no_words _ c.with_hasher.ensures.empty);
}
