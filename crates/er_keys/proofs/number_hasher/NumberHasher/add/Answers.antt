use Rattle.er_keys.specs.Mixing.{with_word}
use Rattle.er_keys.proofs.number_hasher.NumberHasher.add.Goals as goal

pub returns : goal.returns
unfolding with_word
returns c = rw c.mixed-self.ensures
