use Rattle.std.proofs.Common.{◌≡◌, ◌≤◌, ℕ, length, map}
use Rattle.er_epochs.specs.Words.{blank, said, word_at}
use Rattle.er_epochs.proofs.block.Block.new.Given as goal

abbrev pub invariant-loop : goal.invariant-loop
invariant-loop g l = record {
  words : (i : ℕ) → word_at (map said l.words.items) i ≡ blank;
  room : 32 ≤ l.words.cap;
  long : length l.words.items ≡ l.counter;
}
