use Rattle.std.proofs.Common.{◌≡◌, ◌≤◌, ◌⊎◌, ℕ, ◌&&◌, nat_le, nat_lt, cond, length, map}
use Rattle.er_epochs.specs.Words.{blank, said, word_at}
use Rattle.er_epochs.proofs.block.empty.Given as goal

abbrev pub invariant-loop-place : goal.invariant-loop-place
invariant-loop-place g l = record {
  long : length l.words.items ≡ 32;
  words : (i : ℕ) → word_at (map said l.words.items) i ≡ cond (nat_le l.start i && nat_lt i l.place) blank (word_at (map said l.fn.words.items) i);
  place : l.start ≤ l.place;
  end : (l.place ≤ l.start) ⊎ (l.place ≤ l.end);
}
