use Rattle.std.proofs.Common.{◌≡◌, ◌≤◌, ℕ, false}
use Rattle.er_epochs.specs.Words.{list_of, is_place_in}
use Rattle.er_epochs.proofs.block.Block.forget_lists.Given as goal

abbrev pub invariant-loop-place : goal.invariant-loop-place
invariant-loop-place g l = record {
  lists : (w : ℕ) → is_place_in l.number l.lo l.hi w ≡ false → list_of l.lists w ≡ list_of l.fn.lists w;
  place : l.lo ≤ l.place;
}
