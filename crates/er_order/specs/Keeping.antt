-- What a store may keep of a word: other reads than the latest, if from then on each clock finds the same among those as among these.
use Rattle.std.specs.Prelude.{ℕ, ◌≡◌, ◌≤◌, true, List, ◌∷◌, Option}
use Rattle.std.specs.List.{find}
use Rattle.er_order.specs.Clocks.{Epoch, covers}
use Rattle.er_order.specs.Following.{is_unordered}

-- the first of these that the clock doesn't cover, where each has an epoch
abbrev pub first_apart : {E : Type 0} → (E → Epoch) → (ℕ → ℕ) → List E → Option E
first_apart epoch clock reads = find (λ read. is_unordered clock (epoch read)) reads

-- what may be kept of reads after one more: a clock that has all of the reader's clock, if it covers the read, finds the same as if all were there
pub record IsNoted {E : Type 0} (epoch : E → Epoch) (clock : ℕ → ℕ) (before : List E) (read : E) (after : List E) : Type 0 where
  pub noted : (later : ℕ → ℕ) → (covers later (epoch read) ≡ true → (u : ℕ) → clock u ≤ later u)
      → first_apart epoch later after ≡ first_apart epoch later (read ∷ before)
