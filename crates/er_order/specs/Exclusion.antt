-- Threads that exclude each other by a lock.
use Rattle.std.specs.Prelude.{ℕ, ◌≡◌, ◌≤◌, true, false, List}
use Rattle.er_event.specs.declared.steps.Step.{Step}
use Rattle.er_event.specs.Lockset.{has}
use Rattle.er_model.specs.Holdings.{holdings_at}

-- at no point up to k two threads hold the lock, one of them to write
abbrev pub IsExclusive : List Step → ℕ → ℕ → Type 0
IsExclusive steps l k = (n t u : ℕ) → n ≤ k → (t ≡ u → ⊥) → has (holdings_at steps t n).held l ≡ true → has (holdings_at steps u n).write_held l ≡ false
