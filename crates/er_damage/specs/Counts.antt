-- How many numbers pass a test.
use Rattle.std.specs.Prelude.{ℕ, zero, suc, ◌≡◌, ◌+◌, ◌<◌, Bool, true, cond}

-- how many of the numbers below the bound pass
unfoldable pub count_below : ℕ → (ℕ → Bool) → ℕ
count_below zero test = 0
count_below (suc n) test = count_below n test + cond (test n) 1 0

-- so many numbers pass, all of them below some bound
pub record IsCount (test : ℕ → Bool) (count : ℕ) : Type 0 where
  pub bound : ℕ
  pub below : (t : ℕ) → test t ≡ true → t < bound
  pub counted : count_below bound test ≡ count
