-- The part of a list that one word sees with hand-over.
use Rattle.std.specs.Prelude.{ℕ, zero, suc, cond, List, [], ◌∷◌, ◌++◌}
use Rattle.er_model.specs.Words.{Mark, Reading, thread_of}
use Rattle.er_model.specs.Locality.{touches}
use Rattle.er_order.specs.Order.{Acts}
use Rattle.er_order.specs.Clocks.{OfThread, clocks_at}

-- the marks before point n that touch the word, in order, each with the clock of its thread
unfoldable pub clocked_on : Acts → Reading → ℕ → ℕ → List (Mark × (ℕ → ℕ))
clocked_on acts r w zero = []
clocked_on acts r w (suc n) = clocked_on acts r w n ++ cond (touches (r n) w) ((r n, clocks_at acts n (OfThread (thread_of (r n)))) ∷ []) []
