-- The latest accesses of a word follow from those before, by the clock of the accessing thread, and later steps change nothing of it.
use Rattle.std.proofs.Common.{◌≡◌, ℕ, ◌<◌, true, not, Some, ap}
use Rattle.er_model.specs.Words.{Reading, counts}
use Rattle.er_order.specs.Order.{Acts, Local, happens_before}
use Rattle.er_order.specs.Clocks.{OfThread, clocks_at}
use Rattle.er_order.proofs.StepLemmas.{Agree, decided}
use Rattle.er_epochs.specs.Epochs.{is_apart}
use Rattle.er_epochs.specs.Standing.{access_at}

-- the clock of a later access decides
pub apart-known : {A : Type 0} (acts : Acts) (r : Reading) (agree : Agree acts r) (tags : ℕ → A) (w j k t : ℕ) → j < k → counts (r j) w ≡ true →
    acts k ≡ Some (record { thread = t; sync = Local }) → not (happens_before acts j k) ≡ is_apart (clocks_at acts k (OfThread t)) (access_at acts r tags j)
apart-known acts r agree tags w j k t below at_j acted = ap not (decided acts r agree w k j t below at_j acted)
