use Rattle.std.proofs.Common.{◌≡◌, ◌<◌, ℕ, vec_len, []}
use Rattle.std.specs.Prelude.{slice_get, Some}
use Rattle.er_settle.proofs.entry_matches.empty_groups.Given as goal

abbrev pub invariant-loop-seat : goal.invariant-loop-seat
invariant-loop-seat l = (vec_len l.groups ≡ l._seat-index) × ((k : ℕ) → k < l._seat-index → slice_get l.groups.items k ≡ Some [])
