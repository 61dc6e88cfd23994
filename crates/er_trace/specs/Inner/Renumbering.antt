-- The numbers that the names of one trace have in another.
use Rattle.std.specs.Prelude.{ℕ, zero, suc, ◌+◌, ◌≤◌, List, get_or, length}
use Rattle.er_trace.specs.Names.{NameTable}

-- no sort has fewer names
pub record HasMore (old new : NameTable) : Type 0 where
  pub threads : length old.threads ≤ length new.threads
  pub locks : length old.locks ≤ length new.locks
  pub sites : length old.sites ≤ length new.sites

-- the new number of a site, where the missing one is 0
abbrev pub new_site : List ℕ → ℕ → ℕ
new_site numbers zero = 0
new_site numbers (suc n) = get_or numbers n 0 + 1
