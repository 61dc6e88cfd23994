-- What the contracts of `LocksetTable` cite.
use Rattle.std.specs.Prelude.{ℕ}
use Rattle.std.specs.Coded.{Coded, coded×, coded_ℕ}
use base.Stored.{coded_via}
use Rattle.boxcar.specs.Table.{Shelves, shelves_coded}

-- where the sets of a table stand, and how many it may have
pub record Stored : Type 0 where
  pub shelves : Shelves
  pub limit : ℕ

-- it is kept as the pair of its parts
abbrev pub stored_coded : Coded Stored
stored_coded = coded_via (coded× shelves_coded coded_ℕ) (λ (s : Stored). (s.shelves, s.limit)) (λ x y e i. record { shelves = (e i).0; limit = (e i).1 })
