-- Bytes that are looked at many at a time. No public clause cites this module.
use Rattle.std.specs.Prelude.{◌≡◌, ℕ, ◌<◌, ◌≤◌, true, List, slice_index}
use Rattle.er_lines.specs.Naming.{is_name_byte}

-- the bytes from one place up to another are bytes of names
abbrev pub AreNameBytes : List ℕ → ℕ → ℕ → Type 0
AreNameBytes bytes from to = (k : ℕ) → from ≤ k → k < to → is_name_byte (slice_index bytes k) ≡ true
