-- What a window shows. No public clause cites this module.
use Rattle.std.specs.Prelude.{◌≡◌, ℕ, ◌<◌, ◌≤◌, List, Option, length, slice_range}
use Rattle.std.specs.List.{position_or_len}
use Rattle.std.specs.Io.KnownBytes.{IsAtEnd}
use Rattle.er_lines.specs.Lines.{is_end}
use Rattle.er_lines.specs.declared.windows.Window.{Window}
use Rattle.er_lines.specs.declared.windows.LineEnd.{LineEnd}
use Rattle.er_lines.specs.declared.windows.LineEnd.TheVariants.{Whole, Last, Long}

abbrev pub items : Window → List ℕ
items w = slice_range w.bytes.items w.start w.end

-- what stands in front of these bytes, after which the reader has the rest
abbrev pub Shows : LineEnd → List ℕ → Option (List ℕ) → Type 0
Shows (Whole n) bytes rest = (n ≡ position_or_len is_end bytes) × (n < length bytes) × (n ≤ 1024)
Shows (Last n) bytes rest = (n ≡ position_or_len is_end bytes) × (n ≡ length bytes) × (n ≤ 1024) × IsAtEnd rest
Shows Long bytes rest = 1024 < position_or_len is_end bytes
