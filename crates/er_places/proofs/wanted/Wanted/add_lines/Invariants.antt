-- The lines of the reasons so far are wanted.
use Rattle.std.proofs.Common.{◌≡◌, ℕ, ◌||◌, take}
use Rattle.er_places.specs.Wanted.{name_line, is_wanted}
use Rattle.er_places.proofs.wanted.Wanted.add_lines.Given as goal

abbrev pub invariant-loop-because : goal.invariant-loop-because
invariant-loop-because l = (line : ℕ) → is_wanted l.self.lines.keys line ≡ (is_wanted l.fn.self.lines.keys line || name_line (take l.because-index l.reasons) line)
