-- Whole lines that were read ahead, and what they leave.
use Rattle.std.specs.Prelude.{◌≡◌, ℕ, List}
use Rattle.er_lines.specs.Lines.{lines_of, placed_from}
use Rattle.er_lines.specs.Reading.{read_lines}
use Rattle.er_text.specs.Inner.Endings.{tail_after}
use Rattle.er_text.specs.Inner.Traces.{Progress, read_content}
use Rattle.er_text.specs.Places.{Tail}

-- the reading of these bytes comes to what the reading of those behind comes to
abbrev pub AreReadOn : ℕ → ℕ → ℕ → List ℕ → ℕ → ℕ → List ℕ → Progress → Progress → Type 0
AreReadOn limit number start bytes n s more t u =
    read_lines limit read_content (placed_from number start (lines_of bytes)) t ≡ read_lines limit read_content (placed_from n s (lines_of more)) u

-- they end as those behind do
abbrev pub AreEndedOn : ℕ → ℕ → List ℕ → ℕ → ℕ → List ℕ → Tail → Tail → Type 0
AreEndedOn number start bytes n s more t u = tail_after t (placed_from number start (lines_of bytes)) ≡ tail_after u (placed_from n s (lines_of more))
