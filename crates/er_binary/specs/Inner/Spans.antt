-- Names that lie one behind another in a run of bytes.
use Rattle.std.specs.Prelude.{ℕ, ◌≤◌, List, [], ◌∷◌, length, slice_range}
use Rattle.er_binary.specs.declared.names.Span.{Span}

-- the names that lie there
abbrev pub cut_all : List ℕ → List Span → List (List ℕ)
cut_all bytes [] = []
cut_all bytes (span ∷ spans) = slice_range bytes span.start span.end ∷ cut_all bytes spans

-- each of them lies within the bytes
abbrev pub AreWithin : List ℕ → List Span → Type 0
AreWithin bytes [] = Unit {0}
AreWithin bytes (span ∷ spans) = (span.start ≤ span.end) × (span.end ≤ length bytes) × AreWithin bytes spans
