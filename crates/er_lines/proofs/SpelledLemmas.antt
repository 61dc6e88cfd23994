-- Words that are spelled out, and words that all have bytes.
use Rattle.std.proofs.Common.{◌≡◌, ℕ, true, List}
use Rattle.std.specs.List.{list_all}
use Rattle.std.specs.Str.{bytes_eq}
use Rattle.std.proofs.lemmas.Slice.Eq.{bytes_eq-Decides}
use Rattle.er_lines.specs.Lines.{has_bytes}

pub equal : (xs ys : List ℕ) → bytes_eq xs ys ≡ true → xs ≡ ys
equal xs ys e = (bytes_eq-Decides xs ys).0 e

-- each of these words has bytes
abbrev pub AreWhole : List (List ℕ) → Type 0
AreWhole ws = list_all has_bytes ws ≡ true
