-- How far a reader of lines has come in a text.
use Rattle.std.specs.Prelude.{ℕ, List}

-- a place in a text: the most bytes of the text, the number of the next line, the bytes before that line, and those that were read ahead
pub record Place : Type 0 where
  pub limit : ℕ
  pub number : ℕ
  pub start : ℕ
  pub ahead : List ℕ
