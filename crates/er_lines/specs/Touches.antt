-- What a reader says of the bytes that accesses touch, beside the text that it gives.
use Rattle.std.specs.Prelude.{◌≡◌, ◌≤◌, ℕ, All, List, ◌++◌, Option, Some}
use Rattle.er_lines.specs.declared.ready.Touch.{Touch}

-- what isn't handed out yet stays the same, if it is known
abbrev pub StaysKnown : Option (List Touch) → Option (List Touch) → Type 0
StaysKnown old new = (touches : List Touch) → old ≡ Some touches → new ≡ Some touches

-- the first of what wasn't handed out came behind these, and the others are of this line or of lines behind it
pub record HasHanded (old : List Touch) (new : Option (List Touch)) (before after : List Touch) (line : ℕ) : Type 0 where
  pub handed : List Touch
  pub left : List Touch
  pub given : after ≡ before ++ handed
  pub parted : old ≡ handed ++ left
  pub known : new ≡ Some left
  pub later : All (λ touch. line ≤ touch.line) left
