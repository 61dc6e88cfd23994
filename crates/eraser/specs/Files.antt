-- What is said of the bytes of a file, which no clause ties to a path.
use Rattle.std.specs.Prelude.{ℕ, List, Option, IfSome}

-- so it is of the bytes of some file, if they are known; else this says nothing. That it is the file of a given path isn't shown
abbrev pub OfFile : {F : Type 0} → (F → Option (List ℕ)) → (List ℕ → Type 0) → Type 0
OfFile {F = F} remaining Is = (file : F) × IfSome (remaining file) Is
