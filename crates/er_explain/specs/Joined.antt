-- A word that a second thread has joined.
use Rattle.std.specs.Prelude.{List, Option}
use Rattle.er_explain.specs.declared.book.Pair.{Pair}

-- the first access, the joining, and the first write since, if there is one, each as it is named, and each lock of the joining
pub record Joining (A : Type 0) : Type 0 where
  pub first : A
  pub join : A
  pub write : Option A
  pub pairs : List (Pair A)
