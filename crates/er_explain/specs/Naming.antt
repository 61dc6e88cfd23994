-- Books whose accesses are named otherwise than by their positions.
use Rattle.std.specs.Prelude.{map, Option, Some, None}
use Rattle.er_explain.specs.Joined.{Joining}
use Rattle.er_explain.specs.declared.book.Pair.{Pair}
use Rattle.er_explain.specs.Book.{Book, Untouched, Owned, Joined}

-- what was found, by its other name
abbrev pub named_option : {A B : Type 0} → (A → B) → Option A → Option B
named_option f None = None
named_option f (Some a) = Some (f a)

-- a lock, and the access that it doesn't cover by its other name
abbrev pub named_pair : {A B : Type 0} → (A → B) → Pair A → Pair B
named_pair f pair = record { lock = pair.lock; at = named_option f pair.at }

-- what was found of a word that two threads accessed, each access by its other name
abbrev pub named_joining : {A B : Type 0} → (A → B) → Joining A → Joining B
named_joining f j = record { first = f j.first; join = f j.join; write = named_option f j.write; pairs = map (named_pair f) j.pairs }

-- each access of the book has the name that stands for its own
abbrev pub named_book : {A B : Type 0} → (A → B) → Book A → Book B
named_book f Untouched = Untouched
named_book f (Owned thread first) = Owned thread (f first)
named_book f (Joined j) = Joined (named_joining f j)
