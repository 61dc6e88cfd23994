-- Where a block keeps the books of its words.
use Rattle.std.specs.Prelude.{◌≡◌, ℕ, zero, suc, ◌≤◌, ◌==◌, cond, List, [], ◌∷◌, length, Option, Some, None}
use Rattle.std.specs.List.{position_or_len}
use Rattle.er_explain.specs.Book.{Book, Untouched}
use Rattle.er_explain.specs.Inner.Packing.{unpacked}
use Rattle.er_explain.specs.declared.book.Access.{Access}
use Rattle.er_explain.specs.declared.book.Packed.{Packed}

-- the values from a place on, this many
unfoldable pub listed : {A : Type 0} → (ℕ → A) → ℕ → ℕ → List A
listed f start zero = []
listed f start (suc n) = f start ∷ listed f (suc start) n

-- where a place stands first, or how many there are
abbrev pub number_at : List ℕ → ℕ → ℕ
number_at places place = position_or_len (λ p. p == place) places

-- the first book of a place
unfoldable pub found_at : {X : Type 0} → List ℕ → List X → ℕ → Option X
found_at [] books place = None
found_at (p ∷ places) [] place = None
found_at (p ∷ places) (book ∷ books) place = cond (p == place) (Some book) (found_at places books place)

-- what it says; if there is none it is empty
abbrev pub opened : {A : Type 0} → Option (Packed A) → Book (Access A)
opened None = Untouched
opened (Some packed) = unpacked packed

-- the book of a place
abbrev pub book_of : {A : Type 0} → List ℕ → List (Packed A) → ℕ → Book (Access A)
book_of places books place = opened (found_at places books place)

-- the books of all places
unfoldable pub kept_books : {A : Type 0} → List ℕ → List (Packed A) → List (Book (Access A))
kept_books places books = listed (book_of places books) 0 256

-- each of so many books has a place, perhaps one that another has too
pub record HavePlaces (places : List ℕ) (count : ℕ) : Type 0 where
  pub few : count ≤ 256
  pub long : length places ≡ 256
