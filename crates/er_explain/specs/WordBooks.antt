-- The books of all words, in blocks of 256 words.
use Rattle.std.specs.Prelude.{ℕ, ◌/◌, ◌%◌, ◌&&◌, nat_eq, nat_le, Bool, List, slice_index_or, Option, Some, None}
use Rattle.std.specs.Map.{lookup}
use Rattle.er_explain.specs.Joined.{Joining}
use Rattle.er_explain.specs.Book.{Book, Untouched, Owned, Joined}

-- the blocks that are there, by number, with their books
abbrev pub Blocks : Type 0 → Type 0
Blocks A = List (ℕ × List (Book A))

-- the book at a place of a block; past the block's end it is empty
abbrev pub book_at_place : {A : Type 0} → List (Book A) → ℕ → Book A
book_at_place books place = slice_index_or books place Untouched

-- where there is no block, it is empty
abbrev pub book_in_block : {A : Type 0} → Option (List (Book A)) → ℕ → Book A
book_in_block None place = Untouched
book_in_block (Some books) place = book_at_place books place

-- the book of word w
unfoldable pub book_in : {A : Type 0} → Blocks A → ℕ → Book A
book_in blocks w = book_in_block (lookup (nat_eq (w / 256)) blocks) (w % 256)

-- what a book says of the joining, if a second thread has joined
abbrev pub joining_in : {A : Type 0} → Book A → Option (Joining A)
joining_in Untouched = None
joining_in (Owned thread first) = None
joining_in (Joined joining) = Some joining

-- the word stands in the block of this number, at one of these places
abbrev pub is_place_in : ℕ → ℕ → ℕ → ℕ → Bool
is_place_in number lo hi w = nat_eq number (w / 256) && (nat_le lo (w % 256) && nat_le (w % 256) hi)
