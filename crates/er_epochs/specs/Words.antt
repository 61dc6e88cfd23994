-- What is kept of all words: the words in blocks of 32, with the accesses of those that were touched in part, and lists of reads beside some of them.
use Rattle.std.specs.Prelude.{ℕ, ◌≡◌, ◌<◌, ◌+◌, ◌^◌, ◌/◌, ◌%◌, ◌&&◌, nat_eq, nat_le, Bool, true, false, cond, List, [], slice_index_or, Option, Some, None}
use Rattle.std.specs.Map.{lookup}
use Rattle.std.specs.Option.{unwrap_or}
use Rattle.er_epochs.specs.declared.reads.Tagged.{Tagged}
use Rattle.er_epochs.specs.declared.word.OrderWord.{OrderWord}
use Rattle.er_epochs.specs.Epochs.{Stored, Accesses, Told, Readers, Alone, access_in, readers_in, reads_beside}
use Rattle.er_epochs.specs.Known.{Known, known_of}

-- what a word says: whether a race was reported, its last write, and its reads
pub record Said (A : Type 0) : Type 0 where
  pub told : Bool
  pub write : Option (Tagged A)
  pub readers : Readers A

-- what a word says by its numbers and counts; a certain number in the place of the writer says that a race was reported
abbrev pub said : {A : Type 0} → OrderWord A → Said A
said word = record { told = nat_eq word.writer (2 ^ 30 + 1); write = access_in word.writer word.write_count word.write_tag; readers = readers_in word.reader word.read_count word.read_tag }

-- the two words say the same, but for their tags
abbrev pub IsButForTags : {A : Type 0} → OrderWord A → OrderWord A → Type 0
IsButForTags word other = (other.writer ≡ word.writer) × (other.write_count ≡ word.write_count) × (other.reader ≡ word.reader) × (other.read_count ≡ word.read_count)

-- a word that says nothing
abbrev pub blank : {A : Type 0} → Said A
blank = record { told = false; write = None; readers = Alone None }

-- what is stored of a word by what it says and the list of reads beside it
abbrev pub stored_with : {A : Type 0} → Said A → List (Tagged A) → Stored A
stored_with word listed = cond word.told Told (Accesses (record { write = word.write; reads = reads_beside word.readers listed }))

-- what is stored of a word with this list of reads beside it
abbrev pub stored_in : {A : Type 0} → OrderWord A → List (Tagged A) → Stored A
stored_in word listed = stored_with (said word) listed

-- lists by the numbers of their words
abbrev pub WordLists : Type 0 → Type 0
WordLists A = List (ℕ × List (Tagged A))

-- the list beside the word of this number
abbrev pub list_of : {A : Type 0} → WordLists A → ℕ → List (Tagged A)
list_of lists w = unwrap_or (lookup (nat_eq w) lists) []

-- what the word of this number says with these lists
abbrev pub stored_beside : {A : Type 0} → WordLists A → ℕ → Said A → Stored A
stored_beside lists w word = stored_with word (list_of lists w)

-- the words of a block, and by the places of those that were touched in part what is known of them
pub record BlockWords (A : Type 0) : Type 0 where
  pub words : List (Said A)
  pub split : List (ℕ × Known A)

-- the word at a place
abbrev pub word_at : {A : Type 0} → List (Said A) → ℕ → Said A
word_at words place = slice_index_or words place blank

-- what stands at a place: the word, and what is known of it if it was touched in part
pub record Slot (A : Type 0) : Type 0 where
  pub word : Said A
  pub split : Option (Known A)

-- what stands at a place of a block
abbrev pub slot_at : {A : Type 0} → BlockWords A → ℕ → Slot A
slot_at block place = record { word = word_at block.words place; split = lookup (nat_eq place) block.split }

-- what stands at a place of a block that is not there
abbrev pub vacant : {A : Type 0} → Slot A
vacant = record { word = blank; split = None }

-- what stands at a place of a block that may not be there
abbrev pub slot_in_block : {A : Type 0} → Option (BlockWords A) → ℕ → Slot A
slot_in_block None place = vacant
slot_in_block (Some block) place = slot_at block place

-- the blocks that are there, by number
abbrev pub WordBlocks : Type 0 → Type 0
WordBlocks A = List (ℕ × BlockWords A)

-- what stands at the place of the word of this number
abbrev pub slot_among : {A : Type 0} → WordBlocks A → ℕ → Slot A
slot_among blocks w = slot_in_block (lookup (nat_eq (w / 32)) blocks) (w % 32)

-- what is known of a word by what stands at its place and the list of reads beside it
abbrev pub known_with : {A : Type 0} → Slot A → List (Tagged A) → Known A
known_with slot listed = unwrap_or slot.split (known_of (stored_with slot.word listed))

-- what is known of the word of this number with these lists
abbrev pub known_beside : {A : Type 0} → WordLists A → ℕ → Slot A → Known A
known_beside lists w slot = known_with slot (list_of lists w)

-- the blocks and the lists that are there
pub record AllWords (A : Type 0) : Type 0 where
  pub blocks : WordBlocks A
  pub lists : WordLists A

-- what is known of the word of this number
unfoldable pub known_among : {A : Type 0} → AllWords A → ℕ → Known A
known_among all w = known_beside all.lists w (slot_among all.blocks w)

-- the word stands in the block of this number, at one of these places
abbrev pub is_place_in : ℕ → ℕ → ℕ → ℕ → Bool
is_place_in number lo hi w = nat_eq number (w / 32) && (nat_le lo (w % 32) && nat_le (w % 32) hi)

-- the lowest number that passes the test, if one does
abbrev pub IsLowest : (ℕ → Bool) → Option ℕ → Type 0
IsLowest test (Some n) = (test n ≡ true) × ((k : ℕ) → k < n → test k ≡ false)
IsLowest test None = (k : ℕ) → test k ≡ false
