-- A clock as its counts: those of the first 128 threads, and those of the others in rows of blocks.
use Rattle.std.specs.Prelude.{ℕ, ◌≡◌, ◌+◌, ◌-◌, ◌/◌, ◌%◌, ◌==◌, max, cond, nat_lt, List, [], get_or, map}

-- the counts of the first 128 threads, and those of the others
abbrev pub Counts : Type 0
Counts = List ℕ × List (List (List ℕ))

-- no counts: all are 0
abbrev pub nothing : Counts
nothing = ([], [])

-- the count at a place of the part with this number; past each end it is 0
abbrev pub count_in_part : {P : Type 0} → (P → ℕ → ℕ) → List P → ℕ → ℕ → ℕ
count_in_part counts parts part place = get_or (map (λ p. counts p place) parts) part 0

-- the count at a place of a row of parts, of which each has so many places
abbrev pub count_in_row : {P : Type 0} → (P → ℕ → ℕ) → ℕ → List P → ℕ → ℕ
count_in_row counts width parts place = count_in_part counts parts (place / width) (place % width)

-- the count at a place of a block
abbrev pub count_in_block : List ℕ → ℕ → ℕ
count_in_block block place = get_or block place 0

-- the count of the thread
unfoldable pub count_in : Counts → ℕ → ℕ
count_in (first, rest) thread = cond (nat_lt thread 128) (count_in_block first thread) (count_in_row (count_in_row count_in_block 128) 4096 rest (thread - 128))

-- the clock knows no step of any thread
abbrev pub IsZero : Counts → Type 0
IsZero counts = (u : ℕ) → count_in counts u ≡ 0

-- the clock has for each thread the count that it had
abbrev pub Stays : Counts → Counts → Type 0
Stays before after = (u : ℕ) → count_in after u ≡ count_in before u

-- the clock has for each thread the greater one of its own count and the other clock's
abbrev pub Joins : Counts → Counts → Counts → Type 0
Joins before other after = (u : ℕ) → count_in after u ≡ max (count_in before u) (count_in other u)

-- the clock's count of this thread is one more, and the others are as they were
abbrev pub Ticks : ℕ → Counts → Counts → Type 0
Ticks thread before after = (u : ℕ) → count_in after u ≡ count_in before u + cond (thread == u) 1 0
