-- What a reader keeps of what it gave.
use Rattle.std.specs.Prelude.{◌≡◌, ℕ, List, ◌++◌, Option, Some, None, option_map, vec_items}
use denote.Ref.{Bor}
use Rattle.er_device.specs.declared.keeping.Keeping.{Keeping}

-- the reader that it reads
abbrev pub kept_source : {R : Type 0} → Keeping R → R
kept_source keeping = keeping.inner

-- the bytes that it kept. None if it isn't to keep any, or lacked memory for them
abbrev pub kept_by : {R : Type 0} → Keeping R → Option (List ℕ)
kept_by keeping = option_map vec_items keeping.kept

-- the kept bytes grow by these, or are given up for want of memory, for good
abbrev pub GoesOn : Option (List ℕ) → Option (List ℕ) → List ℕ → Type 0
GoesOn old None bytes = Unit {0}
GoesOn None (Some new) bytes = ⊥
GoesOn (Some old) (Some new) bytes = new ≡ old ++ bytes

-- the bytes of a slice, without where they lie in memory
abbrev pub bytes_of : Bor (List ℕ) → List ℕ
bytes_of bytes = bytes.now
