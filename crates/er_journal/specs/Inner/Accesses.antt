-- What an access in six bytes stands for. No public clause cites this file.
use Rattle.std.specs.Prelude.{ℕ, ◌+◌, ◌*◌, ◌/◌, ◌%◌, ◌==◌, cond}
use Rattle.er_event.specs.declared.steps.Kind.{Kind}
use Rattle.er_event.specs.declared.steps.Kind.TheVariants.{Read, Write}

-- a word, and what an access does to it
pub record Touch : Type 0 where
  pub kind : Kind
  pub word : ℕ

-- the number of a touch, from its three parts of 16 bits
abbrev pub touch_number : ℕ → ℕ → ℕ → ℕ
touch_number high middle low = high * 4294967296 + (middle * 65536 + low)

-- the touch of a number, which is twice the word, and one more for a write
abbrev pub touch_of : ℕ → Touch
touch_of packed = record { kind = cond (packed % 2 == 0) Read Write; word = packed / 2 }
