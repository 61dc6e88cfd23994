-- A trace that was opened by its path, before and behind its first read.
use Rattle.std.specs.Prelude.{◌≡◌, ℕ, Bool, false, cond, List, [], Option, Some, option_map}
use Rattle.er_binary.specs.Decoded.{IsFresh, TouchesFresh, is_binary, is_noting, known_touches, source_of, to_come}
use Rattle.er_binary.specs.Meaning.{meant, touches}
use Rattle.er_binary.specs.declared.decoded.Decoded.{Decoded}

-- nothing was read of it, and nothing is noted
abbrev pub IsUnread : {F : Type 0} → Decoded F → Type 0
IsUnread decoded = IsFresh decoded × TouchesFresh decoded × (is_noting decoded ≡ false) × (is_binary decoded ≡ false)

-- all of the text is to come that these bytes mean, and all that its accesses touch if that is noted
abbrev pub GivesAll : {F : Type 0} → (F → Option (List ℕ)) → Bool → List ℕ → Decoded F → Type 0
GivesAll remaining notes bytes decoded =
    (option_map (to_come decoded) (remaining (source_of decoded)) ≡ Some (meant bytes)) × (known_touches remaining decoded ≡ Some (cond notes (touches bytes) []))
