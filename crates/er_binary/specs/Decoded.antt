-- What a reader of a trace of any form still gives, and what it notes of accesses.
use Rattle.std.specs.Prelude.{◌≡◌, ℕ, Bool, cond, List, [], Option, Some, drop, option_map, take}
use Rattle.er_device.specs.Keeping.{kept_source}
use Rattle.er_lines.specs.declared.ready.NameKind.{NameKind}
use Rattle.er_lines.specs.declared.ready.Touch.{Touch}
use Rattle.er_binary.specs.Inner.Forms.{is_binary_by, is_noting_by, names_by, places_by, to_come_by, to_touch_by}
use Rattle.er_binary.specs.Meaning.{meant, touches}
use Rattle.er_binary.specs.declared.decoded.Decoded.{Decoded}

-- the reader that it reads
abbrev pub source_of : {R : Type 0} → Decoded R → R
source_of decoded = kept_source decoded.inner

-- the text that it gives of these bytes
unfoldable pub to_come : {R : Type 0} → Decoded R → List ℕ → List ℕ
to_come decoded bytes = let first = take decoded.held decoded.first in to_come_by decoded.form first (drop decoded.given first) bytes

-- it has given nothing yet: of any bytes it gives the text that they mean
abbrev pub IsFresh : {R : Type 0} → Decoded R → Type 0
IsFresh decoded = (bytes : List ℕ) → to_come decoded bytes ≡ meant bytes

-- the names of the places so far
abbrev pub places_of : {R : Type 0} → Decoded R → List (List ℕ)
places_of decoded = places_by decoded.form

-- the name of a number, and no bytes if it has none
abbrev pub names_of : {R : Type 0} → Decoded R → NameKind → ℕ → List ℕ
names_of decoded = names_by decoded.form

-- what accesses touch that was noted and not handed out, and what is to be noted of these bytes
unfoldable pub to_touch : {R : Type 0} → Decoded R → List ℕ → List Touch
to_touch decoded bytes = to_touch_by decoded.form (take decoded.held decoded.first) bytes

-- it has noted nothing yet: of any bytes it notes what their accesses touch
abbrev pub TouchesFresh : {R : Type 0} → Decoded R → Type 0
TouchesFresh decoded = (bytes : List ℕ) → to_touch decoded bytes ≡ touches bytes

-- whether it notes what accesses touch
abbrev pub is_noting : {R : Type 0} → Decoded R → Bool
is_noting decoded = is_noting_by decoded.form decoded.is_noting

-- whether it has read the beginning of a binary trace
abbrev pub is_binary : {R : Type 0} → Decoded R → Bool
is_binary decoded = is_binary_by decoded.form

-- what is known of what is to be handed out, by what is known of the bytes of the reader that it reads. Nothing is, if nothing is noted
abbrev pub known_touches : {R : Type 0} → (R → Option (List ℕ)) → Decoded R → Option (List Touch)
known_touches remaining decoded = cond (is_noting decoded) (option_map (to_touch decoded) (remaining (source_of decoded))) (Some [])
