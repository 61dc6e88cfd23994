-- What a reader of a trace of any form keeps, by what its first bytes were found to begin.
use Rattle.std.specs.Prelude.{ℕ, Bool, true, false, List, [], ◌++◌}
use Rattle.er_lines.specs.declared.ready.NameKind.{NameKind}
use Rattle.er_lines.specs.declared.ready.Touch.{Touch}
use Rattle.er_binary.specs.Inner.Decoders.{still, to_note}
use Rattle.er_binary.specs.Meaning.{meant, touches}
use Rattle.er_binary.specs.States.{names_in}
use Rattle.er_binary.specs.declared.decoded.Form.{Form}
use Rattle.er_binary.specs.declared.decoded.Form.TheVariants as form

-- the text to come: by the first bytes, those of them that are not given yet, and the bytes behind them
abbrev pub to_come_by : Form → List ℕ → List ℕ → List ℕ → List ℕ
to_come_by form.Unknown first left bytes = meant (first ++ bytes)
to_come_by form.Text first left bytes = left ++ bytes
to_come_by (form.Binary decoder) first left bytes = still decoder bytes

-- the names of the places so far, which a text doesn't number
abbrev pub places_by : Form → List (List ℕ)
places_by (form.Binary decoder) = decoder.state.places
places_by f = []

-- the name of a number, and no bytes if it has none, as in a text
abbrev pub names_by : Form → NameKind → ℕ → List ℕ
names_by (form.Binary decoder) = names_in decoder.state
names_by f = λ kind n. []

-- what is noted and to be noted of accesses, by the first bytes and those behind them
abbrev pub to_touch_by : Form → List ℕ → List ℕ → List Touch
to_touch_by form.Unknown first bytes = touches (first ++ bytes)
to_touch_by form.Text first bytes = []
to_touch_by (form.Binary decoder) first bytes = to_note decoder bytes

-- whether what accesses touch is noted; before a binary trace has begun, whether that was asked for
abbrev pub is_noting_by : Form → Bool → Bool
is_noting_by (form.Binary decoder) asked = decoder.notes.is_on
is_noting_by f asked = asked

-- whether the beginning of a binary trace was read
abbrev pub is_binary_by : Form → Bool
is_binary_by (form.Binary decoder) = true
is_binary_by f = false
