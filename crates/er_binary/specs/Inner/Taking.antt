-- What a call that takes a record does.
use Rattle.std.specs.Prelude.{◌≡◌, ℕ, List, ◌++◌, Option, Some, None}
use Rattle.er_binary.specs.Meaning.{Taken}
use Rattle.er_binary.specs.declared.state.State.{State}

-- the text grew by that of the record, and the rest is as behind it. If none may come, nothing changed
abbrev pub HasTaken : Option Taken → List ℕ → List ℕ → State → State → Option ℕ → Type 0
HasTaken None old new s t len = (len ≡ None) × (new ≡ old) × (t ≡ s)
HasTaken (Some taken) old new s t len = (len ≡ Some taken.len) × (new ≡ old ++ taken.text) × (t ≡ taken.state)
