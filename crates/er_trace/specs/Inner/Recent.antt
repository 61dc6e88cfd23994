-- Names that are kept as numbers, beside the names that have numbers.
use Rattle.std.specs.Prelude.{◌≡◌, Bool, true, ℕ, zero, suc, ◌<◌, ◌≤◌, ◌+◌, ◌-◌, ◌/◌, ◌%◌, ◌++◌, List, [], ◌∷◌, min, length, take, drop}
use Rattle.std.specs.Int.Bits.{bit_and}
use Rattle.std.specs.List.{All, list_all}
use Rattle.er_trace.specs.Appended.{with_names}
use Rattle.er_trace.specs.declared.recent.Leading.{Leading}
use Rattle.er_trace.specs.declared.recent.ShortName.{ShortName}
use Rattle.er_trace.specs.declared.recent.Slot.{Slot}
use Rattle.er_trace.specs.declared.recent.RecentNames.{RecentNames}
use Rattle.er_trace.specs.Names.{is_known, number_of, most_names, is_plain_byte, IsPlain}

-- so many digits of a number to the base 256, the lowest first
abbrev pub unpacked : ℕ → ℕ → List ℕ
unpacked zero value = []
unpacked (suc n) value = (value % 256) ∷ unpacked n (value / 256)

abbrev pub bytes_of : ShortName → List ℕ
bytes_of name = unpacked (min name.len 8) name.first ++ unpacked (name.len - 8) name.rest

-- the name has this number
pub record Knows (names : List (List ℕ)) (name : List ℕ) (number : ℕ) : Type 0 where
  pub known : is_known names name ≡ true
  pub is : number_of names name ≡ number
  pub small : number < most_names

-- each name is new where it stands
abbrev pub AreDistinct : List (List ℕ) → Type 0
AreDistinct names = with_names [] names ≡ names

-- the same of a name of plain bytes
pub record IsRight (names : List (List ℕ)) (name : List ℕ) (number : ℕ) : Type 0 where
  pub knows : Knows names name number
  pub plain : list_all is_plain_byte name ≡ true

-- all names are such, if this is said of them
abbrev pub AreAll : (List ℕ → Bool) → Bool → List (List ℕ) → Type 0
AreAll is said names = said ≡ true → list_all is names ≡ true

-- this holds of each name in a slot and the number beside it
abbrev pub AreRight : List (List ℕ) → RecentNames → Type 0
AreRight names recent = All (λ (slot : Slot). 0 < slot.name.len → IsRight names (bytes_of slot.name) slot.number) recent.slots.items

-- a plain name of so many bytes stands in front of a space, and has this number
pub record IsLed (names : List (List ℕ)) (bytes : List ℕ) (number len : ℕ) : Type 0 where
  pub name : List ℕ
  pub plain : IsPlain names name number
  pub small : number < most_names
  pub size : length name ≡ len
  pub front : bytes ≡ name ++ 32 ∷ drop (len + 1) bytes

-- this holds of all bytes that the number fits under its mask
abbrev pub LeadsRight : List (List ℕ) → Leading → Type 0
LeadsRight names leading = (bytes : List ℕ) (block : ℕ) → 8 ≤ length bytes → unpacked 8 block ≡ take 8 bytes → bit_and block leading.mask ≡ leading.front
    → IsLed names bytes leading.number leading.len
