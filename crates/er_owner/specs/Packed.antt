-- A word's state in 32 bits: two bits of state above thirty bits of a number.
use Rattle.std.specs.Prelude.{◌≡◌, ℕ, ◌+◌, ◌-◌, ◌*◌, ◌^◌, ◌<◌, nat_lt, nat_eq, Bool, cond}
use Rattle.std.specs.Cmp.{IsPartialEquivalence, IsEquivalence, nat_eq_equiv, partial_equiv_from_equiv, on_equiv}
use Rattle.er_owner.specs.declared.states.NumberedState.{NumberedState}
use Rattle.er_owner.specs.declared.states.NumberedState.TheVariants.{Virgin, Exclusive, Shared, SharedModified}

-- the bits of a state
abbrev pub bits_of : NumberedState → ℕ
bits_of Virgin = 0
bits_of (Exclusive thread) = 2 ^ 30 + thread
bits_of (Shared set) = 2 * 2 ^ 30 + set
bits_of (SharedModified set) = 3 * 2 ^ 30 + set

-- the state that bits tell
abbrev pub state_of : ℕ → NumberedState
state_of bits = cond (nat_lt bits (2 ^ 30)) Virgin (cond (nat_lt bits (2 * 2 ^ 30)) (Exclusive (bits - 2 ^ 30)) (cond (nat_lt bits (3 * 2 ^ 30)) (Shared (bits - 2 * 2 ^ 30)) (SharedModified (bits - 3 * 2 ^ 30))))

-- they are the bits of a state, with no other bit
abbrev pub IsPacked : ℕ → Type 0
IsPacked bits = bits_of (state_of bits) ≡ bits

-- the number has thirty bits
abbrev pub IsSmall : NumberedState → Type 0
IsSmall Virgin = Unit {0}
IsSmall (Exclusive thread) = thread < 2 ^ 30
IsSmall (Shared set) = set < 2 ^ 30
IsSmall (SharedModified set) = set < 2 ^ 30

-- what `==` answers of two words
abbrev pub same_bits : NumberedState → NumberedState → Bool
same_bits p q = nat_eq (bits_of p) (bits_of q)

-- `==` of words is reflexive, symmetric and transitive
abbrev pub same_bits_equiv : IsEquivalence same_bits
same_bits_equiv = on_equiv bits_of nat_eq_equiv

-- and so it is the last two, which is all that `==` of a type must be
abbrev pub same_bits_per : IsPartialEquivalence same_bits
same_bits_per = partial_equiv_from_equiv same_bits_equiv
