-- What a store may keep of a word that accesses touch in parts: other accesses than all, if from then on each clock finds the same among them.
use Rattle.std.specs.Prelude.{ℕ, ◌≡◌, ◌≤◌, not, nat_le, Bool, true, ◌&&◌, ◌||◌, List, ◌∷◌, ◌++◌, length, Option, Some, None}
use Rattle.std.specs.List.{find}
use Rattle.er_event.specs.declared.steps.Step.{Step}
use Rattle.er_order.specs.Order.{acts_of}
use Rattle.er_order.specs.Clocks.{Epoch, OfThread, clocks_at, covers}
use Rattle.er_order.specs.Following.{is_unordered}
use Rattle.er_order.specs.ByBytes.{meet}
use Rattle.er_order.specs.declared.bytes.Bytes.{Bytes}

-- an access, as later ones see it
pub record Part : Type 0 where
  pub epoch : Epoch
  pub is_write : Bool
  pub bytes : Bytes

-- what a later access or a reuse asks for: whether it writes, and its bytes, where none says all
pub record Query : Type 0 where
  pub is_write : Bool
  pub bytes : Option Bytes

-- these bytes have one in common with those that are asked for
abbrev pub touches : Option Bytes → Bytes → Bool
touches None bytes = true
touches (Some asked) bytes = meet bytes asked

-- who asks conflicts with the access and has a clock that doesn't cover it
abbrev pub hits : (ℕ → ℕ) → Query → Part → Bool
hits clock query part = (part.is_write || query.is_write) && (touches query.bytes part.bytes && is_unordered clock part.epoch)

-- the first one of these that is hit, where each has a part
abbrev pub first_hit : {E : Type 0} → (E → Part) → (ℕ → ℕ) → Query → List E → Option E
first_hit part clock query accesses = find (λ access. hits clock query (part access)) accesses

-- each byte of these is one of those
abbrev pub is_inside : Bytes → Bytes → Bool
is_inside a b = nat_le b.first a.first && nat_le a.last b.last

-- beside a new access, whose thread has this clock, the old one may be hit alone: the clock doesn't cover it, it has other bytes, or it alone writes
abbrev pub is_of_use : (ℕ → ℕ) → Part → Part → Bool
is_of_use clock new old = is_unordered clock old.epoch || (not (is_inside old.bytes new.bytes) || (old.is_write && not new.is_write))

-- after the list and after any longer one, whoever asks finds the same among these as among those
pub record ArePartsAlike {E : Type 0} (part : E → Part) (steps : List Step) (stored all : List E) : Type 0 where
  pub alike : (more : List Step) (n t : ℕ) (query : Query) → length steps ≤ n
      → first_hit part (clocks_at (acts_of (steps ++ more)) n (OfThread t)) query stored ≡ first_hit part (clocks_at (acts_of (steps ++ more)) n (OfThread t)) query all

-- what may be kept after one more access: a clock that has all of the accessing clock, if it covers the access, finds the same as if all were there
pub record IsPartNoted {E : Type 0} (part : E → Part) (clock : ℕ → ℕ) (before : List E) (access : E) (after : List E) : Type 0 where
  pub noted : (later : ℕ → ℕ) (query : Query) → (covers later (part access).epoch ≡ true → (u : ℕ) → clock u ≤ later u)
      → first_hit part later query after ≡ first_hit part later query (access ∷ before)
