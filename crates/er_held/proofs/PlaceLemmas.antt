-- How a search by halves comes to where a lock stands in a rising list, or where it belongs.
use Rattle.std.proofs.Common.{◌≡◌, ◌≢◌, ℕ, suc, ◌+◌, ◌-◌, ◌*◌, ◌/◌, ◌^◌, ◌<◌, ◌≤◌, Bool, true, false, cond, List, slice_index, is_le, is_lt, nat_cmp, arith, inl, inr, ⊎_elim, Less, Equal, Greater}
use mir.Val.{bool_byte}
use Rattle.std.specs.Cmp.{nat_cmp_is}
use Rattle.std.proofs.Math.Nat.{pow-succ'}
use Rattle.std.proofs.lemmas.Bool.{cases_lt, cases_order}
use Rattle.std.proofs.lemmas.List.Kept.{AllPairs-from_increasing}
use Rattle.std.proofs.lemmas.Map.Keys.{ge_from_not_lt, le_from_is_le}
use Rattle.std.specs.List.Sorted.{IsStrictlyIncreasing}
use Rattle.er_event.specs.Inner.Places.{BelongsAt}
use Rattle.er_held.specs.Inner.Halving.{IsWithin}

-- what a comparison says
pub less_from_lt : (a b : ℕ) → is_lt (nat_cmp a b) ≡ true → a < b
less_from_lt a b e = elim (cases_order a b) [
  | inl same ↦ let is : Equal ≡ nat_cmp a b = nat_cmp_is a b Equal same in let no : is_lt Equal ≡ true = rw (← is) at e in cc
  | inr (inl less) ↦ less
  | inr (inr more) ↦ let is : Greater ≡ nat_cmp a b = nat_cmp_is a b Greater more in let no : is_lt Greater ≡ true = rw (← is) at e in cc
]

pub more_from_not_le : (a b : ℕ) → is_le (nat_cmp a b) ≡ false → b < a
more_from_not_le a b e = elim (cases_order a b) [
  | inl same ↦ let is : Equal ≡ nat_cmp a b = nat_cmp_is a b Equal same in let no : is_le Equal ≡ false = rw (← is) at e in cc
  | inr (inl less) ↦ let is : Less ≡ nat_cmp a b = nat_cmp_is a b Less less in let no : is_le Less ≡ false = rw (← is) at e in cc
  | inr (inr more) ↦ more
]

-- half of what is left, and one less to halve
pub halved : (size counter : ℕ) → counter < 7 → size ≤ 2 ^ (7 - counter) → size - size / 2 ≤ 2 ^ (7 - (counter + 1))
halved size counter turn most =
    let next : 7 - counter ≡ suc (7 - (counter + 1)) = omega (arith, turn) in
    let twice : size ≤ 2 * 2 ^ (7 - (counter + 1)) = rw (next, pow-succ' 2 (7 - (counter + 1))) at most in
    omega (arith, twice)

module _ (locks : List ℕ) (lock base : ℕ) (rises : IsStrictlyIncreasing locks) where
  -- one half is left
  pub narrowed : (size half from : ℕ) (b : Bool) → IsWithin locks lock base size → half ≡ size / 2 → is_le (nat_cmp (slice_index locks (base + half)) lock) ≡ b → from ≡ cond b (base + half) base → IsWithin locks lock from (size - half)
  narrowed size half from true within halved low is =
      let inside = within.inside in
      let some = within.some in
      let least = le_from_is_le (slice_index locks (base + half)) lock low in
      rw is (record {
        some = omega arith;
        inside = omega arith;
        below = λ k under. let rise = AllPairs-from_increasing locks rises k (base + half) 0 under (omega arith) in omega (arith, least, rise);
        above = λ k over last. within.above k (omega arith) last;
      })
  narrowed size half from false within halved high is =
      let inside = within.inside in
      let some = within.some in
      let more = more_from_not_le (slice_index locks (base + half)) lock high in
      rw is (record {
        some = omega arith;
        inside = omega arith;
        below = within.below;
        above = λ k over last. elim (cases_lt (base + half) k) [
          | inl behind ↦ let rise = AllPairs-from_increasing locks rises (base + half) k 0 behind last in omega (arith, more, rise)
          | inr near ↦ let here : k ≡ base + half = omega arith in rw here more
        ];
      })

  -- one lock is left, which is another
  pub belongs_before : IsWithin locks lock base 1 → slice_index locks base ≢ lock → is_lt (nat_cmp (slice_index locks base) lock) ≡ false → BelongsAt locks lock base
  belongs_before within other no_less =
      let inside = within.inside in
      let most = ge_from_not_lt (slice_index locks base) lock no_less in
      record {
        within = omega arith;
        below = within.below;
        above = λ k over last. elim (cases_lt base k) [
          | inl behind ↦ within.above k (omega arith) last
          | inr near ↦ let here : k ≡ base = omega arith in rw here (above most)
        ];
      }
    where
      above : lock ≤ slice_index locks base → lock < slice_index locks base
      above most = ⊎_elim (λ less. less) (λ order. absurd (other (omega (arith, most, order)))) (cases_lt lock (slice_index locks base))

  pub belongs_behind : IsWithin locks lock base 1 → slice_index locks base < lock → BelongsAt locks lock (base + 1)
  belongs_behind within less =
      let inside = within.inside in
      record {
        within = omega arith;
        below = λ k under. elim (cases_lt k base) [
          | inl before ↦ within.below k before
          | inr near ↦ let here : k ≡ base = omega arith in rw here less
        ];
        above = within.above;
      }

  pub belongs : (b : Bool) → IsWithin locks lock base 1 → slice_index locks base ≢ lock → is_lt (nat_cmp (slice_index locks base) lock) ≡ b → BelongsAt locks lock (base + bool_byte b)
  belongs true within other less = belongs_behind within (less_from_lt (slice_index locks base) lock less)
  belongs false within other no_less = let same : base + 0 ≡ base = omega arith in rw same (belongs_before within other no_less)
