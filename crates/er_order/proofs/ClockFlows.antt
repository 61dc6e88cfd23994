-- Whoever knows a thread's count at a point knows what that thread knew there.
use Rattle.std.proofs.Common.{◌≡◌, ℕ, zero, suc, ◌+◌, ◌<◌, ◌≤◌, Bool, true, false, ◌&&◌, Option, Some, None, refl, arith, ⊎_elim}
use Rattle.std.proofs.lemmas.Bool.{eqb-true, and_left}
use Rattle.er_order.specs.Order.{Act, Acts}
use Rattle.er_order.specs.Clocks.{Keeper, OfThread, OfReleases, OfObject, is_own, raised, gives, flows, seen, clocks_at, own_count}
use Rattle.er_order.proofs.Keepers.{seen-found, found-seen}
use Rattle.er_order.proofs.Clocks.{raised-more, raised-seen, raised-kept, raised-or, ahead-at}

-- the point that is this much behind another one
abbrev pub behind : ℕ → ℕ → ℕ
behind zero n = n
behind (suc i) n = suc (behind i n)

pub behind-sum : (i n m : ℕ) → i + n ≡ m → behind i n ≡ m
behind-sum zero n m is = omega (arith, is)
behind-sum (suc i) n m is = let before = behind-sum i n (i + n) refl in omega (arith, is, before)

module _ (acts : Acts) where
  -- a clock keeps its counts
  more_by : (n : ℕ) (c : Keeper) (v : ℕ) (o : Option Act) → acts n ≡ o → clocks_at acts n c v ≤ clocks_at acts (suc n) c v
  unfolding clocks_at
  more_by n c v None is = rw is (omega arith)
  more_by n c v (Some b) is = rw is (raised-more (gives b c) (is_own c v && flows b v) (clocks_at acts n c v) (seen (clocks_at acts n) b v))

  pub clocks-more : (n i : ℕ) (c : Keeper) (v : ℕ) → clocks_at acts n c v ≤ clocks_at acts (behind i n) c v
  clocks-more n zero c v = omega arith
  clocks-more n (suc i) c v =
      let before = clocks-more n i c v in
      let next = more_by (behind i n) c v (acts (behind i n)) refl in
      omega (arith, before, next)

  module _ (n t : ℕ) where
    abbrev Knows : ℕ → Keeper → Type 0
    Knows m c = own_count acts n t ≤ clocks_at acts m c t → (v : ℕ) → clocks_at acts n (OfThread t) v ≤ clocks_at acts m c v

    own_keeper : (i : ℕ) (c : Keeper) → is_own c t ≡ true → (v : ℕ) → clocks_at acts n (OfThread t) v ≤ clocks_at acts (behind i n) c v
    own_keeper i (OfThread u) own v = let same : u ≡ t = eqb-true u t own in rw same (clocks-more n i (OfThread t) v)
    own_keeper i (OfReleases l m) own v = cc
    own_keeper i (OfObject x) own v = cc

    at_itself : (c : Keeper) (own : Bool) → is_own c t ≡ own → Knows n c
    unfolding own_count
    at_itself c true own low v = own_keeper zero c own v
    at_itself c false other low v = let below = ahead-at acts n c t other in absurd (omega arith)

    some_own : 0 < own_count acts n t
    unfolding own_count
    some_own = let below = ahead-at acts n (OfObject 0) t refl in omega arith

    -- at a point whose step is b
    module _ (m : ℕ) (b : Act) (is : acts m ≡ Some b) (knows : (c : Keeper) → Knows m c) (c : Keeper) where
      by_itself : own_count acts n t ≤ clocks_at acts m c t → (v : ℕ) → clocks_at acts n (OfThread t) v ≤ clocks_at acts (suc m) c v
      by_itself low v =
          let before = knows c low v in
          let next = more_by m c v (Some b) is in
          omega (arith, before, next)

      clock_next : (v : ℕ) → clocks_at acts (suc m) c v ≡ raised (gives b c) (is_own c v && flows b v) (clocks_at acts m c v) (seen (clocks_at acts m) b v)
      unfolding clocks_at
      clock_next v = rw is refl

      by_step : gives b c ≡ true → own_count acts n t ≤ seen (clocks_at acts m) b t → (v : ℕ) → clocks_at acts n (OfThread t) v ≤ clocks_at acts (suc m) c v
      by_step gave low v =
          let at = seen-found (clocks_at acts m) t (own_count acts n t) b some_own low in
          let known = found-seen (clocks_at acts m) v (clocks_at acts n (OfThread t) v) b at.0 at.1 (knows at.0 at.2 v) in
          let more = raised-seen (gives b c) (is_own c v && flows b v) (clocks_at acts m c v) (seen (clocks_at acts m) b v) gave in
          omega (arith, known, more, clock_next v)

      next_by : (g : Bool) → gives b c ≡ g → is_own c t ≡ false → Knows (suc m) c
      next_by true gave other low v =
          ⊎_elim
          (λ kept. by_itself kept v)
          (λ got. by_step gave got v)
          (raised-or (gives b c) (is_own c t && flows b t) (clocks_at acts m c t) (seen (clocks_at acts m) b t) (own_count acts n t) gave (and_left (is_own c t) (flows b t) other) (omega (arith, low, clock_next t)))
      next_by false kept other low v =
          let same = raised-kept (gives b c) (is_own c t && flows b t) (clocks_at acts m c t) (seen (clocks_at acts m) b t) kept (and_left (is_own c t) (flows b t) other) in
          by_itself (omega (arith, low, same, clock_next t)) v

    refused : (m : ℕ) → acts m ≡ None → (c : Keeper) → Knows m c → Knows (suc m) c
    unfolding clocks_at
    refused m none c knows low v = rw none (knows (rw none at low) v)

    next : (m : ℕ) (o : Option Act) → acts m ≡ o → ((c : Keeper) → Knows m c) → (c : Keeper) → is_own c t ≡ false → Knows (suc m) c
    next m None is knows c other = refused m is c (knows c)
    next m (Some b) is knows c other = next_by m b is knows c (gives b c) refl other

    next_any : (m : ℕ) → ((v : ℕ) (c : Keeper) → is_own c t ≡ true → clocks_at acts n (OfThread t) v ≤ clocks_at acts (suc m) c v) → ((c : Keeper) → Knows m c) → (c : Keeper) (own : Bool) → is_own c t ≡ own → Knows (suc m) c
    next_any m always knows c true own = λ low v. always v c own
    next_any m always knows c false other = next m (acts m) refl knows c other

    pub knows_all : (i : ℕ) (c : Keeper) → Knows (behind i n) c
    knows_all zero c = at_itself c (is_own c t) refl
    knows_all (suc i) c = next_any (behind i n) (λ v d own. own_keeper (suc i) d own v) (λ d. knows_all i d) c (is_own c t) refl
