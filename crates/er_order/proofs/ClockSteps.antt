-- What each step does to the clocks.
use Rattle.std.proofs.Common.{◌≡◌, ℕ, ◌+◌, max, Bool, true, false, ◌&&◌, ◌||◌, cond, ◌==◌, Some, refl, ap, sym, ◌∙◌, arith}
use Rattle.std.proofs.lemmas.Bool.{eq-eqb, eqb-true, and_parts, and_from}
use Rattle.er_event.specs.declared.steps.Mode.{Mode}
use Rattle.er_model.specs.Threads.{same_mode}
use Rattle.er_order.specs.Order.{Acquired, Released, Started, Joined, Signalled, Awaited, Local}
use Rattle.er_order.specs.Clocks.{Keeper, OfThread, OfReleases, OfObject, Clocks, is_own, is_of_releases, is_of_object, gives, flows, found, seen, raised, clocks_after}
use Rattle.er_order.proofs.Clocks.{equal_Bool}

pub flip : (x y : ℕ) → (x == y) ≡ (y == x)
flip x y = equal_Bool (x == y) (y == x) (λ e. eq-eqb y x (sym (eqb-true x y e))) (λ e. eq-eqb x y (sym (eqb-true y x e)))

pub and_none : (b : Bool) → (b && false) ≡ false
and_none true = refl
and_none false = refl

or_none : (b : Bool) → (b || false) ≡ b
or_none true = refl
or_none false = refl

-- a clock that takes more, or stays
taken : (b : Bool) (x y f : ℕ) → (b ≡ true → x ≡ y) → raised b false x (max y f) ≡ cond b (max x f) x
taken true x y f same = let is = same refl in omega (arith, is)
taken false x y f same = omega arith

-- a clock that gives what it knows has that already
kept_own : (b d : Bool) (x y : ℕ) → (b ≡ true → x ≡ y) → raised b d x (max y 0) ≡ x + cond d 1 0
kept_own true true x y same = let is = same refl in omega (arith, is)
kept_own true false x y same = let is = same refl in omega (arith, is)
kept_own false true x y same = omega arith
kept_own false false x y same = omega arith

given : (b : Bool) (x y : ℕ) → raised b false x (max y 0) ≡ cond b (max x y) x + 0
given true x y = omega arith
given false x y = omega arith

taken_on : (b d : Bool) (x y f : ℕ) → (b ≡ true → x ≡ y) → raised b d x (max y f) ≡ cond b (max x f) x + cond d 1 0
taken_on true true x y f same = let is = same refl in omega (arith, is)
taken_on true false x y f same = let is = same refl in omega (arith, is)
taken_on false true x y f same = omega arith
taken_on false false x y f same = omega arith

begun : (b e d : Bool) (x y : ℕ) → (b ≡ true → x ≡ y) → raised (b || e) d x (max y 0) ≡ cond e (max x y) x + cond d 1 0
begun true true true x y same = let is = same refl in omega (arith, is)
begun true true false x y same = let is = same refl in omega (arith, is)
begun true false true x y same = let is = same refl in omega (arith, is)
begun true false false x y same = let is = same refl in omega (arith, is)
begun false true true x y same = omega arith
begun false true false x y same = omega arith
begun false false true x y same = omega arith
begun false false false x y same = omega arith

pub and_all : (b : Bool) → (b && true) ≡ b
and_all true = refl
and_all false = refl

-- the clock of the thread whose count rises is its own
same_flow : (n s u : ℕ) → (n == u && s == u) ≡ (n == s && s == u)
same_flow n s u =
    equal_Bool (n == u && s == u) (n == s && s == u)
    (λ e. let both = and_parts (n == u) (s == u) e in
    and_from (n == s) (s == u) (eq-eqb n s (eqb-true n u both.0 ∙ sym (eqb-true s u both.1))) both.1)
    (λ e. let both = and_parts (n == s) (s == u) e in
    and_from (n == u) (s == u) (eq-eqb n u (eqb-true n s both.0 ∙ eqb-true s u both.1)) both.1)

module _ (clocks : Clocks) (t u : ℕ) where
  own_same : (n : ℕ) → (t == n) ≡ true → clocks (OfThread n) u ≡ clocks (OfThread t) u
  own_same n e = let same : t ≡ n = eqb-true t n e in rw same refl

  -- what neither flows on nor comes from another thread
  pub acquired : (l : ℕ) (m : Mode) (k : Keeper) → clocks_after clocks (Some (record { thread = t; sync = Acquired l m })) k u ≡
      cond (is_own k t) (max (clocks k u) (found clocks (Acquired l m) u)) (clocks k u)
  unfolding gives flows seen
  acquired l m (OfThread n) =
      rw (or_none (t == n), and_none (t == u), and_none (n == u))
      (taken (t == n) (clocks (OfThread n) u) (clocks (OfThread t) u) (found clocks (Acquired l m) u) (own_same n)
      ∙ ap (λ b. cond b (max (clocks (OfThread n) u) (found clocks (Acquired l m) u)) (clocks (OfThread n) u)) (flip t n))
  acquired l m (OfReleases lock mode) = omega arith
  acquired l m (OfObject object) = omega arith

  pub awaited : (x : ℕ) (k : Keeper) → clocks_after clocks (Some (record { thread = t; sync = Awaited x })) k u ≡
      cond (is_own k t) (max (clocks k u) (found clocks (Awaited x) u)) (clocks k u)
  unfolding gives flows seen
  awaited x (OfThread n) =
      rw (or_none (t == n), and_none (t == u), and_none (n == u))
      (taken (t == n) (clocks (OfThread n) u) (clocks (OfThread t) u) (found clocks (Awaited x) u) (own_same n)
      ∙ ap (λ b. cond b (max (clocks (OfThread n) u) (found clocks (Awaited x) u)) (clocks (OfThread n) u)) (flip t n))
  awaited x (OfReleases lock mode) = omega arith
  awaited x (OfObject object) = omega arith

  -- what a thread puts into another clock
  pub released : (l : ℕ) (m : Mode) (k : Keeper) → clocks_after clocks (Some (record { thread = t; sync = Released l m })) k u ≡
      cond (is_of_releases k l m) (max (clocks k u) (clocks (OfThread t) u)) (clocks k u) + cond (is_own k t && t == u) 1 0
  unfolding gives flows seen
  released l m (OfThread n) =
      rw (or_none (t == n), and_all (t == u), or_none (t == u))
      (kept_own (t == n) (n == u && t == u) (clocks (OfThread n) u) (clocks (OfThread t) u) (own_same n)
      ∙ ap (λ b. clocks (OfThread n) u + cond b 1 0) (same_flow n t u))
  released l m (OfReleases lock mode) = given (l == lock && same_mode m mode) (clocks (OfReleases lock mode) u) (clocks (OfThread t) u)
  released l m (OfObject object) = omega arith

  pub signalled : (x : ℕ) (k : Keeper) → clocks_after clocks (Some (record { thread = t; sync = Signalled x })) k u ≡
      cond (is_of_object k x) (max (clocks k u) (clocks (OfThread t) u)) (clocks k u) + cond (is_own k t && t == u) 1 0
  unfolding gives flows seen
  signalled x (OfThread n) =
      rw (or_none (t == n), and_all (t == u), or_none (t == u))
      (kept_own (t == n) (n == u && t == u) (clocks (OfThread n) u) (clocks (OfThread t) u) (own_same n)
      ∙ ap (λ b. clocks (OfThread n) u + cond b 1 0) (same_flow n t u))
  signalled x (OfReleases lock mode) = omega arith
  signalled x (OfObject object) = given (x == object) (clocks (OfObject object) u) (clocks (OfThread t) u)

  pub started : (v : ℕ) (k : Keeper) → clocks_after clocks (Some (record { thread = t; sync = Started v })) k u ≡
      cond (is_own k v) (max (clocks k u) (clocks (OfThread t) u)) (clocks k u) + cond (is_own k t && t == u) 1 0
  unfolding gives flows seen
  started v (OfThread n) =
      rw (and_all (t == u), or_none (t == u))
      (begun (t == n) (v == n) (n == u && t == u) (clocks (OfThread n) u) (clocks (OfThread t) u) (own_same n)
      ∙ ap (λ b. cond (v == n) (max (clocks (OfThread n) u) (clocks (OfThread t) u)) (clocks (OfThread n) u) + cond b 1 0) (same_flow n t u)
      ∙ ap (λ b. cond b (max (clocks (OfThread n) u) (clocks (OfThread t) u)) (clocks (OfThread n) u) + cond (n == t && t == u) 1 0) (flip v n))
  started v (OfReleases lock mode) = omega arith
  started v (OfObject object) = omega arith

  pub joined : (v : ℕ) (k : Keeper) → clocks_after clocks (Some (record { thread = t; sync = Joined v })) k u ≡
      cond (is_own k t) (max (clocks k u) (clocks (OfThread v) u)) (clocks k u) + cond (is_own k v && v == u) 1 0
  unfolding gives flows seen
  joined v (OfThread n) =
      rw (or_none (t == n), and_none (t == u))
      (taken_on (t == n) (n == u && v == u) (clocks (OfThread n) u) (clocks (OfThread t) u) (clocks (OfThread v) u) (own_same n)
      ∙ ap (λ b. cond (t == n) (max (clocks (OfThread n) u) (clocks (OfThread v) u)) (clocks (OfThread n) u) + cond b 1 0) (same_flow n v u)
      ∙ ap (λ b. cond b (max (clocks (OfThread n) u) (clocks (OfThread v) u)) (clocks (OfThread n) u) + cond (n == v && v == u) 1 0) (flip t n))
  joined v (OfReleases lock mode) = omega arith
  joined v (OfObject object) = omega arith

  -- and all else
  pub local : (k : Keeper) → clocks_after clocks (Some (record { thread = t; sync = Local })) k u ≡ clocks k u
  unfolding gives flows seen
  local (OfThread n) =
      rw (or_none (t == n), and_none (t == u), and_none (n == u))
      (kept_own (t == n) false (clocks (OfThread n) u) (clocks (OfThread t) u) (own_same n) ∙ nothing (clocks (OfThread n) u))
    where
      nothing : (x : ℕ) → x + 0 ≡ x
      nothing x = omega arith
  local (OfReleases lock mode) = omega arith
  local (OfObject object) = omega arith
