-- How the counts in tables of clocks go through joins and ticks.
use Rattle.std.proofs.Common.{◌≡◌, ℕ, ◌+◌, ◌<◌, max, Bool, true, false, ◌&&◌, cond, ◌==◌, refl, ap, ap₂, sym, ◌∙◌, arith}
use Rattle.std.proofs.lemmas.Bool.{eqb-true, and_parts}
use Rattle.er_order.proofs.ClockSteps.{flip}
use Rattle.er_clock.specs.Clock.{Counts, count_in}
use Rattle.er_clock.specs.Table.{known_by}
use Rattle.er_clock.specs.Counts.{ClockMap, own_begun, known_to}

-- a clock with the thread's own count risen takes the place of the thread's
pub risen : (at joined after : ClockMap) (from number : ℕ) (next : Counts) → number ≡ from → ((u : ℕ) → known_by joined from u ≡ known_by at from u) →
    ((u : ℕ) → count_in next u ≡ known_by at from u + cond (from == u) 1 0) →
    ((n u : ℕ) → known_by after n u ≡ cond (number == n) (count_in next u) (known_by joined n u)) →
    (t u : ℕ) → known_by after t u ≡ known_by joined t u + cond (t == from && from == u) 1 0
risen at joined after from number next is own count swapped t u = swapped t u ∙ by (number == t) refl
  where
    plus_zero : (x : ℕ) → x ≡ x + 0
    plus_zero x = omega arith

    by : (b : Bool) → (number == t) ≡ b → cond b (count_in next u) (known_by joined t u) ≡ known_by joined t u + cond (t == from && from == u) 1 0
    by true here =
        let same : t ≡ from = sym (eqb-true number t here) ∙ is in
        count u ∙ ap (λ k. k + cond (from == u) 1 0) (sym (own u) ∙ ap (λ x. known_by joined x u) (sym same))
        ∙ ap (λ b. known_by joined t u + cond (b && from == u) 1 0) (sym (Rattle.std.proofs.lemmas.Bool.eq-eqb t from same))
    by false apart =
        plus_zero (known_by joined t u)
        ∙ ap (λ b. known_by joined t u + cond (b && from == u) 1 0) (sym apart ∙ ap (λ x. x == t) is ∙ flip from t)

-- what is joined into the clock of a thread's number, with the numbers the other way round
pub known-taken : (old new : ClockMap) (thread number : ℕ) (count : ℕ → ℕ) → number ≡ thread →
    ((n u : ℕ) → known_by new n u ≡ cond (number == n) (max (known_by old n u) (count u)) (known_by old n u)) →
    (t u : ℕ) → known_by new t u ≡ cond (t == thread) (max (known_by old t u) (count u)) (known_by old t u)
known-taken old new thread number count is joined t u =
    joined t u ∙ ap (λ b. cond b (max (known_by old t u) (count u)) (known_by old t u)) (flip number t ∙ ap (λ n. t == n) is)

-- what is taken into a thread's clock
pub taken-to : (old new : ClockMap) (t u c : ℕ) (b : Bool) →
    known_by new t u ≡ cond b (max (known_by old t u) c) (known_by old t u) →
    known_to new t u ≡ cond b (max (known_to old t u) c) (known_to old t u)
taken-to old new t u c true is = omega (arith, is)
taken-to old new t u c false is = omega (arith, is)

-- a clock with a thread's first count alone, taken into the thread's, changes nothing that is known
pub begun-same : (old new : ClockMap) (thread : ℕ) (first : Counts) → ((u : ℕ) → count_in first u ≡ own_begun thread u) →
    ((t u : ℕ) → known_by new t u ≡ cond (t == thread) (max (known_by old t u) (count_in first u)) (known_by old t u)) → (t u : ℕ) → known_to new t u ≡ known_to old t u
begun-same old new thread first own is t u = taken-to old new t u (count_in first u) (t == thread) (is t u) ∙ by (t == thread) refl
  where
    twice : (x o c : ℕ) → c ≡ o → max (max x o) c ≡ max x o
    twice x o c same = omega (arith, same)

    by : (b : Bool) → (t == thread) ≡ b → cond b (max (known_to old t u) (count_in first u)) (known_to old t u) ≡ known_to old t u
    by true e = twice (known_by old t u) (own_begun t u) (count_in first u) (own u ∙ ap (λ x. own_begun x u) (sym (eqb-true t thread e)))
    by false e = refl

-- what a ready thread hands on is what it knows
pub ready-known : (at : ClockMap) (thread : ℕ) → 0 < known_by at thread thread → (u : ℕ) → known_by at thread u ≡ known_to at thread u
ready-known at thread begun u = by (thread == u) refl
  where
    by : (b : Bool) → (thread == u) ≡ b → known_by at thread u ≡ max (known_by at thread u) (cond b 1 0)
    by true e =
        let same : known_by at thread thread ≡ known_by at thread u = ap (known_by at thread) (eqb-true thread u e) in
        omega arith
    by false e = omega arith

-- a tick of a ready thread
pub ticked-to : (at after : ClockMap) (thread : ℕ) → 0 < known_by at thread thread →
    ((t u : ℕ) → known_by after t u ≡ known_by at t u + cond (t == thread && thread == u) 1 0) →
    (t u : ℕ) → known_to after t u ≡ known_to at t u + cond (t == thread && thread == u) 1 0
ticked-to at after thread begun is t u = by (t == thread && thread == u) (t == u) refl
  where
    by : (f o : Bool) → (t == thread && thread == u) ≡ f → max (known_by after t u) (cond o 1 0) ≡ max (known_by at t u) (cond o 1 0) + cond f 1 0
    by true o e =
        let both = and_parts (t == thread) (thread == u) e in
        let one : thread ≡ t = sym (eqb-true t thread both.0) in
        let two : thread ≡ u = eqb-true thread u both.1 in
        let here : known_by at thread thread ≡ known_by at t u = ap (λ x. known_by at x thread) one ∙ ap (known_by at t) two in
        let next : known_by after t u ≡ known_by at t u + 1 = is t u ∙ ap (λ d. known_by at t u + cond d 1 0) e in
        lift o next here
      where
        lift : (o : Bool) → known_by after t u ≡ known_by at t u + 1 → known_by at thread thread ≡ known_by at t u →
            max (known_by after t u) (cond o 1 0) ≡ max (known_by at t u) (cond o 1 0) + 1
        lift true next here = omega arith
        lift false next here = omega arith
    by false o e =
        let stay : known_by after t u ≡ known_by at t u + 0 = is t u ∙ ap (λ d. known_by at t u + cond d 1 0) e in
        keep o stay
      where
        keep : (o : Bool) → known_by after t u ≡ known_by at t u + 0 → max (known_by after t u) (cond o 1 0) ≡ max (known_by at t u) (cond o 1 0) + 0
        keep true stay = omega arith
        keep false stay = omega arith

-- a cleared clock that a thread's is joined into
pub carried-known : (at : ClockMap) (from number : ℕ) (cleared got carried : Counts) → number ≡ from → ((u : ℕ) → count_in cleared u ≡ 0) →
    ((u : ℕ) → count_in got u ≡ known_by at number u) → ((u : ℕ) → count_in carried u ≡ max (count_in cleared u) (count_in got u)) →
    (u : ℕ) → count_in carried u ≡ known_by at from u
carried-known at from number cleared got carried is clear have all u =
    let first = all u in
    let second = clear u in
    let third : count_in got u ≡ known_by at from u = have u ∙ ap (λ n. known_by at n u) is in
    omega (arith, first, second, third)

-- what is handed on leaves the clock of the thread that hands it on
pub handed-own : (at next : ClockMap) (from to : ℕ) →
    ((t u : ℕ) → known_by next t u ≡ cond (t == to) (max (known_by at t u) (known_by at from u)) (known_by at t u)) →
    (u : ℕ) → known_by next from u ≡ known_by at from u
handed-own at next from to is u = is from u ∙ by (from == to) (known_by at from u)
  where
    by : (b : Bool) (x : ℕ) → cond b (max x x) x ≡ x
    by true x = omega arith
    by false x = refl

-- what a thread hands on to another one, before its own count rises
pub handed : (before at next after : ClockMap) (from to : ℕ) → 0 < known_by at from from → ((t u : ℕ) → known_to at t u ≡ known_to before t u) →
    ((t u : ℕ) → known_by next t u ≡ cond (t == to) (max (known_by at t u) (known_by at from u)) (known_by at t u)) →
    ((t u : ℕ) → known_by after t u ≡ known_by next t u + cond (t == from && from == u) 1 0) →
    (t u : ℕ) → known_to after t u ≡ cond (t == to) (max (known_to before t u) (known_to before from u)) (known_to before t u) + cond (t == from && from == u) 1 0
handed before at next after from to begun same is ticks t u =
    let own = handed-own at next from to is from in
    let first : 0 < known_by next from from = omega (arith, own) in
    ticked-to next after from first ticks t u
    ∙ ap (λ k. k + cond (t == from && from == u) 1 0)
    (taken-to at next t u (known_by at from u) (t == to) (is t u)
    ∙ ap (λ k. cond (t == to) (max (known_to at t u) k) (known_to at t u)) (ready-known at from begun u)
    ∙ ap₂ (λ k d. cond (t == to) (max k d) k) (same t u) (same from u))

-- what is carried from one thread's clock to another one's
pub carried-over : (at next : ClockMap) (from to number : ℕ) (cleared got carried : Counts) → number ≡ from → ((u : ℕ) → count_in cleared u ≡ 0) →
    ((u : ℕ) → count_in got u ≡ known_by at number u) → ((u : ℕ) → count_in carried u ≡ max (count_in cleared u) (count_in got u)) →
    ((t u : ℕ) → known_by next t u ≡ cond (t == to) (max (known_by at t u) (count_in carried u)) (known_by at t u)) →
    (t u : ℕ) → known_by next t u ≡ cond (t == to) (max (known_by at t u) (known_by at from u)) (known_by at t u)
carried-over at next from to number cleared got carried is clear have all taken t u =
    taken t u ∙ ap (λ k. cond (t == to) (max (known_by at t u) k) (known_by at t u)) (carried-known at from number cleared got carried is clear have all u)
