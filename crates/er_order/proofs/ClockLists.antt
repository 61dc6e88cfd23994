-- Lists of numbers go through a step as the clocks do that they stand for.
use Rattle.std.proofs.Common.{◌≡◌, ℕ, zero, suc, ◌+◌, max, Bool, true, false, ◌&&◌, cond, ◌==◌, List, [], ◌∷◌, get_or, Option, Some, None, refl, ap₂, ◌∙◌, arith}
use Rattle.std.proofs.lemmas.Bool.{eqb-true, eqb-false}
use Rattle.er_event.specs.declared.steps.Mode.TheVariants.{Read, Write}
use Rattle.er_order.specs.Order.{Effect, Acquired, Released, Started, Joined, Signalled, Awaited, Local, Act}
use Rattle.er_order.specs.Clocks.{Keeper, OfThread, OfReleases, OfObject, Clocks, gives, flows, found, seen, clocks_after}
use Rattle.er_order.specs.ClockLists.{merged, ticked, ClockLists, found_list, lists_after, StandForClocks}

max_zero : (x : ℕ) → x ≡ max x 0
max_zero x = omega arith

zero_max : (x : ℕ) → x ≡ max 0 x
zero_max x = omega arith

pub get-merged : (xs ys : List ℕ) (u : ℕ) → get_or (merged xs ys) u 0 ≡ max (get_or xs u 0) (get_or ys u 0)
unfolding merged
get-merged [] ys u = zero_max (get_or ys u 0)
get-merged (x ∷ xs) [] u = max_zero (get_or (x ∷ xs) u 0)
get-merged (x ∷ xs) (y ∷ ys) zero = refl
get-merged (x ∷ xs) (y ∷ ys) (suc u) = get-merged xs ys u

get-ticked_same : (t : ℕ) (xs : List ℕ) → get_or (ticked t xs) t 0 ≡ get_or xs t 0 + 1
unfolding ticked
get-ticked_same zero [] = refl
get-ticked_same zero (x ∷ xs) = omega arith
get-ticked_same (suc t) [] = get-ticked_same t []
get-ticked_same (suc t) (x ∷ xs) = get-ticked_same t xs

get-ticked_other : (t u : ℕ) (xs : List ℕ) → (t ≡ u → ⊥) → get_or (ticked t xs) u 0 ≡ get_or xs u 0
unfolding ticked
get-ticked_other zero zero xs other = absurd (other refl)
get-ticked_other zero (suc u) [] other = refl
get-ticked_other zero (suc u) (x ∷ xs) other = refl
get-ticked_other (suc t) zero [] other = refl
get-ticked_other (suc t) zero (x ∷ xs) other = refl
get-ticked_other (suc t) (suc u) [] other = get-ticked_other t u [] (λ same. other (omega (arith, same)))
get-ticked_other (suc t) (suc u) (x ∷ xs) other = get-ticked_other t u xs (λ same. other (omega (arith, same)))

plus_zero : (x : ℕ) → x ≡ x + 0
plus_zero x = omega arith

pub tick-runs : (t u x : ℕ) (xs : List ℕ) (f own : Bool) → (t == u) ≡ own → get_or xs u 0 ≡ x → get_or (cond f (ticked t xs) xs) u 0 ≡ x + cond (own && f) 1 0
tick-runs t u x xs true true same is =
    let here : t ≡ u = eqb-true t u same in
    rw here (get-ticked_same u xs ∙ rw is refl)
tick-runs t u x xs true false other is = get-ticked_other t u xs (eqb-false t u other) ∙ is ∙ plus_zero x
tick-runs t u x xs false true same is = is ∙ plus_zero x
tick-runs t u x xs false false other is = is ∙ plus_zero x

module _ (lists : ClockLists) (clocks : Clocks) (stand : StandForClocks lists clocks) where
  found-list : (d : Effect) (u : ℕ) → get_or (found_list lists d) u 0 ≡ found clocks d u
  found-list (Acquired lock Read) u = stand (OfReleases lock Write) u
  found-list (Acquired lock Write) u =
      get-merged (lists (OfReleases lock Write)) (lists (OfReleases lock Read)) u ∙ ap₂ max (stand (OfReleases lock Write) u) (stand (OfReleases lock Read) u)
  found-list (Joined thread) u = stand (OfThread thread) u
  found-list (Awaited object) u = stand (OfObject object) u
  found-list (Released lock mode) u = refl
  found-list (Started thread) u = refl
  found-list (Signalled object) u = refl
  found-list Local u = refl

  seen-list : (a : Act) (u : ℕ) → get_or (merged (lists (OfThread a.thread)) (found_list lists a.sync)) u 0 ≡ seen clocks a u
  unfolding seen
  seen-list a u = get-merged (lists (OfThread a.thread)) (found_list lists a.sync) u ∙ ap₂ max (stand (OfThread a.thread) u) (found-list a.sync u)

  given-list : (a : Act) (c : Keeper) (u : ℕ) (g : Bool) →
      get_or (cond g (merged (lists c) (merged (lists (OfThread a.thread)) (found_list lists a.sync))) (lists c)) u 0 ≡ cond g (max (clocks c u) (seen clocks a u)) (clocks c u)
  given-list a c u true = get-merged (lists c) (merged (lists (OfThread a.thread)) (found_list lists a.sync)) u ∙ ap₂ max (stand c u) (seen-list a u)
  given-list a c u false = stand c u

  abbrev given : Act → Keeper → List ℕ
  given a c = cond (gives a c) (merged (lists c) (merged (lists (OfThread a.thread)) (found_list lists a.sync))) (lists c)

  flows-at : (a : Act) (t u x : ℕ) (own : Bool) → (t == u) ≡ own → x + cond (own && flows a t) 1 0 ≡ x + cond (own && flows a u) 1 0
  flows-at a t u x true same = let here : t ≡ u = eqb-true t u same in rw here refl
  flows-at a t u x false other = refl

  lists-step : (a : Act) (c : Keeper) (u : ℕ) → get_or (lists_after lists (Some a) c) u 0 ≡ clocks_after clocks (Some a) c u
  lists-step a (OfThread t) u =
      tick-runs t u (cond (gives a (OfThread t)) (max (clocks (OfThread t) u) (seen clocks a u)) (clocks (OfThread t) u)) (given a (OfThread t)) (flows a t) (t == u) refl (given-list a (OfThread t) u (gives a (OfThread t)))
      ∙ flows-at a t u (cond (gives a (OfThread t)) (max (clocks (OfThread t) u) (seen clocks a u)) (clocks (OfThread t) u)) (t == u) refl
  lists-step a (OfReleases l m) u = given-list a (OfReleases l m) u (gives a (OfReleases l m)) ∙ plus_zero (cond (gives a (OfReleases l m)) (max (clocks (OfReleases l m) u) (seen clocks a u)) (clocks (OfReleases l m) u))
  lists-step a (OfObject x) u = given-list a (OfObject x) u (gives a (OfObject x)) ∙ plus_zero (cond (gives a (OfObject x)) (max (clocks (OfObject x) u) (seen clocks a u)) (clocks (OfObject x) u))

  pub lists-go_on : (o : Option Act) → StandForClocks (lists_after lists o) (clocks_after clocks o)
  lists-go_on None c u = stand c u
  lists-go_on (Some a) c u = lists-step a c u
