-- Two sorted lists that have the same elements in each class of those that tie are one list.
use Rattle.std.proofs.Common.{◌≡◌, ℕ, suc, ◌<◌, ◌≤◌, Bool, true, false, List, [], ◌∷◌, length, get_or, filter, refl, sym, ap, ◌∙◌, subst, arith}
use Rattle.std.specs.Cmp.{IsStrictWeakOrder}
use Rattle.std.specs.List.Sorted.{IsSortedBy, ties}
use Rattle.std.proofs.lemmas.List.Sorted.{sorted_far}

-- none of them is below x
abbrev pub NoneBelow : {X : Type 0} → (X → X → Bool) → X → List X → Type 0
NoneBelow lt x [] = Unit {0}
NoneBelow lt x (y ∷ ys) = (lt y x ≡ false) × NoneBelow lt x ys

-- none is below one before it
abbrev pub Rises : {X : Type 0} → (X → X → Bool) → List X → Type 0
Rises lt [] = Unit {0}
Rises lt (x ∷ xs) = NoneBelow lt x xs × Rises lt xs

none_below : {X : Type 0} (lt : X → X → Bool) (x : X) (xs : List X) → ((j : ℕ) (d : X) → j < length xs → lt (get_or xs j d) x ≡ false) → NoneBelow lt x xs
none_below lt x [] far = tt
none_below lt x (y ∷ ys) far = (far 0 y (omega arith), none_below lt x ys (λ j d h. far (suc j) d (omega (arith, h))))

rises : {X : Type 0} (lt : X → X → Bool) (xs : List X) → ((i j : ℕ) (d : X) → i ≤ j → j < length xs → lt (get_or xs j d) (get_or xs i d) ≡ false) → Rises lt xs
rises lt [] far = tt
rises lt (x ∷ xs) far =
    (none_below lt x xs (λ j d h. far 0 (suc j) d (omega arith) (omega (arith, h))), rises lt xs (λ i j d a h. far (suc i) (suc j) d (omega (arith, a)) (omega (arith, h))))

-- what a sort leaves rises
pub rises_sorted : {X : Type 0} (lt : X → X → Bool) → IsStrictWeakOrder lt → (xs : List X) → IsSortedBy lt xs → Rises lt xs
rises_sorted lt o xs up = rises lt xs (sorted_far lt o xs up)

pub kept : {X : Type 0} (p : X → Bool) (x : X) (xs : List X) → p x ≡ true → filter p (x ∷ xs) ≡ x ∷ filter p xs
kept p x xs e = rw e refl

pub dropped : {X : Type 0} (p : X → Bool) (x : X) (xs : List X) → p x ≡ false → filter p (x ∷ xs) ≡ filter p xs
dropped p x xs e = rw e refl

-- the first that passes is one of them
found_step : {X : Type 0} (lt : X → X → Bool) (p : X → Bool) (x y w : X) (ys ws : List X) (b : Bool) → p y ≡ b → lt y x ≡ false → (filter p ys ≡ w ∷ ws → lt w x ≡ false)
    → filter p (y ∷ ys) ≡ w ∷ ws → lt w x ≡ false
found_step lt p x y w ys ws true e low more first = let heads : y ≡ w = (let both = sym (kept p y ys e) ∙ first in cc) in subst (λ v. lt v x ≡ false) heads low
found_step lt p x y w ys ws false e low more first = more (sym (dropped p y ys e) ∙ first)

found : {X : Type 0} (lt : X → X → Bool) (p : X → Bool) (x w : X) (ys ws : List X) → NoneBelow lt x ys → filter p ys ≡ w ∷ ws → lt w x ≡ false
found lt p x w [] ws low first = absurd (cc)
found lt p x w (y ∷ ys) ws low first = found_step lt p x y w ys ws (p y) refl low.0 (found lt p x w ys ws low.1) first

pub not_below : {X : Type 0} (lt : X → X → Bool) → IsStrictWeakOrder lt → (x : X) (b : Bool) → lt x x ≡ b → lt x x ≡ false
not_below lt o x true e = o.one_way x x e
not_below lt o x false e = e

ties_so : {X : Type 0} (lt : X → X → Bool) (x y : X) → lt x y ≡ false → lt y x ≡ false → ties lt x y ≡ true
ties_so lt x y a b = rw (a, b) refl

pub ties_self : {X : Type 0} (lt : X → X → Bool) → IsStrictWeakOrder lt → (x : X) → ties lt x x ≡ true
ties_self lt o x = let same = not_below lt o x (lt x x) refl in ties_so lt x x same same

tails_step : {X : Type 0} (p : X → Bool) (y z : X) (ys zs : List X) (b : Bool) → y ≡ z → p y ≡ b → filter p (y ∷ ys) ≡ filter p (z ∷ zs) → filter p ys ≡ filter p zs
tails_step p y z ys zs true head e same = let both = sym (kept p y ys e) ∙ same ∙ kept p z zs (ap p (sym head) ∙ e) in cc
tails_step p y z ys zs false head e same = sym (dropped p y ys e) ∙ same ∙ dropped p z zs (ap p (sym head) ∙ e)

pub same_lists : {X : Type 0} (lt : X → X → Bool) → IsStrictWeakOrder lt → (ys zs : List X) → Rises lt ys → Rises lt zs → ((x : X) → filter (ties lt x) ys ≡ filter (ties lt x) zs) → ys ≡ zs
same_lists lt o [] [] left right same = refl
same_lists lt o [] (z ∷ zs) left right same = let clash = same z ∙ kept (ties lt z) z zs (ties_self lt o z) in absurd (cc)
same_lists lt o (y ∷ ys) [] left right same = let clash = sym (same y) ∙ kept (ties lt y) y ys (ties_self lt o y) in absurd (cc)
same_lists lt o (y ∷ ys) (z ∷ zs) left right same =
    let at_y = kept (ties lt y) y ys (ties_self lt o y) in
    let at_z = kept (ties lt z) z zs (ties_self lt o z) in
    let up : lt y z ≡ false = found lt (ties lt y) z y (z ∷ zs) (filter (ties lt y) ys) (not_below lt o z (lt z z) refl, right.0) (sym (same y) ∙ at_y) in
    let down : lt z y ≡ false = found lt (ties lt z) y z (y ∷ ys) (filter (ties lt z) zs) (not_below lt o y (lt y y) refl, left.0) (same z ∙ at_z) in
    let heads : y ∷ filter (ties lt y) ys ≡ z ∷ filter (ties lt y) zs = sym at_y ∙ same y ∙ kept (ties lt y) z zs (ties_so lt y z up down) in
    let head : y ≡ z = cc in
    ap (λ w. w ∷ ys) head ∙ ap (λ l. z ∷ l) (same_lists lt o ys zs left.1 right.1 (λ x. tails_step (ties lt x) y z ys zs (ties lt x y) head refl (same x)))
