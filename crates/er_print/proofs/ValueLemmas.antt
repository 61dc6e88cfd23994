-- Values with commas between them, one by one.
use Rattle.std.proofs.Common.{◌≡◌, ◌∙◌, ◌+◌, ◌<◌, ℕ, List, [], ◌∷◌, ◌++◌, length, take, get_or, flat_map, sym, ap, append_assoc, arith}
use Rattle.std.proofs.lemmas.List.{append-nil, length-take-le, take_more}
use Rattle.std.proofs.lemmas.Grind.{flat_map-append}
use Rattle.er_print.specs.Values.{comma_before, values_text}

-- one value behind those
pub values_more : {X : Type 0} (f : X → List ℕ) (xs : List X) (x : X) → values_text f (xs ++ x ∷ []) ≡ values_text f xs ++ (comma_before (length xs) ++ f x)
values_more f [] x = append-nil (f x)
values_more {X} f (y ∷ ys) x =
    let g = λ (z : X). 44 ∷ f z in
    ap (λ (text : List ℕ). f y ++ text) (flat_map-append g ys (x ∷ []) ∙ ap (λ (text : List ℕ). flat_map g ys ++ text) (append-nil (g x)))
    ∙ sym (append_assoc (f y) (flat_map g ys) (g x))

-- the next value is put behind those before it
pub values_next : {X : Type 0} (f : X → List ℕ) (xs : List X) (k : ℕ) (d x : X) (old before comma after : List ℕ) → k < length xs → x ≡ get_or xs k d
    → before ≡ old ++ values_text f (take k xs) → comma ≡ before ++ comma_before k → after ≡ comma ++ f x → after ≡ old ++ values_text f (take (k + 1) xs)
values_next {X} f xs k d x old before comma after within here so_far first second =
    let next : take (k + 1) xs ≡ take k xs ++ x ∷ [] = take_more xs k d within ∙ ap (λ (y : X). take k xs ++ y ∷ []) (sym here) in
    let long : length (take k xs) ≡ k = length-take-le k xs (omega arith) in
    second ∙ ap (λ (text : List ℕ). text ++ f x) (first ∙ ap (λ (text : List ℕ). text ++ comma_before k) so_far)
    ∙ append_assoc (old ++ values_text f (take k xs)) (comma_before k) (f x)
    ∙ append_assoc old (values_text f (take k xs)) (comma_before k ++ f x)
    ∙ ap (λ (n : ℕ). old ++ (values_text f (take k xs) ++ (comma_before n ++ f x))) (sym long)
    ∙ ap (λ (text : List ℕ). old ++ text) (sym (values_more f (take k xs) x))
    ∙ ap (λ (all : List X). old ++ values_text f all) (sym next)
