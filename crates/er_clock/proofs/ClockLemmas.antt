-- How a join goes from place to place.
use Rattle.std.proofs.Common.{◌≡◌, ℕ, zero, suc, ◌<◌, ◌≤◌, max, List, [], ◌∷◌, ◌++◌, length, get_or, take, drop, set, ◌+◌, ◌-◌, replicate, append-nil, refl, ap, ap₂, ◌∙◌, arith}
use Rattle.er_order.specs.ClockLists.{merged, ticked}
use Rattle.er_clock.specs.Inner.Merging.{padded, lengthened, merged_below}

-- a join that has gone over all of the second list is done
pub merged_all : (xs ys : List ℕ) → length ys ≤ length xs → merged_below (length ys) xs ys ≡ merged xs ys
unfolding merged_below merged
merged_all [] [] fits = refl
merged_all [] (y ∷ ys) fits = absurd (omega arith)
merged_all (x ∷ xs) [] fits = refl
merged_all (x ∷ xs) (y ∷ ys) fits = ap (λ zs. max x y ∷ zs) (merged_all xs ys (omega arith))

-- the place that comes next still has its old count
pub next_place : (n d : ℕ) (xs ys : List ℕ) → get_or (merged_below n xs ys) n d ≡ get_or xs n d
unfolding merged_below
next_place zero d xs ys = refl
next_place (suc n) d [] ys = refl
next_place (suc n) d (x ∷ xs) [] = refl
next_place (suc n) d (x ∷ xs) (y ∷ ys) = next_place n d xs ys

taken_place : (n d e : ℕ) (xs ys : List ℕ) → n < length xs → n < length ys →
    set (merged_below n xs ys) n (max (get_or xs n d) (get_or ys n e)) ≡ merged_below (suc n) xs ys
unfolding merged_below
taken_place n d e [] ys one two = absurd (omega arith)
taken_place n d e (x ∷ xs) [] one two = absurd (omega arith)
taken_place zero d e (x ∷ xs) (y ∷ ys) one two = refl
taken_place (suc n) d e (x ∷ xs) (y ∷ ys) one two = ap (λ zs. max x y ∷ zs) (taken_place n d e xs ys (omega arith) (omega arith))

-- the loop takes the greater count at its next place, where these are the counts that it reads
pub place_taken : (n m x y z : ℕ) (now xs ys : List ℕ) → now ≡ merged_below n xs ys → m ≡ suc n → length ys ≤ length xs → n < length ys →
    x ≡ get_or now n x → y ≡ get_or ys n y → z ≡ max x y → set now n z ≡ merged_below m xs ys
place_taken n m x y z now xs ys is next fits within mine theirs greater =
    let first : x ≡ get_or xs n x = mine ∙ ap (λ zs. get_or zs n x) is ∙ next_place n x xs ys in
    ap₂ (λ zs v. set zs n v) is (greater ∙ ap₂ max first theirs) ∙ taken_place n x y xs ys (omega arith) within ∙ rw next refl

-- a list that has the other's rest after it is as long as that one
pub longer_is : (xs ys : List ℕ) → xs ++ drop (length xs) ys ≡ lengthened xs ys
unfolding lengthened
longer_is [] ys = refl
longer_is (x ∷ xs) [] = ap (λ zs. x ∷ zs) (append-nil xs)
longer_is (x ∷ xs) (y ∷ ys) = ap (λ zs. x ∷ zs) (longer_is xs ys)

pub merged_longer : (xs ys : List ℕ) → merged (lengthened xs ys) ys ≡ merged xs ys
unfolding merged lengthened
merged_longer [] [] = refl
merged_longer [] (y ∷ ys) = let same : max y y ≡ y = omega arith in ap₂ (λ z zs. z ∷ zs) same (merged_longer [] ys)
merged_longer (x ∷ xs) [] = refl
merged_longer (x ∷ xs) (y ∷ ys) = ap (λ zs. max x y ∷ zs) (merged_longer xs ys)

pub length_longer : (xs ys : List ℕ) → length ys ≤ length (lengthened xs ys)
unfolding lengthened
length_longer [] ys = omega arith
length_longer (x ∷ xs) [] = omega arith
length_longer (x ∷ xs) (y ∷ ys) = let rest = length_longer xs ys in omega arith

pub longer_enough : (xs ys : List ℕ) → length ys ≤ length xs → xs ≡ lengthened xs ys
unfolding lengthened
longer_enough [] [] fits = refl
longer_enough [] (y ∷ ys) fits = absurd (omega arith)
longer_enough (x ∷ xs) [] fits = refl
longer_enough (x ∷ xs) (y ∷ ys) fits = ap (λ zs. x ∷ zs) (longer_enough xs ys (omega arith))

-- a list with its place made
zeros : (n : ℕ) → replicate n 0 ≡ padded n []
unfolding padded
zeros zero = refl
zeros (suc n) = ap (λ zs. 0 ∷ zs) (zeros n)

pub padded_by : (n k : ℕ) (xs : List ℕ) → k + length xs ≡ n → xs ++ replicate k 0 ≡ padded n xs
unfolding padded
padded_by n k [] fits = let same : k ≡ n = omega arith in rw same (zeros n)
padded_by zero k (x ∷ xs) fits = absurd (omega arith)
padded_by (suc n) k (x ∷ xs) fits = ap (λ zs. x ∷ zs) (padded_by n k xs (omega arith))

take_all : (n : ℕ) (xs : List ℕ) → length xs ≤ n → take n xs ≡ xs
take_all zero [] fits = refl
take_all (suc n) [] fits = refl
take_all zero (x ∷ xs) fits = absurd (omega arith)
take_all (suc n) (x ∷ xs) fits = ap (λ zs. x ∷ zs) (take_all n xs (omega arith))

pub padded_is : (n : ℕ) (xs : List ℕ) → length xs ≤ n → take n xs ++ replicate (n - length xs) 0 ≡ padded n xs
padded_is n xs fits = rw (take_all n xs fits) (padded_by n (n - length xs) xs (omega arith))

pub padded_place : (t : ℕ) (xs : List ℕ) → t < length (padded (suc t) xs)
unfolding padded
padded_place zero [] = omega arith
padded_place zero (x ∷ xs) = omega arith
padded_place (suc t) [] = let rest = padded_place t [] in omega arith
padded_place (suc t) (x ∷ xs) = let rest = padded_place t xs in omega arith

pub padded_count : (t d : ℕ) (xs : List ℕ) → get_or (padded (suc t) xs) t d ≡ get_or xs t 0
unfolding padded
padded_count zero d [] = refl
padded_count zero d (x ∷ xs) = refl
padded_count (suc t) d [] = padded_count t d []
padded_count (suc t) d (x ∷ xs) = padded_count t d xs

pub padded_enough : (n : ℕ) (xs : List ℕ) → n ≤ length xs → xs ≡ padded n xs
unfolding padded
padded_enough zero xs fits = refl
padded_enough (suc n) [] fits = absurd (omega arith)
padded_enough (suc n) (x ∷ xs) fits = ap (λ zs. x ∷ zs) (padded_enough n xs (omega arith))

pub ticked_place : (t : ℕ) (xs : List ℕ) → set (padded (suc t) xs) t (get_or xs t 0 + 1) ≡ ticked t xs
unfolding padded ticked
ticked_place zero [] = refl
ticked_place zero (x ∷ xs) = let same : x + 1 ≡ suc x = omega arith in ap (λ z. z ∷ xs) same
ticked_place (suc t) [] = ap (λ zs. 0 ∷ zs) (ticked_place t [])
ticked_place (suc t) (x ∷ xs) = ap (λ zs. x ∷ zs) (ticked_place t xs)
