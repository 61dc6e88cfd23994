-- A line that belongs behind all others stands last in the order, wherever it was; and what is dealt out to so many parts adds up.
use Rattle.std.proofs.Common.{◌≡◌, ℕ, zero, suc, ◌+◌, ◌<◌, ◌≤◌, ◌==◌, Bool, true, false, cond, ◌&&◌, List, [], ◌∷◌, ◌++◌, count_by, flat_map, sum_by, append_assoc, append-nil, zero-add, refl, sym, ap, ◌∙◌, arith}
use Rattle.std.specs.List.{range_with_len}
use Rattle.std.proofs.lemmas.Bool.{eqb-false, eqb-true, ne_eqb}
use Rattle.std.proofs.lemmas.List.Sums.{sum_by-cons}
use Rattle.er_parts.specs.Merged.{in_order, may_precede, put}
use Rattle.er_report.specs.Lines.{LineView}
use Rattle.er_report.specs.Report.{count_below}

-- the line belongs behind each of these
pub record IsBehind (x y : LineView) : Type 0 where
  pub after : may_precede x y ≡ false
  pub before : may_precede y x ≡ true

unfoldable pub Behind : LineView → List LineView → Type 0
Behind x [] = Unit {0}
Behind x (y ∷ ys) = IsBehind x y × Behind x ys

pub behind-append : (x : LineView) (xs ys : List LineView) → Behind x xs → Behind x ys → Behind x (xs ++ ys)
unfolding Behind
behind-append x [] ys b c = c
behind-append x (y ∷ xs) ys b c = (b.0, behind-append x xs ys b.1 c)

pub behind-flat : (x : LineView) (f : ℕ → List LineView) (is : List ℕ) → ((i : ℕ) → Behind x (f i)) → Behind x (flat_map f is)
unfolding Behind
behind-flat x f [] each = tt
behind-flat x f (i ∷ is) each = behind-append x (f i) (flat_map f is) (each i) (behind-flat x f is each)

put-by : (x y z : LineView) (ys : List LineView) (b : Bool) → IsBehind x y → IsBehind x z → Behind x ys → Behind x (put y ys) → Behind x (cond b (y ∷ z ∷ ys) (z ∷ put y ys))
unfolding Behind
put-by x y z ys true first second others rest = (first, (second, others))
put-by x y z ys false first second others rest = (second, rest)

behind-put : (x y : LineView) (ys : List LineView) → IsBehind x y → Behind x ys → Behind x (put y ys)
unfolding Behind put
behind-put x y [] first others = (first, tt)
behind-put x y (z ∷ ys) first others = put-by x y z ys (may_precede y z) first others.0 others.1 (behind-put x y ys first others.1)

behind-order : (x : LineView) (ys : List LineView) → Behind x ys → Behind x (in_order ys)
unfolding Behind in_order
behind-order x [] b = tt
behind-order x (y ∷ ys) b = behind-put x y (in_order ys) b.0 (behind-order x ys b.1)

-- the line is put last
put-last : (x : LineView) (ys : List LineView) → Behind x ys → put x ys ≡ ys ++ x ∷ []
unfolding Behind put
put-last x [] b = refl
put-last x (y ∷ ys) b =
    ap (λ first. cond first (x ∷ y ∷ ys) (y ∷ put x ys)) b.0.after ∙ ap (λ rest. y ∷ rest) (put-last x ys b.1)

-- and each of the others before it
before-by : (x y z : LineView) (ys : List LineView) (b : Bool) → put y (ys ++ x ∷ []) ≡ put y ys ++ x ∷ []
    → cond b (y ∷ z ∷ (ys ++ x ∷ [])) (z ∷ put y (ys ++ x ∷ [])) ≡ cond b (y ∷ z ∷ ys) (z ∷ put y ys) ++ x ∷ []
before-by x y z ys true e = refl
before-by x y z ys false e = ap (λ rest. z ∷ rest) e

put-before : (x y : LineView) (ys : List LineView) → IsBehind x y → put y (ys ++ x ∷ []) ≡ put y ys ++ x ∷ []
unfolding put
put-before x y [] b = ap (λ first. cond first (y ∷ x ∷ []) (x ∷ y ∷ [])) b.before
put-before x y (z ∷ ys) b = before-by x y z ys (may_precede y z) (put-before x y ys b)

front-order : (x : LineView) (others tail rest : List LineView) → Behind x others → in_order tail ≡ in_order rest ++ x ∷ []
    → in_order (others ++ tail) ≡ in_order (others ++ rest) ++ x ∷ []
unfolding Behind in_order
front-order x [] tail rest b e = e
front-order x (y ∷ others) tail rest b e =
    ap (put y) (front-order x others tail rest b.1 e) ∙ put-before x y (in_order (others ++ rest)) b.0

here-order : (x : LineView) (others rest : List LineView) → Behind x others → Behind x rest
    → in_order ((others ++ x ∷ []) ++ rest) ≡ in_order (others ++ rest) ++ x ∷ []
unfolding in_order
here-order x others rest b c =
    ap in_order (append_assoc others (x ∷ []) rest)
    ∙ front-order x others (x ∷ rest) rest b (put-last x (in_order rest) (behind-order x rest c))

-- of no part
nobody : (x : LineView) (b : ℕ → Bool) (f : ℕ → List LineView) (is : List ℕ) → count_by b is ≡ 0
    → flat_map (λ i. f i ++ cond (b i) (x ∷ []) []) is ≡ flat_map f is
nobody x b f [] none = refl
nobody x b f (i ∷ is) none = by (b i) (sym (sum_by-cons (λ i. cond (b i) 1 0) i is) ∙ none) (λ none. nobody x b f is none)
  where
    by : (c : Bool) → cond c 1 0 + count_by b is ≡ 0 → (count_by b is ≡ 0 → flat_map (λ i. f i ++ cond (b i) (x ∷ []) []) is ≡ flat_map f is)
        → (f i ++ cond c (x ∷ []) []) ++ flat_map (λ i. f i ++ cond (b i) (x ∷ []) []) is ≡ f i ++ flat_map f is
    by true none rest = absurd (omega (arith, none))
    by false none rest = ap (λ xs. xs ++ flat_map (λ i. f i ++ cond (b i) (x ∷ []) []) is) (append-nil (f i)) ∙ ap (λ ys. f i ++ ys) (rest (omega (arith, none)))

-- of one part: the line comes last
pub dealt-order : (x : LineView) (b : ℕ → Bool) (f : ℕ → List LineView) (is : List ℕ) → count_by b is ≡ 1 → ((i : ℕ) → Behind x (f i))
    → in_order (flat_map (λ i. f i ++ cond (b i) (x ∷ []) []) is) ≡ in_order (flat_map f is) ++ x ∷ []
dealt-order x b f [] one each = cc
dealt-order x b f (i ∷ is) one each =
    by (b i) (sym (sum_by-cons (λ i. cond (b i) 1 0) i is) ∙ one) (λ one. dealt-order x b f is one each)
  where
    by : (c : Bool) → cond c 1 0 + count_by b is ≡ 1
        → (count_by b is ≡ 1 → in_order (flat_map (λ i. f i ++ cond (b i) (x ∷ []) []) is) ≡ in_order (flat_map f is) ++ x ∷ [])
        → in_order ((f i ++ cond c (x ∷ []) []) ++ flat_map (λ i. f i ++ cond (b i) (x ∷ []) []) is) ≡ in_order (f i ++ flat_map f is) ++ x ∷ []
    by true one rest =
        let none : count_by b is ≡ 0 = omega (arith, one) in
        ap (λ ys. in_order ((f i ++ x ∷ []) ++ ys)) (nobody x b f is none)
        ∙ here-order x (f i) (flat_map f is) (each i) (behind-flat x f is each)
    by false one rest =
        ap (λ xs. in_order (xs ++ flat_map (λ i. f i ++ cond (b i) (x ∷ []) []) is)) (append-nil (f i))
        ∙ front-order x (f i) (flat_map (λ i. f i ++ cond (b i) (x ∷ []) []) is) (flat_map f is) (each i) (rest (omega (arith, one)))

-- no line to deal
pub undealt : (b : ℕ → Bool) (f : ℕ → List LineView) (is : List ℕ) → flat_map (λ i. f i ++ cond (b i) [] []) is ≡ flat_map f is
undealt b f [] = refl
undealt b f (i ∷ is) =
    ap (λ xs. xs ++ flat_map (λ i. f i ++ cond (b i) [] []) is) (by (b i)) ∙ ap (λ ys. f i ++ ys) (undealt b f is)
  where
    by : (c : Bool) → f i ++ cond c [] [] ≡ f i
    by true = append-nil (f i)
    by false = append-nil (f i)

pub flat-none : (is : List ℕ) → flat_map {A = LineView} (λ i. []) is ≡ []
flat-none [] = refl
flat-none (i ∷ is) = flat-none is

pub flat-same : (f g : ℕ → List LineView) (is : List ℕ) → ((i : ℕ) → f i ≡ g i) → flat_map f is ≡ flat_map g is
flat-same f g [] same = refl
flat-same f g (i ∷ is) same = ap (λ xs. xs ++ flat_map f is) (same i) ∙ ap (λ ys. g i ++ ys) (flat-same f g is same)

pub sum-same : (f g : ℕ → ℕ) (is : List ℕ) → ((i : ℕ) → f i ≡ g i) → sum_by f is ≡ sum_by g is
sum-same f g [] same = refl
sum-same f g (i ∷ is) same = sum_by-cons f i is ∙ ap (λ n. n + sum_by f is) (same i) ∙ ap (λ m. g i + m) (sum-same f g is same) ∙ sym (sum_by-cons g i is)

sum-plus : (f g : ℕ → ℕ) (is : List ℕ) → sum_by (λ i. f i + g i) is ≡ sum_by f is + sum_by g is
sum-plus f g [] = refl
sum-plus f g (i ∷ is) =
    omega (arith, sum_by-cons (λ i. f i + g i) i is, sum_by-cons f i is, sum_by-cons g i is, sum-plus f g is)

sum-none : (is : List ℕ) → sum_by (λ i. 0) is ≡ 0
sum-none [] = refl
sum-none (i ∷ is) = sum_by-cons (λ i. 0) i is ∙ zero-add (sum_by (λ i. 0) is) ∙ sum-none is

dealt-one : (b : ℕ → Bool) (c : Bool) (is : List ℕ) → count_by b is ≡ 1 → sum_by (λ i. cond (b i && c) 1 0) is ≡ cond c 1 0
dealt-one b true is one = sum-same (λ i. cond (b i && true) 1 0) (λ i. cond (b i) 1 0) is (λ i. by (b i)) ∙ one
  where
    by : (c : Bool) → ◌≡◌ {A = ℕ} (cond (c && true) 1 0) (cond c 1 0)
    by true = refl
    by false = refl
dealt-one b false is one = sum-same (λ i. cond (b i && false) 1 0) (λ i. 0) is (λ i. by (b i)) ∙ sum-none is
  where
    by : (c : Bool) → ◌≡◌ {A = ℕ} (cond (c && false) 1 0) 0
    by true = refl
    by false = refl

-- counts of positions that are dealt out add up
pub dealt-count : (b : ℕ → ℕ → Bool) (test : ℕ → Bool) (is : List ℕ) (n : ℕ) → ((k : ℕ) → k < n → count_by (λ i. b i k) is ≡ 1)
    → sum_by (λ i. count_below (λ k. b i k && test k) n) is ≡ count_below test n
unfolding count_below
dealt-count b test is zero one = sum-none is
dealt-count b test is (suc n) one =
    sum-plus (λ i. count_below (λ k. b i k && test k) n) (λ i. cond (b i n && test n) 1 0) is
    ∙ ap (λ m. m + sum_by (λ i. cond (b i n && test n) 1 0) is) (dealt-count b test is n (λ k below. one k (omega (arith, below))))
    ∙ ap (λ m. count_below test n + m) (dealt-one (λ i. b i n) (test n) is (one n (omega arith)))

-- a number stands once in a range that has it
pub none-below : (c a n : ℕ) → c < a → count_by (λ i. c == i) (range_with_len a n) ≡ 0
none-below c a zero below = refl
none-below c a (suc n) below =
    sum_by-cons (λ i. cond (c == i) 1 0) a (range_with_len (a + 1) n)
    ∙ ap (λ b. cond b 1 0 + count_by (λ i. c == i) (range_with_len (a + 1) n)) (ne_eqb c a (λ same. absurd (omega (arith, below, same))))
    ∙ zero-add (count_by (λ i. c == i) (range_with_len (a + 1) n))
    ∙ none-below c (a + 1) n (omega (arith, below))

above-other : (c a : ℕ) → a ≤ c → (c ≡ a → ⊥) → a + 1 ≤ c
above-other c a above other = grind (arith, other, above)

pub once-in : (c a n : ℕ) → a ≤ c → c < a + n → count_by (λ i. c == i) (range_with_len a n) ≡ 1
once-in c a zero above below = absurd (omega (arith, above, below))
once-in c a (suc n) above below =
    sum_by-cons (λ i. cond (c == i) 1 0) a (range_with_len (a + 1) n) ∙ by (c == a) refl (λ above. once-in c (a + 1) n above (omega (arith, below)))
  where
    by : (b : Bool) → (c == a) ≡ b → (a + 1 ≤ c → count_by (λ i. c == i) (range_with_len (a + 1) n) ≡ 1)
        → cond b 1 0 + count_by (λ i. c == i) (range_with_len (a + 1) n) ≡ 1
    by true is rest = let same : c ≡ a = eqb-true c a is in ap (λ m. 1 + m) (none-below c (a + 1) n (omega (arith, same)))
    by false is rest = let other = eqb-false c a is in zero-add (count_by (λ i. c == i) (range_with_len (a + 1) n)) ∙ rest (above-other c a above other)
