-- What is kept of two pieces is what is kept of each, and how a loop keeps it in place.
use Rattle.std.proofs.Common.{suc, ◌≡◌, ◌+◌, ◌<◌, ◌≤◌, ℕ, Bool, true, false, cond, List, [], ◌∷◌, ◌++◌, length, take, drop, set, get_or, refl, sym, ap, ◌∙◌, arith}
use Rattle.std.proofs.lemmas.List.{append-nil, drop-drop, drop-set-lt, get_or-drop, length-append, length-set, length-take-le, take-set, take_all, take_more, take_more_set}
use Rattle.std.proofs.lemmas.List.Elements.{All-cons, All-head, All-nil, All-tail, filter-append}
use Rattle.std.proofs.lemmas.List.Sums.{length-filter}
use Rattle.std.specs.Int.{from_bool}
use Rattle.std.specs.List.{All, count_by, filter}
use Rattle.er_event.specs.declared.steps.Step.{Step}
use Rattle.er_parts.specs.Parts.{PartView, kept_beside, takes}

-- with one more at the front, by whether its step is of use
front : {A : Type 0} (b : Bool) (x : A) (xs ys : List A) → cond b (x ∷ (xs ++ ys)) (xs ++ ys) ≡ cond b (x ∷ xs) xs ++ ys
front true x xs ys = refl
front false x xs ys = refl

pub kept-append : {A : Type 0} (part : PartView) (steps more : List Step) (xs ys : List A) → length xs ≡ length steps
    → kept_beside part (steps ++ more) (xs ++ ys) ≡ kept_beside part steps xs ++ kept_beside part more ys
unfolding kept_beside
kept-append part [] more [] ys long = refl
kept-append part [] more (x ∷ xs) ys long = absurd (omega (arith, long))
kept-append part (s ∷ steps) more [] ys long = absurd (omega (arith, long))
kept-append part (s ∷ steps) more (x ∷ xs) ys long =
    let rest : length xs ≡ length steps = omega (arith, long) in
    ap (λ zs. cond (takes part s) (x ∷ zs) zs) (kept-append part steps more xs ys rest)
    ∙ front (takes part s) x (kept_beside part steps xs) (kept_beside part more ys)

-- one step is kept or not
kept-single : {A : Type 0} (part : PartView) (s : Step) (x : A) → kept_beside part (s ∷ []) (x ∷ []) ≡ cond (takes part s) (x ∷ []) []
unfolding kept_beside
kept-single part s x = refl

pub kept-next : {A : Type 0} (part : PartView) (steps : List Step) (xs : List A) (i : ℕ) (s : Step) (x : A) → length xs ≡ length steps → i < length steps
    → s ≡ get_or steps i s → x ≡ get_or xs i x
    → kept_beside part (take (i + 1) steps) (take (i + 1) xs) ≡ kept_beside part (take i steps) (take i xs) ++ cond (takes part s) (x ∷ []) []
kept-next part steps xs i s x long below step this =
    let here : i < length xs = omega (arith, long, below) in
    let same : length (take i xs) ≡ length (take i steps) = length-take-le i xs (omega (arith, here)) ∙ sym (length-take-le i steps (omega (arith, below))) in
    ap (λ zs. kept_beside part zs (take (i + 1) xs)) (take_more steps i s below ∙ ap (λ s. take i steps ++ s ∷ []) (sym step))
    ∙ ap (λ zs. kept_beside part (take i steps ++ s ∷ []) zs) (take_more xs i x here ∙ ap (λ x. take i xs ++ x ∷ []) (sym this))
    ∙ kept-append part (take i steps) (s ∷ []) (take i xs) (x ∷ []) same
    ∙ ap (λ zs. kept_beside part (take i steps) (take i xs) ++ zs) (kept-single part s x)

-- lists that are the same from a place on
same-next : {A : Type 0} (i : ℕ) (xs ys : List A) → drop i xs ≡ drop i ys → drop (i + 1) xs ≡ drop (i + 1) ys
same-next i xs ys same = sym (drop-drop 1 i xs) ∙ ap (drop 1) same ∙ drop-drop 1 i ys

same-first : {A : Type 0} (i : ℕ) (xs ys : List A) (d : A) → drop i xs ≡ drop i ys → get_or xs i d ≡ get_or ys i d
same-first i xs ys d same =
    let at : i + 0 ≡ i = omega arith in
    ap (λ j. get_or xs j d) (sym at) ∙ sym (get_or-drop i xs 0 d) ∙ ap (λ zs. get_or zs 0 d) same ∙ get_or-drop i ys 0 d ∙ ap (λ j. get_or ys j d) at

-- what the loop keeps true when it has come to place i and kept so many
abbrev pub IsKept : {A : Type 0} → PartView → List Step → List A → List A → ℕ → ℕ → Type 0
IsKept part steps old items kept i =
    (kept ≤ i) × (length items ≡ length steps) × (take kept items ≡ kept_beside part (take i steps) (take i old)) × (drop i items ≡ drop i old)

module _ {A : Type 0} (part : PartView) (steps : List Step) (old items : List A) (kept i : ℕ) (s : Step) (x : A)
    (long : length old ≡ length steps) (below : i < length steps) (step : s ≡ get_or steps i s) (this : x ≡ get_or items i x)
    (so_far : IsKept part steps old items kept i) where
  this-old : x ≡ get_or old i x
  this-old = this ∙ same-first i items old x so_far.3

  pub kept-then : takes part s ≡ true → IsKept part steps old (set items kept x) (kept + 1) (i + 1)
  kept-then taken =
      let within : kept < length items = (let l : length items ≡ length steps = so_far.1 in let k : kept ≤ i = so_far.0 in omega (arith, below)) in (
        (let k : kept ≤ i = so_far.0 in omega (arith, k)),
        length-set items kept x ∙ so_far.1,
        take_more_set items kept x within ∙ ap (λ zs. zs ++ x ∷ []) so_far.2
            ∙ sym (kept-next part steps old i s x long below step this-old ∙ ap (λ b. kept_beside part (take i steps) (take i old) ++ cond b (x ∷ []) []) taken),
        drop-set-lt (i + 1) items kept x (let k : kept ≤ i = so_far.0 in omega (arith, k)) ∙ same-next i items old so_far.3,
      )

  pub kept-else : takes part s ≡ false → IsKept part steps old (set items kept x) kept (i + 1)
  kept-else left = (
    (let k : kept ≤ i = so_far.0 in omega (arith, k)),
    length-set items kept x ∙ so_far.1,
    take-set items kept x ∙ so_far.2 ∙ sym (append-nil (kept_beside part (take i steps) (take i old)))
        ∙ sym (kept-next part steps old i s x long below step this-old ∙ ap (λ b. kept_beside part (take i steps) (take i old) ++ cond b (x ∷ []) []) left),
    drop-set-lt (i + 1) items kept x (let k : kept ≤ i = so_far.0 in omega (arith, k)) ∙ same-next i items old so_far.3,
  )

-- the step at the place is that of the list before the loop
pub step-old : (part : PartView) (steps items : List Step) (kept i : ℕ) (s : Step) → IsKept part steps steps items kept i → s ≡ get_or items i s → s ≡ get_or steps i s
step-old part steps items kept i s so_far this = this ∙ same-first i items steps s so_far.3

-- behind the last step all is kept
pub kept-whole : {A : Type 0} (part : PartView) (steps : List Step) (old items : List A) (kept i : ℕ) → length old ≡ length steps → length steps ≤ i
    → IsKept part steps old items kept i → take kept items ≡ kept_beside part steps old
kept-whole part steps old items kept i long past so_far =
    so_far.2 ∙ ap (λ zs. kept_beside part zs (take i old)) (take_all i steps past) ∙ ap (kept_beside part steps) (take_all i old (omega (arith, long, past)))

-- what is kept of the steps
pub kept-steps : (part : PartView) (steps : List Step) → kept_beside part steps steps ≡ filter (takes part) steps
unfolding kept_beside
kept-steps part [] = refl
kept-steps part (s ∷ steps) = ap (λ zs. cond (takes part s) (s ∷ zs) zs) (kept-steps part steps)

-- each that is kept is one of the others
all-by : {A : Type 0} (P : A → Type 0) (b : Bool) (x : A) (xs : List A) → P x → All P xs → All P (cond b (x ∷ xs) xs)
all-by P true x xs this all = All-cons P x xs this all
all-by P false x xs this all = all

pub kept-all : {A : Type 0} (P : A → Type 0) (part : PartView) (steps : List Step) (xs : List A) → All P xs → All P (kept_beside part steps xs)
unfolding kept_beside
kept-all P part [] xs all = All-nil P
kept-all P part (s ∷ steps) [] all = All-nil P
kept-all P part (s ∷ steps) (x ∷ xs) all = all-by P (takes part s) x (kept_beside part steps xs) (All-head P x xs all) (kept-all P part steps xs (All-tail P x xs all))

-- and there are as many as steps that are kept
long-by : {A : Type 0} (b : Bool) (x : A) (xs : List A) (s : Step) (steps : List Step) → length xs ≡ length steps → length (cond b (x ∷ xs) xs) ≡ length (cond b (s ∷ steps) steps)
long-by true x xs s steps same = ap suc same
long-by false x xs s steps same = same

pub kept-long : {A : Type 0} (part : PartView) (steps : List Step) (xs : List A) → length xs ≡ length steps → length (kept_beside part steps xs) ≡ length (filter (takes part) steps)
unfolding kept_beside
kept-long part [] [] long = refl
kept-long part [] (x ∷ xs) long = absurd (omega (arith, long))
kept-long part (s ∷ steps) [] long = absurd (omega (arith, long))
kept-long part (s ∷ steps) (x ∷ xs) long = long-by (takes part s) x (kept_beside part steps xs) s (filter (takes part) steps) (kept-long part steps xs (omega (arith, long)))

pub count-append : {A : Type 0} (p : A → Bool) (xs ys : List A) → count_by p (xs ++ ys) ≡ count_by p xs + count_by p ys
count-append p xs ys =
    sym (length-filter p (xs ++ ys)) ∙ ap length (filter-append p xs ys) ∙ length-append (filter p xs) (filter p ys)
    ∙ ap (λ n. n + length (filter p ys)) (length-filter p xs) ∙ ap (λ n. count_by p xs + n) (length-filter p ys)

-- one more that counts or doesn't
one-more : {A : Type 0} (p : A → Bool) (x : A) (b : Bool) → p x ≡ b → count_by p (x ∷ []) ≡ from_bool b
one-more p x true is = rw is refl
one-more p x false is = rw is refl

pub count-next : {A : Type 0} (p : A → Bool) (xs : List A) (i n m : ℕ) (x : A) → i < length xs → n ≡ count_by p (take i xs) → m ≡ from_bool (p x)
    → n + m ≡ count_by p (take (i + 1) (set xs i x))
count-next p xs i n m x within so_far this =
    ap (λ k. k + m) so_far ∙ ap (λ k. count_by p (take i xs) + k) (this ∙ sym (one-more p x (p x) refl))
    ∙ sym (ap (count_by p) (take_more_set xs i x within) ∙ count-append p (take i xs) (x ∷ []))

pub byte-le : (b : Bool) → from_bool b ≤ 1
byte-le true = omega arith
byte-le false = omega arith
