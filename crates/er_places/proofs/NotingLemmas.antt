-- The wanted lines that are met one by one, as they are made.
use Rattle.std.proofs.Common.{◌≡◌, ◌∙◌, ℕ, suc, nat_eq, nat_le, ◌+◌, ◌<◌, ◌≤◌, ◌&&◌, ◌||◌, not, Bool, true, false, cond, List, [], ◌∷◌, Some, None, length, get_or, drop, slice_get, length-drop, refl, ap, sym, arith}
use Rattle.std.proofs.Math.Seq.{drop-cons}
use Rattle.std.proofs.lemmas.Bool.Decides.{nat_tests}
use Rattle.std.proofs.lemmas.List.{drop_all, get_or-drop, get_or_default}
use Rattle.std.proofs.lemmas.List.Sorted.{IsNonDecreasingBy-from_sort}
use Rattle.std.proofs.lemmas.Option.{slice_get_read}
use Rattle.std.specs.List.{list_any}
use Rattle.std.specs.List.Sorted.{IsSorted}
use Rattle.std.specs.Ordering.{nat_cmp}
use Rattle.er_places.specs.Inner.Noting.{if_made}

-- what is kept for a line that is met, and for another
kept : (here rest made : Bool) (way old new : List ℕ) → (here ≡ true → made ≡ true) → (here ≡ true → new ≡ way) → (here ≡ false → new ≡ old)
    → cond (rest && made) way new ≡ cond ((here || rest) && made) way old
kept true true made way old new is noted other = rw (is refl) refl
kept true false made way old new is noted other = rw (is refl) (noted refl)
kept false rest made way old new is noted other = ap (λ (w : List ℕ). cond (rest && made) way w) (other refl)

made_is : (made : Bool) (w line : ℕ) → Some line ≡ cond made (Some w) None → w ≡ line
made_is true w line is = cc
made_is false w line is = cc

-- of the lines behind the first so many, a line that is met is none
beyond : (here rest made : Bool) → (here ≡ true → made ≡ true) → (rest && not made) ≡ ((here || rest) && not made)
beyond true true made is = refl
beyond true false made is = rw (is refl) refl
beyond false rest made is = refl

-- the wanted line that is met, and those behind it
met_front : (wanted : List ℕ) (met w lines : ℕ) → met < length wanted → Some w ≡ if_made lines (slice_get wanted met) → drop met wanted ≡ w ∷ drop (met + 1) wanted
met_front wanted met w lines less is =
    let x = get_or wanted met 0 in
    let there : slice_get wanted met ≡ Some x = slice_get_read wanted (length wanted) met x refl less (get_or_default wanted met 0 x less) in
    let same : x ≡ w = made_is (nat_le x lines) x w (is ∙ ap (if_made lines) there) in
    let next : met + 1 ≡ suc met = omega arith in
    drop-cons wanted met 0 less ∙ ap (λ (y : ℕ). y ∷ drop (suc met) wanted) same ∙ ap (λ (k : ℕ). w ∷ drop k wanted) (sym next)

-- the wanted lines behind the first so many are left
pub left_more : (wanted : List ℕ) (met w lines line : ℕ) → met < length wanted → w ≤ lines → Some w ≡ if_made lines (slice_get wanted met)
    → (list_any (nat_eq line) (drop (met + 1) wanted) && not (nat_le line lines)) ≡ (list_any (nat_eq line) (drop met wanted) && not (nat_le line lines))
left_more wanted met w lines line less made is =
    let is_made : nat_eq line w ≡ true → nat_le line lines ≡ true = λ yes. grind (arith, nat_tests) in
    beyond (nat_eq line w) (list_any (nat_eq line) (drop (met + 1) wanted)) (nat_le line lines) is_made
    ∙ ap (λ (xs : List ℕ). list_any (nat_eq line) xs && not (nat_le line lines)) (sym (met_front wanted met w lines less is))

-- if no line that is left is among the first so many, all that are left come behind them
pub all_beyond : (rest made : Bool) → (rest && made) ≡ false → rest ≡ (rest && not made)
all_beyond true true none = absurd (cc)
all_beyond true false none = refl
all_beyond false made none = refl

-- the wanted line that is met leaves to be kept what was to be kept
pub met_more : (wanted : List ℕ) (met w lines line : ℕ) (old new : ℕ → List ℕ) (way : List ℕ) → met < length wanted → w ≤ lines → Some w ≡ if_made lines (slice_get wanted met)
    → new w ≡ way → ((l : ℕ) → nat_eq w l ≡ false → new l ≡ old l)
    → cond (list_any (nat_eq line) (drop (met + 1) wanted) && nat_le line lines) way (new line) ≡ cond (list_any (nat_eq line) (drop met wanted) && nat_le line lines) way (old line)
met_more wanted met w lines line old new way less made is noted other =
    let is_here : nat_eq line w ≡ true → line ≡ w = λ yes. grind (arith, nat_tests) in
    let is_made : nat_eq line w ≡ true → nat_le line lines ≡ true = λ yes. grind (arith, nat_tests) in
    let is_other : nat_eq line w ≡ false → nat_eq w line ≡ false = λ no. grind (arith, nat_tests) in
    kept (nat_eq line w) (list_any (nat_eq line) (drop (met + 1) wanted)) (nat_le line lines) way (old line) (new line) is_made (λ yes. ap new (is_here yes) ∙ noted) (λ no. other line (is_other no))
    ∙ ap (λ (xs : List ℕ). cond (list_any (nat_eq line) xs && nat_le line lines) way (old line)) (sym (met_front wanted met w lines less is))

either : (here rest made : Bool) → (here ≡ true → made ≡ false) → (rest && made) ≡ false → ((here || rest) && made) ≡ false
either true rest made first others = first refl
either false rest made first others = others

-- no line is among the first, if all of these come behind them
none_of : (xs : List ℕ) (lines line : ℕ) → ((i : ℕ) → i < length xs → lines < get_or xs i 0) → (list_any (nat_eq line) xs && nat_le line lines) ≡ false
none_of [] lines line behind = refl
none_of (x ∷ xs) lines line behind =
    let first : lines < x = behind 0 (omega arith) in
    either (nat_eq line x) (list_any (nat_eq line) xs) (nat_le line lines) (λ yes. grind (arith, nat_tests)) (none_of xs lines line (λ i less. behind (suc i) (omega arith)))

not_made : (made : Bool) (w : ℕ) → cond made (Some w) None ≡ None → made ≡ false
not_made true w is = cc
not_made false w is = refl

-- where the next wanted line isn't made, none that comes behind it is
pub all_met : (wanted : List ℕ) (met lines line : ℕ) → IsSorted nat_cmp wanted → if_made lines (slice_get wanted met) ≡ None → (list_any (nat_eq line) (drop met wanted) && nat_le line lines) ≡ false
all_met wanted met lines line rising next =
    none_of (drop met wanted) lines line
    (λ i less.
    let within : met + i < length wanted = omega (arith, length-drop met wanted) in
    let first = get_or wanted met 0 in
    let there : slice_get wanted met ≡ Some first = slice_get_read wanted (length wanted) met first refl (omega arith) (get_or_default wanted met 0 first (omega arith)) in
    let ahead : nat_le first lines ≡ false = not_made (nat_le first lines) first (rw there at next) in
    let order : first ≤ get_or wanted (met + i) 0 = IsNonDecreasingBy-from_sort (λ (x : ℕ). x) wanted rising met (met + i) 0 (omega arith) within in
    let behind : lines < get_or wanted (met + i) 0 = grind (arith, nat_tests) in
    rw (get_or-drop met wanted i 0) behind)

-- and where each was met before
pub none_left : (wanted : List ℕ) (met lines line : ℕ) → length wanted ≤ met → (list_any (nat_eq line) (drop met wanted) && nat_le line lines) ≡ false
none_left wanted met lines line all = ap (λ (xs : List ℕ). list_any (nat_eq line) xs && nat_le line lines) (drop_all met wanted all)
