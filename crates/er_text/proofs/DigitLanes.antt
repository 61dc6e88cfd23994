-- From the lanes of 16 bytes to the number that the first twelve write.
use Rattle.std.proofs.Common.{◌≡◌, ℕ, ◌+◌, ◌*◌, ◌/◌, ◌%◌, ◌^◌, ◌<◌, ◌≤◌, eqb, leb, Bool, true, false, not, ◌||◌, ◌&&◌, cond, List, [], ◌∷◌, map, length, get_or, Fits, w8, w64, refl, sym, ap, ◌∙◌, arith}
use Rattle.std.specs.Int.{from_be_bytes}
use Rattle.std.specs.Char.{digit_value}
use Rattle.std.proofs.lemmas.Bool.{agree_below, agree_below_at, and_parts, eqb-true}
use Rattle.std.proofs.lemmas.Bool.Decides.{nat_tests}
use Rattle.std.proofs.lemmas.List.{get_or-map, length-map}
use Rattle.std.proofs.lemmas.Simd.{map-map, mask_l-mod, length-chunk, get_or-chunk, bit_mask_l, get_or_wider, Each1-from_get_or}
use lib.Lanes.{Each1, chunk, mask_l, sel_l, top, number_l, digits_l}
use Rattle.er_text.specs.Inner.FastPath.{HexSoFar}
use Rattle.er_text.proofs.FastPathLemmas.{no_digit, of_value, four_digits_more}

sel_maps : (p : ℕ → Bool) (a b : ℕ → ℕ) (v : List ℕ) → sel_l (map p v) (map a v) (map b v) ≡ map (λ x. cond (p x) (a x) (b x)) v
sel_maps p a b [] = refl
sel_maps p a b (x ∷ xs) = ap (λ l. cond (p x) (a x) (b x) ∷ l) (sel_maps p a b xs)

-- the lanes of one vector where a mask is set, and of another elsewhere
pub chosen_lanes : (v m xs ys : List ℕ) (f a b : ℕ → ℕ) → m ≡ map f v → xs ≡ map a v → ys ≡ map b v → sel_l (map (top 7) m) xs ys ≡ map (λ x. cond (top 7 (f x)) (a x) (b x)) v
chosen_lanes v m xs ys f a b mask first second =
    rw (mask, first, second) (ap (λ t. sel_l t (map a v) (map b v)) (map-map (top 7) f v) ∙ sel_maps (λ x. top 7 (f x)) a b v)

-- the value in a lane is that of the digit there
record IsDigit (d values : List ℕ) (i : ℕ) : Type 0 where
  is : get_or values i 0 ≡ digit_value (get_or d i 0)
  low : get_or values i 0 < 16

is_set : (b : Bool) → ◌≡◌ {A = ℕ} (cond b 1 0) 1 → b ≡ true
is_set true e = refl
is_set false e = absurd (omega (arith, e))

if_passed : (passes right : Bool) → (not passes || right) ≡ true → passes ≡ true → right ≡ true
if_passed true right e p = e
if_passed false right e p = absurd (cc)

abbrev test : (ℕ → Bool) → (ℕ → ℕ) → ℕ → Bool
test p g x = not (p x) || (eqb (g x) (digit_value x) && leb (digit_value x) 15)

digit_lane : (d : List ℕ) (p : ℕ → Bool) (g : ℕ → ℕ) (i : ℕ) → 16 ≤ length d → ((k : ℕ) → Fits w8 (get_or d k 0)) → agree_below (test p g) (λ _. true) 256 ≡ true
    → i < 16 → mask_l (map p (chunk 0 16 d)) / 2 ^ i % 2 ≡ 1 → IsDigit d (map g (chunk 0 16 d)) i
digit_lane d p g i room fits all inside odd =
    let v = chunk 0 16 d in
    let long : length v ≡ 16 = length-chunk 0 16 d room in
    let within : i < length v = omega (arith, long, inside) in
    let here : get_or v i 0 ≡ get_or d i 0 = get_or-chunk 0 16 d i 0 inside ∙ ap (λ k. get_or d k 0) (omega arith) in
    let set : get_or (map p v) i false ≡ true = is_set (get_or (map p v) i false) (sym (bit_mask_l (map p v) i) ∙ odd) in
    let passes : p (get_or d i 0) ≡ true = sym (get_or-map p v i 0 false within ∙ ap p here) ∙ set in
    let right = if_passed (p (get_or d i 0)) (eqb (g (get_or d i 0)) (digit_value (get_or d i 0)) && leb (digit_value (get_or d i 0)) 15) (agree_below_at (test p g) (λ _. true) 256 (get_or d i 0) all (fits i).fits) passes in
    let parts = and_parts (eqb (g (get_or d i 0)) (digit_value (get_or d i 0))) (leb (digit_value (get_or d i 0)) 15) right in
    let value : get_or (map g v) i 0 ≡ g (get_or d i 0) = get_or-map g v i 0 0 within ∙ ap g here in
    let same : g (get_or d i 0) ≡ digit_value (get_or d i 0) = eqb-true (g (get_or d i 0)) (digit_value (get_or d i 0)) parts.0 in
    let small : digit_value (get_or d i 0) ≤ 15 = grind (arith, nat_tests, parts.1) in
    record { is = value ∙ same; low = omega (arith, value, same, small) }

two_lanes : (xs : List ℕ) → length xs ≡ 2 → number_l 256 xs ≡ get_or xs 0 0 + 256 * get_or xs 1 0
two_lanes [] e = absurd (omega (arith, e))
two_lanes (x ∷ []) e = absurd (omega (arith, e))
two_lanes (x ∷ y ∷ []) e = omega arith
two_lanes (x ∷ y ∷ z ∷ rest) e = absurd (omega (arith, e))

pair_byte : (ds : List ℕ) (h : ℕ → ℕ) (j : ℕ) → ((w : ℕ) → h w ≡ w * 4097 % 65536 / 256) → length ds ≡ 16 → Each1 (λ x. x < 256) ds → j < 8
    → get_or ds (2 * j + 0) 0 < 16 → get_or ds (2 * j + 1) 0 < 16
    → get_or (map h (digits_l 65536 8 (number_l 256 ds))) j 0 ≡ get_or ds (2 * j + 0) 0 * 16 + get_or ds (2 * j + 1) 0
pair_byte ds h j form long each inside high low =
    let two = two_lanes (chunk (2 * j) 2 ds) (length-chunk (2 * j) 2 ds (omega (arith, long, inside))) in
    let a = get_or-chunk (2 * j) 2 ds 0 0 (omega arith) in
    let b = get_or-chunk (2 * j) 2 ds 1 0 (omega arith) in
    let pair = get_or_wider 256 2 65536 8 ds j refl each inside in
    get_or-map h (digits_l 65536 8 (number_l 256 ds)) j 0 0 inside ∙ form (get_or (digits_l 65536 8 (number_l 256 ds)) j 0) ∙ omega (arith, two, a, b, pair, high, low)

a_byte : (ws : List ℕ) (h : ℕ → ℕ) (j : ℕ) → ((w : ℕ) → h w ≡ w * 4097 % 65536 / 256) → j < length ws → get_or (map h ws) j 0 < 256
a_byte ws h j form inside =
    let whole : get_or (map h ws) j 0 ≡ get_or ws j 0 * 4097 % 65536 / 256 = get_or-map h ws j 0 0 inside ∙ form (get_or ws j 0) in
    omega (arith, whole)

be_eight : (bs : List ℕ) → from_be_bytes w64 bs ≡ get_or bs 0 0 * 256 ^ 7 + get_or bs 1 0 * 256 ^ 6 + get_or bs 2 0 * 256 ^ 5 + get_or bs 3 0 * 256 ^ 4 + get_or bs 4 0 * 256 ^ 3 + get_or bs 5 0 * 256 ^ 2 + get_or bs 6 0 * 256 ^ 1 + get_or bs 7 0
be_eight bs = refl

pub twelve_found : (d z ds : List ℕ) (f g h : ℕ → ℕ) (number : ℕ) → 16 ≤ length d → ((k : ℕ) → Fits w8 (get_or d k 0))
    → mask_l (map (top 7) z) % 2 ^ 64 % 4096 ≡ 4095 → z ≡ map f (chunk 0 16 d) → ds ≡ map g (chunk 0 16 d)
    → agree_below (test (λ x. top 7 (f x)) g) (λ _. true) 256 ≡ true → agree_below (λ x. leb (g x) 255) (λ _. true) 256 ≡ true
    → ((w : ℕ) → h w ≡ w * 4097 % 65536 / 256) → number ≡ from_be_bytes w64 (map h (digits_l 65536 8 (number_l 256 ds))) → HexSoFar d (number / 65536) 12
twelve_found d z ds f g h number room fits twelve lanes values right bytes form told =
    let v = chunk 0 16 d in
    let p : ℕ → Bool = λ x. top 7 (f x) in
    let size : length v ≡ 16 = length-chunk 0 16 d room in
    let whole = ap (λ l. mask_l l % 2 ^ 64) (ap (map (top 7)) lanes ∙ map-map (top 7) f v) ∙ mask_l-mod (map p v) 64 (omega (arith, length-map v p, size)) in
    let mask : mask_l (map p v) % 4096 ≡ 4095 = ap (λ m. m % 4096) (sym whole) ∙ twelve in
    let lane : (i : ℕ) → i < 16 → mask_l (map p v) / 2 ^ i % 2 ≡ 1 → IsDigit d ds i =
    λ i inside odd. rw values (digit_lane d p g i room fits right inside odd) in
    let long : length ds ≡ 16 = ap length values ∙ length-map v g ∙ size in
    let each : Each1 (λ x. x < 256) ds = Each1-from_get_or (λ x. x < 256) ds 0 (λ i inside.
    let within : i < 16 = omega (arith, long, inside) in
    let here : get_or v i 0 ≡ get_or d i 0 = get_or-chunk 0 16 d i 0 within ∙ ap (λ k. get_or d k 0) (omega arith) in
    let is : get_or ds i 0 ≡ g (get_or d i 0) = ap (λ l. get_or l i 0) values ∙ get_or-map g v i 0 0 (omega (arith, size, within)) ∙ ap g here in
    let test : leb (g (get_or d i 0)) 255 ≡ true = agree_below_at (λ x. leb (g x) 255) (λ _. true) 256 (get_or d i 0) bytes (fits i).fits in
    let small : g (get_or d i 0) ≤ 255 = grind (arith, nat_tests, test) in
    omega (arith, is, small)) in
    let ws = digits_l 65536 8 (number_l 256 ds) in
    let l0 = lane 0 (omega arith) (omega (arith, mask)) in
    let l1 = lane 1 (omega arith) (omega (arith, mask)) in
    let l2 = lane 2 (omega arith) (omega (arith, mask)) in
    let l3 = lane 3 (omega arith) (omega (arith, mask)) in
    let l4 = lane 4 (omega arith) (omega (arith, mask)) in
    let l5 = lane 5 (omega arith) (omega (arith, mask)) in
    let l6 = lane 6 (omega arith) (omega (arith, mask)) in
    let l7 = lane 7 (omega arith) (omega (arith, mask)) in
    let l8 = lane 8 (omega arith) (omega (arith, mask)) in
    let l9 = lane 9 (omega arith) (omega (arith, mask)) in
    let l10 = lane 10 (omega arith) (omega (arith, mask)) in
    let l11 = lane 11 (omega arith) (omega (arith, mask)) in
    let b0 : get_or (map h ws) 0 0 ≡ get_or ds 0 0 * 16 + get_or ds 1 0 = pair_byte ds h 0 form long each (omega arith) l0.low l1.low in
    let b1 : get_or (map h ws) 1 0 ≡ get_or ds 2 0 * 16 + get_or ds 3 0 = pair_byte ds h 1 form long each (omega arith) l2.low l3.low in
    let b2 : get_or (map h ws) 2 0 ≡ get_or ds 4 0 * 16 + get_or ds 5 0 = pair_byte ds h 2 form long each (omega arith) l4.low l5.low in
    let b3 : get_or (map h ws) 3 0 ≡ get_or ds 6 0 * 16 + get_or ds 7 0 = pair_byte ds h 3 form long each (omega arith) l6.low l7.low in
    let b4 : get_or (map h ws) 4 0 ≡ get_or ds 8 0 * 16 + get_or ds 9 0 = pair_byte ds h 4 form long each (omega arith) l8.low l9.low in
    let b5 : get_or (map h ws) 5 0 ≡ get_or ds 10 0 * 16 + get_or ds 11 0 = pair_byte ds h 5 form long each (omega arith) l10.low l11.low in
    let b6 : get_or (map h ws) 6 0 < 256 = a_byte ws h 6 form (omega arith) in
    let b7 : get_or (map h ws) 7 0 < 256 = a_byte ws h 7 form (omega arith) in
    let sum = told ∙ be_eight (map h ws) in
    let four = four_digits_more d 0 0 _ _ _ _ (no_digit d) (omega (arith, room)) l0.is l1.is l2.is l3.is l0.low l1.low l2.low l3.low in
    let eight = four_digits_more d _ 4 _ _ _ _ four (omega (arith, room)) l4.is l5.is l6.is l7.is l4.low l5.low l6.low l7.low in
    let more = four_digits_more d _ 8 _ _ _ _ eight (omega (arith, room)) l8.is l9.is l10.is l11.is l8.low l9.low l10.low l11.low in
    of_value d _ (number / 65536) 12 (omega (arith, sum, b0, b1, b2, b3, b4, b5, b6, b7)) more
