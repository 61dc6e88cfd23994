-- From the mask of a block of bytes to the bytes.
use Rattle.std.proofs.Common.{◌≡◌, ℕ, ◌+◌, ◌%◌, ◌^◌, ◌<◌, ◌≤◌, eqb, cond, Bool, true, false, ◌||◌, List, map, length, [], ◌∷◌, bit_or, get_or, Fits, w8, refl, sym, ap, ◌∙◌, arith, inl, inr}
use Rattle.std.specs.List.{list_all, position_or_len}
use Rattle.std.proofs.lemmas.Bool.{agree_below, agree_below_at, cases_lt, eqb-true}
use Rattle.std.proofs.lemmas.Simd.{map-map, mask_l-mod, length-chunk, none_from_empty_mask, first_set_mask_l, run_in_chunk_fails, run_in_chunk_stops}
use Rattle.std.proofs.lemmas.List.{length-map}
use Rattle.std.proofs.lemmas.List.Elements.{All-from_get_or}
use Rattle.std.proofs.lemmas.List.Sums.{list_all-from_AllPass, position_or_len_is}
use Rattle.std.specs.Int.Count.{count_trailing_zeros, trailing_of_zero}
use lib.Lanes.{chunk, mask_l, top}
use Rattle.er_lines.specs.Naming.{is_name_byte}
use Rattle.er_lines.specs.Inner.Blocks.{AreNameBytes}

-- if a lane is set wherever a byte is no byte of names, and none is set, all are bytes of names
pub clear_block : (d : List ℕ) (i : ℕ) (z : List ℕ) (f : ℕ → ℕ) → i + 16 ≤ length d → ((k : ℕ) → Fits w8 (get_or d k 0))
    → eqb (mask_l (map (top 7) z) % 2 ^ 64) 0 ≡ true → z ≡ map f (chunk i 16 d)
    → agree_below (λ x. top 7 (f x) || is_name_byte x) (λ _. true) 256 ≡ true → AreNameBytes d i (i + 16)
clear_block d i z f room fits none lanes all k from to =
    let v = chunk i 16 d in
    let p : ℕ → Bool = λ x. top 7 (f x) in
    let mask = ap (λ l. mask_l l % 2 ^ 64) (ap (map (top 7)) lanes ∙ map-map (top 7) f v) ∙ mask_l-mod (map p v) 64 (omega (arith, length-map v p, length-chunk i 16 d room)) in
    let clear = none_from_empty_mask p d i 16 0 room (sym mask ∙ eqb-true _ 0 none) k from to in
    sym (ap (λ b. b || is_name_byte (get_or d k 0)) clear) ∙ agree_below_at (λ x. top 7 (f x) || is_name_byte x) (λ _. true) 256 (get_or d k 0) all (fits k).fits

pub first_blocks : (d : List ℕ) (at : ℕ) → AreNameBytes d 0 at → AreNameBytes d at (at + 16) → AreNameBytes d 0 (at + 16)
first_blocks d at front block k from to = elim (cases_lt k at) [ inl early ↦ front k from early | inr late ↦ block k (omega (arith, late)) to ]

-- the last 16 bytes overlap those before
pub all_blocks : (d : List ℕ) (seen last : ℕ) → AreNameBytes d 0 seen → last ≤ seen → last + 16 ≡ length d → AreNameBytes d last (last + 16) → list_all is_name_byte d ≡ true
all_blocks d seen last front overlap whole back =
    list_all-from_AllPass is_name_byte d (All-from_get_or (λ x. is_name_byte x ≡ true) d 0 (λ k inside.
    elim (cases_lt k seen) [ inl early ↦ front k (omega arith) early | inr late ↦ back k (omega (arith, late, overlap)) (omega (arith, inside, whole)) ]))

lowest : (m n place : ℕ) (b : Bool) → eqb m 0 ≡ b → n ≤ 64 → cond b n (count_trailing_zeros 64 m) ≡ place → count_trailing_zeros 64 m < n → count_trailing_zeros 64 m ≡ place
lowest m n place true e few is less = absurd (omega (arith, ap (count_trailing_zeros 64) (eqb-true m 0 e) ∙ trailing_of_zero 64, less, few))
lowest m n place false e few is less = is

-- the lowest bit of the mask of a block in front is the first place of all
pub first_in_block : (p : ℕ → Bool) (d : List ℕ) (n : ℕ) → n ≤ length d → n ≤ 64
    → count_trailing_zeros 64 (mask_l (map p (chunk 0 n d))) < n → count_trailing_zeros 64 (mask_l (map p (chunk 0 n d))) ≡ position_or_len p d
first_in_block p d n long few less =
    let v = chunk 0 n d in
    let m = mask_l (map p v) in
    let r = count_trailing_zeros 64 m in
    let room : 0 + n ≤ length d = omega (arith, long) in
    let here : 0 + r ≡ r = omega arith in
    let counted = lowest m n (position_or_len p v) (eqb m 0) refl few (first_set_mask_l p v n (length-chunk 0 n d room) few) less in
    sym (position_or_len_is p d r 0 (omega (arith, long, less))
    (λ k below. run_in_chunk_fails p d 0 n r 0 room counted k (omega arith) (omega (arith, below)))
    (λ within. sym (ap (λ i. p (get_or d i 0)) here) ∙ run_in_chunk_stops p d 0 n r 0 room counted less))

same_map : (f g : ℕ → Bool) → ((x : ℕ) → f x ≡ g x) → (v : List ℕ) → map f v ≡ map g v
same_map f g same [] = refl
same_map f g same (x ∷ v) = rw (same x, same_map f g same v) refl

-- the mask of lanes that are set where a byte passes
pub mask_of_lanes : (p : ℕ → Bool) (v z : List ℕ) (f : ℕ → ℕ) → length v ≤ 64 → z ≡ map f v → ((x : ℕ) → top 7 (f x) ≡ p x) → mask_l (map (top 7) z) % 2 ^ 64 ≡ mask_l (map p v)
mask_of_lanes p v z f few lanes passes =
    ap (λ l. mask_l l % 2 ^ 64) (ap (map (top 7)) lanes ∙ map-map (top 7) f v ∙ same_map (λ x. top 7 (f x)) p passes v)
    ∙ mask_l-mod (map p v) 64 (omega (arith, length-map v p, few))

-- a lane that is set by either of two comparisons
pub either_lane : (a b : Bool) → top 7 (bit_or (cond a 255 0) (cond b 255 0)) ≡ (a || b)
either_lane true true = refl
either_lane true false = refl
either_lane false true = refl
either_lane false false = refl
