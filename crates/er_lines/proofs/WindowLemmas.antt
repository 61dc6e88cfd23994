-- The bytes of a window after a read into its end, and after a step of its start.
use Rattle.std.proofs.Common.{◌≡◌, ℕ, ◌+◌, ◌-◌, ◌≤◌, List, ◌++◌, length, take, drop, slice_range, refl, sym, ap, ◌∙◌, arith}
use Rattle.std.proofs.lemmas.List.{take_at, drop_at, take-append-le, drop-take, drop-drop, length-take-le, length-take}
use Rattle.std.proofs.lemmas.Slice.{between_from_start}
use Rattle.std.proofs.Math.Seq.{take-add}

pub after_read : (xs buffer tail : List ℕ) (start end n : ℕ) → start ≡ 0 → end ≤ length xs → n ≤ length buffer
    → slice_range (take end xs ++ (buffer ++ tail)) start (end + n) ≡ slice_range xs start end ++ take n buffer
after_read xs buffer tail start end n zero fits room =
    let front = length-take-le end xs fits in
    let all = take end xs ++ (buffer ++ tail) in
    let new : slice_range all start (end + n) ≡ take (end + n) all = rw zero (between_from_start all (end + n)) in
    let old : slice_range xs start end ≡ take end xs = rw zero (between_from_start xs end) in
    new ∙ take-add end n all
    ∙ (rw (take_at (take end xs) (buffer ++ tail) end front, drop_at (take end xs) (buffer ++ tail) end front, take-append-le n buffer tail room, old) refl)

pub passed_over : (xs : List ℕ) (start end count : ℕ) → count ≤ length (slice_range xs start end)
    → slice_range xs (start + count) end ≡ drop count (slice_range xs start end)
passed_over xs start end count inside =
    let most : count ≤ end - start = omega (arith, length-take (end - start) (drop start xs)) in
    let rest = end - (start + count) in
    let parts : end - start ≡ count + rest = omega arith in
    sym (ap (λ j. drop count (take j (drop start xs))) parts ∙ drop-take count rest (drop start xs) ∙ ap (take rest) (drop-drop count start xs))

-- what the window shows stays, whatever was written behind it
pub kept_front : (xs buffer tail : List ℕ) (start end : ℕ) → start ≡ 0 → end ≤ length xs → slice_range (take end xs ++ (buffer ++ tail)) start end ≡ slice_range xs start end
kept_front xs buffer tail start end zero fits =
    let front = length-take-le end xs fits in
    let all = take end xs ++ (buffer ++ tail) in
    let new : slice_range all start end ≡ take end all = rw zero (between_from_start all end) in
    let old : slice_range xs start end ≡ take end xs = rw zero (between_from_start xs end) in
    new ∙ take_at (take end xs) (buffer ++ tail) end front ∙ sym old
