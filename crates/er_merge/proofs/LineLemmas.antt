-- The first line of a text, by the place of its LF.
use Rattle.std.proofs.Common.{◌≡◌, ◌⊎◌, ℕ, ◌+◌, ◌-◌, ◌<◌, ◌≤◌, true, false, refl, inl, inr, List, ◌∷◌, [], length, take, drop, sym, ap, ◌∙◌, append-nil, arith}
use Rattle.std.specs.List.{position_or_len}
use Rattle.er_lines.specs.Lines.{is_end, lines_of}
use Rattle.std.proofs.lemmas.List.{take_all, length-drop}
use Rattle.er_lines.proofs.WordLemmas.{place_le}
use Rattle.er_lines.proofs.LineLemmas.{lines_last, lines_whole}

pub first_line : (bytes : List ℕ) (len : ℕ) → len ≡ position_or_len is_end bytes → len < length bytes
    → lines_of bytes ≡ record { bytes = take len bytes; ended = true } ∷ lines_of (drop (len + 1) bytes)
first_line bytes len place within =
    let inner : position_or_len is_end bytes < length bytes = omega (arith, place, within) in
    ap lines_of (sym (append-nil bytes)) ∙ (rw place (lines_whole bytes [] inner)) ∙ ap (λ (b : List ℕ). record { bytes = take len bytes; ended = true } ∷ lines_of b) (append-nil (drop (len + 1) bytes))

-- a text without an LF
pub no_feed : (bytes : List ℕ) (len : ℕ) → len ≡ position_or_len is_end bytes → length bytes ≤ len → (bytes ≡ []) ⊎ (lines_of bytes ≡ record { bytes = bytes; ended = false } ∷ [])
no_feed [] len place all = inl refl
no_feed (byte ∷ bytes) len place all =
    let most = place_le is_end (byte ∷ bytes) in
    let same : position_or_len is_end (byte ∷ bytes) ≡ length (byte ∷ bytes) = omega (arith, place, all, most) in
    inr (lines_last (byte ∷ bytes) (omega arith) same)

-- the bytes from a place on
pub rest_is : (n : ℕ) (xs : List ℕ) → n ≤ length xs → take (length xs - n) (drop n xs) ≡ drop n xs
rest_is n xs within = take_all (length xs - n) (drop n xs) (omega (arith, length-drop n xs))
