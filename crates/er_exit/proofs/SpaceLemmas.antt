-- Spaces in place of what is shown, as many as it takes columns.
use Rattle.std.proofs.Common.{◌≡◌, ◌≢◌, ℕ, ◌+◌, ◌-◌, ◌<◌, ◌≤◌, true, false, cond, nat_le, List, [], ◌∷◌, ◌++◌, length, map, take, drop, get_or, codes, refl, sym, ap, ◌∙◌, append_assoc, arith}
use Rattle.std.proofs.lemmas.List.{append-nil, length-map, map-append, take_more}
use Rattle.std.proofs.lemmas.Grind.{flat_map-append}
use Rattle.er_exit.specs.Plain.{fitting, shown, shown_byte}
use Rattle.er_exit.specs.Quote.{front_mark, quote_from, start_of}
use Rattle.er_exit.specs.Written.{line_text}

abbrev pub blank : List ℕ → List ℕ
blank text = map (λ (byte : ℕ). 32) text

few_blanks : (text : List ℕ) → length text ≤ 4 → take (length text) (codes "    ") ≡ blank text
few_blanks [] few = refl
few_blanks (a ∷ []) few = refl
few_blanks (a ∷ b ∷ []) few = refl
few_blanks (a ∷ b ∷ c ∷ []) few = refl
few_blanks (a ∷ b ∷ c ∷ d ∷ []) few = refl
few_blanks (a ∷ b ∷ c ∷ d ∷ e ∷ text) few = absurd (omega arith)

-- what a write of so many spaces puts
pub put_blank : (front new text : List ℕ) (n : ℕ) → n ≡ length text → n ≤ 4 → new ≡ front ++ take n (codes "    ") → new ≡ front ++ blank text
put_blank front new text n width few put =
    put ∙ ap (λ (t : List ℕ). front ++ t) (ap (λ (m : ℕ). take m (codes "    ")) width ∙ few_blanks text (omega (arith, width, few)))

shown_more : (bytes : List ℕ) (i : ℕ) → i < length bytes → shown (take (i + 1) bytes) ≡ shown (take i bytes) ++ shown_byte (get_or bytes i 0)
shown_more bytes i below =
    ap shown (take_more bytes i 0 below)
    ∙ flat_map-append shown_byte (take i bytes) (get_or bytes i 0 ∷ [])
    ∙ ap (λ (t : List ℕ). shown (take i bytes) ++ t) (append-nil (shown_byte (get_or bytes i 0)))

-- the spaces of one byte more
pub blank_more : (old front new bytes : List ℕ) (i : ℕ) → i < length bytes → front ≡ old ++ blank (shown (take i bytes)) → new ≡ front ++ blank (shown_byte (get_or bytes i 0))
    → new ≡ old ++ blank (shown (take (i + 1) bytes))
blank_more old front new bytes i below so_far put =
    put
    ∙ ap (λ (t : List ℕ). t ++ blank (shown_byte (get_or bytes i 0))) so_far
    ∙ append_assoc old (blank (shown (take i bytes))) (blank (shown_byte (get_or bytes i 0)))
    ∙ ap (λ (t : List ℕ). old ++ t) (sym (ap blank (shown_more bytes i below) ∙ map-append (λ (byte : ℕ). 32) (shown (take i bytes)) (shown_byte (get_or bytes i 0))))

pub blank_len : (text : List ℕ) → length (blank text) ≡ length text
blank_len text = length-map text (λ (byte : ℕ). 32)

-- the dots are shown as they are
pub shown_mark : (start : ℕ) → shown (front_mark start) ≡ front_mark start
unfolding shown_byte
shown_mark start = elim (nat_le start 0) as (λ b. shown (cond b [] (codes "..")) ≡ cond b [] (codes "..")) [ true ↦ refl | false ↦ refl ]

-- eight texts, one behind another
put_eight : (old a b c d e f g new r s t u v w x y : List ℕ) → a ≡ old ++ r → b ≡ a ++ s → c ≡ b ++ t → d ≡ c ++ u → e ≡ d ++ v → f ≡ e ++ w → g ≡ f ++ x → new ≡ g ++ y
    → new ≡ old ++ (r ++ s ++ t ++ u ++ v ++ (w ++ x) ++ y)
put_eight old a b c d e f g new r s t u v w x y one two three four five six seven eight =
    rw (eight, seven, six, five, four, three, two, one) (simp append_assoc)

-- a quote, by its parts
pub quote_put : (line : List ℕ) (place start : ℕ) (old a b c d e f g new : List ℕ) → a ≡ old ++ codes "    " → b ≡ a ++ front_mark start → c ≡ b ++ fitting 100 (drop start line)
    → d ≡ c ++ 10 ∷ [] → e ≡ d ++ codes "    " → f ≡ e ++ blank (shown (front_mark start)) → g ≡ f ++ blank (shown (take (place - start) (drop start line))) → new ≡ g ++ codes "^\n"
    → new ≡ old ++ quote_from line start place
quote_put line place start old a b c d e f g new one two three four five six seven eight =
    let rest = take (place - start) (drop start line) in
    let mark = front_mark start in
    let spaces : blank (shown mark) ++ blank (shown rest) ≡ blank (mark ++ shown rest) =
    ap (λ (t : List ℕ). blank t ++ blank (shown rest)) (shown_mark start) ∙ sym (map-append (λ (byte : ℕ). 32) mark (shown rest)) in
    put_eight old a b c d e f g new (codes "    ") mark (fitting 100 (drop start line)) (10 ∷ []) (codes "    ") (blank (shown mark)) (blank (shown rest)) (codes "^\n")
    one two three four five six seven eight
    ∙ ap (λ (t : List ℕ). old ++ (codes "    " ++ mark ++ fitting 100 (drop start line) ++ 10 ∷ [] ++ codes "    " ++ t ++ codes "^\n")) spaces

-- that of a line that has bytes
pub line_put : (line : List ℕ) (place start : ℕ) (old new : List ℕ) → line ≢ [] → start ≡ start_of line place → new ≡ old ++ quote_from line start place → new ≡ old ++ line_text line place
line_put [] place start old new some from put = absurd (some refl)
line_put (byte ∷ bytes) place start old new some from put = put ∙ ap (λ (s : ℕ). old ++ quote_from (byte ∷ bytes) s place) from
