-- The words at the places of a block.
use Rattle.std.proofs.Common.{◌≡◌, ◌≢◌, ◌∙◌, ◌⊎◌, inl, inr, ◌&&◌, ℕ, zero, suc, ◌+◌, ◌*◌, ◌<◌, ◌≤◌, ◌/◌, ◌%◌, nat_eq, nat_le, nat_lt, cond, Bool, true, false, List, [], ◌∷◌, ◌++◌, get_or, length, map, slice_set, refl, sym, ap, arith}
use Rattle.std.proofs.lemmas.Bool.Decides.{nat_tests}
use borrow.Author.Tests.{eqb-true, eqb-false}
use Rattle.er_epochs.specs.declared.word.OrderWord.{OrderWord}
use Rattle.er_epochs.specs.Words.{IsButForTags, Said, blank, said, word_at}

-- one more word that says nothing
pub blank_more : {A : Type 0} (words : List (OrderWord A)) (word : OrderWord A) → said word ≡ blank → ((i : ℕ) → word_at (map said words) i ≡ blank)
    → (i : ℕ) → word_at (map said (words ++ word ∷ [])) i ≡ blank
blank_more [] word is all zero = is
blank_more [] word is all (suc i) = refl
blank_more (w ∷ words) word is all zero = all zero
blank_more (w ∷ words) word is all (suc i) = blank_more words word is (λ j. all (suc j)) i

-- the word at a place
pub said_at : {A : Type 0} (words : List (OrderWord A)) (i : ℕ) (word : OrderWord A) → i < length words → word ≡ get_or words i word → said word ≡ word_at (map said words) i
said_at [] i word within is = absurd (omega (arith, within))
said_at (w ∷ words) zero word within is = ap said is
said_at (w ∷ words) (suc i) word within is = said_at words i word (omega (arith, within)) is

-- and one that is put there
pub put_at : {A : Type 0} (words : List (OrderWord A)) (i : ℕ) (word : OrderWord A) → i < length words → word_at (map said (slice_set words i word)) i ≡ said word
put_at [] i word within = absurd (omega (arith, within))
put_at (w ∷ words) zero word within = refl
put_at (w ∷ words) (suc i) word within = put_at words i word (omega (arith, within))

-- or the same one with other tags
pub tags_at : {A : Type 0} (words : List (OrderWord A)) (i : ℕ) (old slot word : OrderWord A) → i < length words → old ≡ get_or words i old → slot ≡ get_or words i slot → IsButForTags old word
    → word_at (map said (slice_set words i (record { writer = slot.writer; write_count = slot.write_count; reader = slot.reader; read_count = slot.read_count; write_tag = word.write_tag; read_tag = word.read_tag }))) i ≡ said word
tags_at [] i old slot word within there is same = absurd (omega (arith, within))
tags_at (w ∷ words) zero old slot word within there is same =
    let alike : old ≡ slot = there ∙ sym is in
    ap said (λ k. record {
      writer = (sym (ap (λ v. v.writer) alike) ∙ sym same.0) k;
      write_count = (sym (ap (λ v. v.write_count) alike) ∙ sym same.1) k;
      reader = (sym (ap (λ v. v.reader) alike) ∙ sym same.2) k;
      read_count = (sym (ap (λ v. v.read_count) alike) ∙ sym same.3) k;
      write_tag = word.write_tag;
      read_tag = word.read_tag;
    })
tags_at (w ∷ words) (suc i) old slot word within there is same = tags_at words i old slot word (omega (arith, within)) there is same

pub put_beside : {A : Type 0} (words : List (OrderWord A)) (place i : ℕ) (word : OrderWord A) → nat_eq place i ≡ false → word_at (map said (slice_set words place word)) i ≡ word_at (map said words) i
put_beside [] place i word apart = refl
put_beside (w ∷ words) zero zero word apart = cc
put_beside (w ∷ words) zero (suc i) word apart = refl
put_beside (w ∷ words) (suc place) zero word apart = refl
put_beside (w ∷ words) (suc place) (suc i) word apart = put_beside words place i word (grind (arith, nat_tests, apart))

-- one more place is emptied
pub emptied_next : {A : Type 0} (old now new : List (Said A)) (start place : ℕ) → start ≤ place
    → ((i : ℕ) → word_at now i ≡ cond (nat_le start i && nat_lt i place) blank (word_at old i)) → word_at new place ≡ blank
    → ((i : ℕ) → nat_eq place i ≡ false → word_at new i ≡ word_at now i)
    → (i : ℕ) → word_at new i ≡ cond (nat_le start i && nat_lt i (place + 1)) blank (word_at old i)
emptied_next old now new start place low so_far here others i = by (nat_eq place i) refl
  where
    within : place ≡ i → (nat_le start i && nat_lt i (place + 1)) ≡ true
    within e = grind (arith, nat_tests)

    same : place ≢ i → nat_lt i place ≡ nat_lt i (place + 1)
    same apart = grind (arith, nat_tests)

    by : (b : Bool) → nat_eq place i ≡ b → word_at new i ≡ cond (nat_le start i && nat_lt i (place + 1)) blank (word_at old i)
    by true e =
        let at = eqb-true place i e in
        ap (word_at new) (sym at) ∙ here ∙ sym (ap (λ b. cond b blank (word_at old i)) (within at))
    by false e = others i e ∙ so_far i ∙ ap (λ b. cond (nat_le start i && b) blank (word_at old i)) (same (eqb-false place i e))

-- none is at the start, and all are where there is no place left
pub emptied_none : {A : Type 0} (words : List (Said A)) (start i : ℕ) → word_at words i ≡ cond (nat_le start i && nat_lt i start) blank (word_at words i)
emptied_none words start i = ap (λ b. cond b blank (word_at words i)) (sym never)
  where
    never : (nat_le start i && nat_lt i start) ≡ false
    never = grind (arith, nat_tests)

pub emptied_all : (start end place i : ℕ) → start ≤ place → (place ≤ start) ⊎ (place ≤ end) → end ≤ place → (nat_le start i && nat_lt i place) ≡ (nat_le start i && nat_lt i end)
emptied_all start end place i low (inl none) past = grind (arith, nat_tests)
emptied_all start end place i low (inr within) past = grind (arith, nat_tests)

pub in_block : (number place : ℕ) → place < 32 → (number * 32 + place) / 32 ≡ number
in_block number place within = omega arith

pub at_place : (number place : ℕ) → place < 32 → (number * 32 + place) % 32 ≡ place
at_place number place within = omega arith
