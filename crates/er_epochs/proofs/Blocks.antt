-- One word, or some that lie side by side, change in one block: what that makes of what is kept of all words.
use Rattle.std.proofs.Common.{◌≡◌, ◌≢◌, ◌∙◌, ℕ, ◌+◌, ◌≤◌, ◌/◌, ◌%◌, ◌&&◌, nat_eq, nat_le, nat_lt, Bool, true, false, cond, [], Some, None, refl, sym, ap, subst, arith}
use Rattle.std.specs.Map.{lookup}
use Rattle.std.proofs.lemmas.Bool.Decides.{nat_tests}
use borrow.Author.Tests.{eqb-true, eqb-false}
use Rattle.er_event.specs.declared.addresses.PageRange.{PageRange}
use Rattle.er_model.specs.Words.{is_within}
use Rattle.er_epochs.proofs.Maps.{Puts}
use Rattle.er_epochs.specs.Known.{Known, Since}
use Rattle.er_epochs.specs.Words.{vacant, BlockWords, WordBlocks, AllWords, slot_at, slot_in_block, slot_among, list_of, known_with, known_beside, known_among, is_place_in}

module _ {A : Type 0} where
  -- the block of this number has these words; if it isn't there, they are vacant
  abbrev pub HasWords : WordBlocks A → ℕ → BlockWords A → Type 0
  HasWords blocks number words = (i : ℕ) → slot_in_block (lookup (nat_eq number) blocks) i ≡ slot_at words i

  pub has_found : (blocks : WordBlocks A) (number : ℕ) (words : BlockWords A) → Some words ≡ lookup (nat_eq number) blocks → HasWords blocks number words
  has_found blocks number words found i = ap (λ o. slot_in_block o i) (sym found)

  pub has_none : (blocks : WordBlocks A) (number : ℕ) (words : BlockWords A) → lookup (nat_eq number) blocks ≡ None → ((i : ℕ) → slot_at words i ≡ vacant) → HasWords blocks number words
  has_none blocks number words absent empty i = ap (λ o. slot_in_block o i) absent ∙ sym (empty i)

  -- a block is put where this word stands
  module _ (old new : WordBlocks A) (word number place : ℕ) (was words : BlockWords A) (block : number ≡ word / 32) (at : place ≡ word % 32) (has : HasWords old number was) where
    word_was : slot_at was place ≡ slot_among old word
    word_was = sym (has place) ∙ (λ k. slot_in_block (lookup (nat_eq (block k)) old) (at k))

    other_place : (w : ℕ) → number ≡ w / 32 → nat_eq word w ≡ false → nat_eq place (w % 32) ≡ false
    other_place w here apart = grind (arith, nat_tests)

    module _ (puts : Puts old new number words) where
      put_among : (w : ℕ) → slot_among new w ≡ slot_in_block (cond (nat_eq number (w / 32)) (Some words) (lookup (nat_eq (w / 32)) old)) (w % 32)
      put_among w = ap (λ o. slot_in_block o (w % 32)) (puts (w / 32))

      here : nat_eq number (word / 32) ≡ true
      here = grind (arith, nat_tests)

      word_is : slot_among new word ≡ slot_at words place
      word_is =
          put_among word ∙ (ap (λ b. slot_in_block (cond b (Some words) (lookup (nat_eq (word / 32)) old)) (word % 32)) here ∙ ap (λ i. slot_at words i) (sym at))

      -- the other words stay
      words_stay : ((i : ℕ) → nat_eq place i ≡ false → slot_at words i ≡ slot_at was i) → (w : ℕ) → nat_eq word w ≡ false → slot_among new w ≡ slot_among old w
      words_stay same w apart = put_among w ∙ by (nat_eq number (w / 32)) refl
        where
          by : (at : Bool) → nat_eq number (w / 32) ≡ at → slot_in_block (cond at (Some words) (lookup (nat_eq (w / 32)) old)) (w % 32) ≡ slot_among old w
          by true e =
              let beside = eqb-true number (w / 32) e in
              same (w % 32) (other_place w beside apart) ∙ (sym (has (w % 32)) ∙ ap (λ q. slot_in_block (lookup (nat_eq q) old) (w % 32)) beside)
          by false e = refl

  -- an access of one word, whose list is found by the number n
  module _ (old : AllWords A) (word n number place : ℕ) (was : BlockWords A) (is : n ≡ word) (block : number ≡ word / 32) (at : place ≡ word % 32) (has : HasWords old.blocks number was) where
    -- what is kept of it
    pub found_word : known_beside old.lists n (slot_at was place) ≡ known_among old word
    unfolding known_among
    found_word = λ k. known_beside old.lists (is k) (word_was old.blocks old.blocks word number place was was block at has k)

    module _ (new : AllWords A) (words : BlockWords A) (puts : Puts old.blocks new.blocks number words)
        (places : (i : ℕ) → nat_eq place i ≡ false → slot_at words i ≡ slot_at was i) (lists : (w : ℕ) → nat_eq n w ≡ false → list_of new.lists w ≡ list_of old.lists w) where
      new_word : known_among new word ≡ known_beside new.lists n (slot_at words place)
      unfolding known_among
      new_word = λ k. known_beside new.lists (sym is k) (word_is old.blocks new.blocks word number place was words block at has puts k)

      -- the word goes on
      pub accessed : (R : Known A → Known A → Type 0) → R (known_beside old.lists n (slot_at was place)) (known_beside new.lists n (slot_at words place)) → R (known_among old word) (known_among new word)
      accessed R on =
          subst (λ (k : Known A). R (known_among old word) k) (sym new_word) (subst (λ (k : Known A). R k (known_beside new.lists n (slot_at words place))) found_word on)

      -- the others say what they said
      pub others_stay : (w : ℕ) → nat_eq word w ≡ false → known_among new w ≡ known_among old w
      unfolding known_among
      others_stay w apart = λ j. known_with (words_stay old.blocks new.blocks word number place was words block at has puts places w apart j) (lists w (ap (λ v. nat_eq v w) is ∙ apart) j)

      -- or all do
      pub same_words : known_beside new.lists n (slot_at words place) ≡ known_beside old.lists n (slot_at was place) → (w : ℕ) → known_among new w ≡ known_among old w
      same_words same w = by (nat_eq word w) refl
        where
          by : (b : Bool) → nat_eq word w ≡ b → known_among new w ≡ known_among old w
          by true e = subst (λ (v : ℕ). known_among new v ≡ known_among old v) (eqb-true word w e) (accessed (λ before after. after ≡ before) same)
          by false e = others_stay w e

  -- where there is no block, a word says nothing with any list
  pub same_absent : (old new : AllWords A) (word n number : ℕ) → n ≡ word → number ≡ word / 32 → lookup (nat_eq number) old.blocks ≡ None → new.blocks ≡ old.blocks
      → ((w : ℕ) → nat_eq n w ≡ false → list_of new.lists w ≡ list_of old.lists w) → (w : ℕ) → known_among new w ≡ known_among old w
  unfolding known_among
  same_absent old new word n number is block absent same others w = ap (λ (blocks : WordBlocks A). known_beside new.lists w (slot_among blocks w)) same ∙ by (nat_eq n w) refl
    where
      silent : n ≡ w → slot_among old.blocks w ≡ vacant
      silent e = ap (λ o. slot_in_block o (w % 32)) (ap (λ q. lookup (nat_eq q) old.blocks) (sym (block ∙ ap (λ v. v / 32) (sym is ∙ e))) ∙ absent)

      by : (here : Bool) → nat_eq n w ≡ here → known_beside new.lists w (slot_among old.blocks w) ≡ known_beside old.lists w (slot_among old.blocks w)
      by true e = ap (λ v. known_beside new.lists w v) (silent (eqb-true n w e)) ∙ sym (ap (λ v. known_beside old.lists w v) (silent (eqb-true n w e)))
      by false e = ap (λ reads. known_with (slot_among old.blocks w) reads) (others w e)

  -- some words of a block are reset
  pub reset_block : (old new : AllWords A) (number lo hi : ℕ) (was words : BlockWords A)
      → Some was ≡ lookup (nat_eq number) old.blocks → Puts old.blocks new.blocks number words
      → ((i : ℕ) → slot_at words i ≡ cond (nat_le lo i && nat_le i hi) vacant (slot_at was i))
      → ((w : ℕ) → is_place_in number lo hi w ≡ false → list_of new.lists w ≡ list_of old.lists w)
      → (w : ℕ) → known_among new w ≡ cond (is_place_in number lo hi w) (Since []) (known_among old w)
  unfolding known_among
  reset_block old new number lo hi was words found puts written lists w =
      ap (λ v. known_beside new.lists w v) word_is_reset ∙ after (is_place_in number lo hi w) refl
    where
      by : (same : Bool) → nat_eq number (w / 32) ≡ same
          → slot_in_block (cond same (Some words) (lookup (nat_eq (w / 32)) old.blocks)) (w % 32) ≡ cond (same && (nat_le lo (w % 32) && nat_le (w % 32) hi)) vacant (slot_among old.blocks w)
      by true e =
          written (w % 32) ∙ ap (λ v. cond (nat_le lo (w % 32) && nat_le (w % 32) hi) vacant v)
          (ap (λ o. slot_in_block o (w % 32)) (found ∙ ap (λ q. lookup (nat_eq q) old.blocks) (eqb-true number (w / 32) e)))
      by false e = refl

      word_is_reset : slot_among new.blocks w ≡ cond (is_place_in number lo hi w) vacant (slot_among old.blocks w)
      word_is_reset = ap (λ o. slot_in_block o (w % 32)) (puts (w / 32)) ∙ by (nat_eq number (w / 32)) refl

      after : (here : Bool) → is_place_in number lo hi w ≡ here
          → known_beside new.lists w (cond here vacant (slot_among old.blocks w)) ≡ cond here (Since []) (known_beside old.lists w (slot_among old.blocks w))
      after true e = refl
      after false e = ap (λ reads. known_with (slot_among old.blocks w) reads) (lists w e)

  -- and where there is no block, they say nothing already
  pub absent_block : (all : AllWords A) (number lo hi : ℕ) → lookup (nat_eq number) all.blocks ≡ None
      → (w : ℕ) → known_among all w ≡ cond (is_place_in number lo hi w) (Since []) (known_among all w)
  unfolding known_among
  absent_block all number lo hi absent w = by (nat_eq number (w / 32)) refl
    where
      stays : (b : Bool) (kept : Known A) → kept ≡ (Since []) → kept ≡ cond b (Since []) kept
      stays true kept empty = empty
      stays false kept empty = refl

      by : (same : Bool) → nat_eq number (w / 32) ≡ same
          → known_beside all.lists w (slot_among all.blocks w)
          ≡ cond (same && (nat_le lo (w % 32) && nat_le (w % 32) hi)) (Since []) (known_beside all.lists w (slot_among all.blocks w))
      by true e =
          stays (nat_le lo (w % 32) && nat_le (w % 32) hi) _
          (ap (λ o. known_beside all.lists w (slot_in_block o (w % 32))) (ap (λ p. lookup (nat_eq p) all.blocks) (sym (eqb-true number (w / 32) e)) ∙ absent))
      by false e = refl

  -- the words of a range, block after block
  abbrev pub AreResetTo : AllWords A → AllWords A → PageRange → ℕ → Type 0
  AreResetTo old now range number = (w : ℕ) → known_among now w ≡ cond (is_within w range && nat_lt (w / 32) number) (Since []) (known_among old w)

  pub reset-next : (old now new : AllWords A) (range : PageRange) (number from to : ℕ)
      → ((w : ℕ) → number ≡ w / 32 → nat_le from (w % 32) ≡ nat_le range.lo w)
      → ((w : ℕ) → number ≡ w / 32 → nat_le (w % 32) to ≡ nat_le w range.hi)
      → AreResetTo old now range number
      → ((w : ℕ) → known_among new w ≡ cond (is_place_in number from to w) (Since []) (known_among now w))
      → AreResetTo old new range (number + 1)
  reset-next old now new range number from to low high so_far emptied w =
      emptied w ∙ (ap (λ b. cond (is_place_in number from to w) (Since []) b) (so_far w) ∙ by (nat_eq number (w / 32)) refl)
    where
      here : number ≡ w / 32 → nat_lt (w / 32) number ≡ false
      here e = grind (arith, nat_tests)

      counted : number ≡ w / 32 → nat_lt (w / 32) (number + 1) ≡ true
      counted e = grind (arith, nat_tests)

      same_bound : number ≢ w / 32 → nat_lt (w / 32) number ≡ nat_lt (w / 32) (number + 1)
      same_bound apart = grind (arith, nat_tests)

      both : (b : Bool) (x : Known A) → cond b (Since []) (cond (b && false) (Since []) x) ≡ cond (b && true) (Since []) x
      both true x = refl
      both false x = refl

      by : (same : Bool) → nat_eq number (w / 32) ≡ same
          → cond (same && (nat_le from (w % 32) && nat_le (w % 32) to)) (Since []) (cond (is_within w range && nat_lt (w / 32) number) (Since []) (known_among old w))
          ≡ cond (is_within w range && nat_lt (w / 32) (number + 1)) (Since []) (known_among old w)
      by true e =
          let at = eqb-true number (w / 32) e in
          (λ k. cond (low w at k && high w at k) (Since []) (cond (is_within w range && here at k) (Since []) (known_among old w)))
          ∙ (both (is_within w range) (known_among old w) ∙ (λ k. cond (is_within w range && sym (counted at) k) (Since []) (known_among old w)))
      by false e = ap (λ b. cond (is_within w range && b) (Since []) (known_among old w)) (same_bound (eqb-false number (w / 32) e))

  pub reset-start : (old : AllWords A) (range : PageRange) (number : ℕ) → number ≡ range.lo / 32 → AreResetTo old old range number
  reset-start old range number is w = ap (λ b. cond b (Since []) (known_among old w)) (sym none)
    where
      none : (is_within w range && nat_lt (w / 32) number) ≡ false
      none = grind (arith, nat_tests)

  pub reset-end : (old now : AllWords A) (range : PageRange) (number : ℕ) → range.hi / 32 + 1 ≤ number → AreResetTo old now range number
      → (w : ℕ) → known_among now w ≡ cond (is_within w range) (Since []) (known_among old w)
  reset-end old now range number past so_far w = so_far w ∙ ap (λ b. cond b (Since []) (known_among old w)) all
    where
      all : (is_within w range && nat_lt (w / 32) number) ≡ is_within w range
      all = grind (arith, nat_tests)

  -- before any access
  pub no_words : (all : AllWords A) → all.blocks ≡ [] → (w : ℕ) → known_among all w ≡ (Since [])
  unfolding known_among
  no_words all none w = ap (λ (blocks : WordBlocks A). known_beside all.lists w (slot_among blocks w)) none
