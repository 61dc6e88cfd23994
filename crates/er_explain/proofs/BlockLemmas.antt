-- One book, or some that lie side by side, change in one block: what that makes of the books of all words.
use Rattle.std.proofs.Common.{◌≡◌, ◌≢◌, ◌∙◌, ◌==◌, ℕ, zero, suc, ◌+◌, ◌<◌, ◌≤◌, ◌/◌, ◌%◌, ◌&&◌, nat_eq, nat_le, nat_lt, Bool, true, false, cond, List, [], Option, Some, None, refl, sym, ap, arith}
use Rattle.std.specs.Map.{lookup}
use Rattle.std.proofs.lemmas.Bool.Decides.{nat_tests}
use borrow.Author.Tests.{eqb-true, eqb-false, eq-eqb, lt-ltb}
use Rattle.er_event.specs.declared.addresses.PageRange.{PageRange}
use Rattle.er_model.specs.Words.{is_within}
use Rattle.std.specs.Option.{option_or}
use Rattle.er_explain.specs.Inner.Packing.{unpacked}
use Rattle.er_explain.specs.Inner.Places.{listed, found_at, opened, book_of, kept_books}
use Rattle.er_explain.specs.declared.book.Access.{Access}
use Rattle.er_explain.specs.declared.book.Packed.{Packed}
use Rattle.er_explain.specs.declared.book.Packed.TheVariants.{Alone, Together}
use Rattle.er_explain.specs.WordBooks.{Blocks, book_at_place, book_in_block, book_in, is_place_in}
use Rattle.er_explain.specs.Book.{Book, Untouched}

same_word : (word w number place : ℕ) → number ≡ word / 256 → place ≡ word % 256 → number ≡ w / 256 → nat_eq place (w % 256) ≡ (word == w)
same_word word w number place block at here = grind (arith, nat_tests)

other_word : (word w number : ℕ) → number ≡ word / 256 → number ≢ w / 256 → (word == w) ≡ false
other_word word w number block there = grind (arith, nat_tests)

in_block : (number w : ℕ) (b : Bool) → number ≡ w / 256 → b ≡ (nat_eq number (w / 256) && b)
in_block number w b here = ap (λ (same : Bool). same && b) (sym (eq-eqb number (w / 256) here))

outside : (number w : ℕ) (b : Bool) → number ≢ w / 256 → (nat_eq number (w / 256) && b) ≡ false
outside number w b there = by (nat_eq number (w / 256)) refl
  where
    by : (same : Bool) → nat_eq number (w / 256) ≡ same → (same && b) ≡ false
    by true e = absurd (there (eqb-true number (w / 256) e))
    by false e = refl

-- the blocks with these books in block p
abbrev pub PutsBlock : {A : Type 0} → Blocks A → Blocks A → ℕ → List (Book A) → Type 0
PutsBlock old new p books = (q : ℕ) → lookup (nat_eq q) new ≡ cond (nat_eq p q) (Some books) (lookup (nat_eq q) old)

module _ {A : Type 0} where
  -- the books of block p for which `here` holds of their places are those for which `changes` holds, and they become s
  put_books : (old new : Blocks A) (p : ℕ) (books : List (Book A)) (here changes : ℕ → Bool) (s : Book A)
      → PutsBlock old new p books
      → ((i : ℕ) → book_at_place books i ≡ cond (here i) s (book_in_block (lookup (nat_eq p) old) i))
      → ((w : ℕ) → p ≡ w / 256 → here (w % 256) ≡ changes w)
      → ((w : ℕ) → p ≢ w / 256 → changes w ≡ false)
      → (w : ℕ) → book_in new w ≡ cond (changes w) s (book_in old w)
  unfolding book_in
  put_books old new p books here changes s puts written on off w =
      ap (λ o. book_in_block o (w % 256)) (puts (w / 256)) ∙ by (nat_eq p (w / 256)) refl
    where
      by : (same : Bool) → nat_eq p (w / 256) ≡ same
          → book_in_block (cond same (Some books) (lookup (nat_eq (w / 256)) old)) (w % 256) ≡ cond (changes w) s (book_in_block (lookup (nat_eq (w / 256)) old) (w % 256))
      by true e =
          let block = eqb-true p (w / 256) e in
          written (w % 256) ∙ (ap (λ b. cond b s (book_in_block (lookup (nat_eq p) old) (w % 256))) (on w block)
          ∙ ap (λ q. cond (changes w) s (book_in_block (lookup (nat_eq q) old) (w % 256))) block)
      by false e = ap (λ b. cond b s (book_in_block (lookup (nat_eq (w / 256)) old) (w % 256))) (sym (off w (eqb-false p (w / 256) e)))

  -- the book that a look-up of its block finds
  pub found_book : (old : Blocks A) (word number place : ℕ) (was : Option (List (Book A))) → number ≡ word / 256 → place ≡ word % 256 → was ≡ lookup (nat_eq number) old
      → book_in_block was place ≡ book_in old word
  unfolding book_in
  found_book old word number place was block at found =
      ap (λ o. book_in_block o place) found ∙ (λ k. book_in_block (lookup (nat_eq (block k)) old) (at k))

  -- one book goes on
  pub one_book : (old new : Blocks A) (word number place : ℕ) (was : Option (List (Book A))) (books : List (Book A)) (f : Book A → Book A)
      → number ≡ word / 256 → place ≡ word % 256 → was ≡ lookup (nat_eq number) old → PutsBlock old new number books
      → ((i : ℕ) → book_at_place books i ≡ cond (nat_eq place i) (f (book_in_block was place)) (book_in_block was i))
      → (w : ℕ) → book_in new w ≡ cond (word == w) (f (book_in old word)) (book_in old w)
  one_book old new word number place was books f block at found puts written w =
      put_books old new number books (λ i. nat_eq place i) (λ v. word == v) (f (book_in_block was place)) puts
      (λ i. written i ∙ ap (λ o. cond (nat_eq place i) (f (book_in_block was place)) (book_in_block o i)) found)
      (λ v here. same_word word v number place block at here) (λ v there. other_word word v number block there) w
      ∙ ap (λ b. cond (word == w) (f b) (book_in old w)) (found_book old word number place was block at found)

  -- in a block that was made for it
  pub first_book : (old new : Blocks A) (word number place : ℕ) (blank books : List (Book A)) (f : Book A → Book A)
      → number ≡ word / 256 → place ≡ word % 256 → lookup (nat_eq number) old ≡ None → PutsBlock old new number books
      → ((i : ℕ) → book_at_place blank i ≡ Untouched)
      → ((i : ℕ) → book_at_place books i ≡ cond (nat_eq place i) (f (book_at_place blank place)) (book_at_place blank i))
      → (w : ℕ) → book_in new w ≡ cond (word == w) (f (book_in old word)) (book_in old w)
  first_book old new word number place blank books f block at absent puts empty written =
      one_book old new word number place None books f block at (sym absent) puts
      (λ i. written i ∙ (λ k. cond (nat_eq place i) (f (empty place k)) (empty i k)))

  -- some books of a block are emptied
  pub emptied_block : (old new : Blocks A) (number lo hi : ℕ) (was books : List (Book A))
      → Some was ≡ lookup (nat_eq number) old → PutsBlock old new number books
      → ((i : ℕ) → book_at_place books i ≡ cond (nat_le lo i && nat_le i hi) Untouched (book_at_place was i))
      → (w : ℕ) → book_in new w ≡ cond (is_place_in number lo hi w) Untouched (book_in old w)
  emptied_block old new number lo hi was books found puts written =
      put_books old new number books (λ i. nat_le lo i && nat_le i hi) (is_place_in number lo hi) Untouched puts
      (λ i. written i ∙ ap (λ o. cond (nat_le lo i && nat_le i hi) Untouched (book_in_block o i)) found)
      (λ w here. in_block number w (nat_le lo (w % 256) && nat_le (w % 256) hi) here)
      (λ w there. outside number w (nat_le lo (w % 256) && nat_le (w % 256) hi) there)

  -- and where there is no block, they are empty already
  pub absent_block : (blocks : Blocks A) (number lo hi : ℕ) → lookup (nat_eq number) blocks ≡ None
      → (w : ℕ) → book_in blocks w ≡ cond (is_place_in number lo hi w) Untouched (book_in blocks w)
  unfolding book_in
  absent_block blocks number lo hi absent w = by (nat_eq number (w / 256)) refl
    where
      stays : (b : Bool) (book : Book A) → book ≡ Untouched → book ≡ cond b Untouched book
      stays true book empty = empty
      stays false book empty = refl

      by : (same : Bool) → nat_eq number (w / 256) ≡ same
          → book_in_block (lookup (nat_eq (w / 256)) blocks) (w % 256)
          ≡ cond (same && (nat_le lo (w % 256) && nat_le (w % 256) hi)) Untouched (book_in_block (lookup (nat_eq (w / 256)) blocks) (w % 256))
      by true e =
          stays (nat_le lo (w % 256) && nat_le (w % 256) hi) _
          (ap (λ o. book_in_block o (w % 256)) (ap (λ p. lookup (nat_eq p) blocks) (sym (eqb-true number (w / 256) e)) ∙ absent))
      by false e = refl

  -- the books of a range, block after block
  abbrev pub AreEmptiedTo : Blocks A → Blocks A → PageRange → ℕ → Type 0
  AreEmptiedTo old now range number = (w : ℕ) → book_in now w ≡ cond (is_within w range && nat_lt (w / 256) number) Untouched (book_in old w)

  pub emptied-next : (old now new : Blocks A) (range : PageRange) (number from to : ℕ)
      → ((w : ℕ) → number ≡ w / 256 → nat_le from (w % 256) ≡ nat_le range.lo w)
      → ((w : ℕ) → number ≡ w / 256 → nat_le (w % 256) to ≡ nat_le w range.hi)
      → AreEmptiedTo old now range number
      → ((w : ℕ) → book_in new w ≡ cond (is_place_in number from to w) Untouched (book_in now w))
      → AreEmptiedTo old new range (number + 1)
  emptied-next old now new range number from to low high so_far emptied w =
      emptied w ∙ (ap (λ b. cond (is_place_in number from to w) Untouched b) (so_far w) ∙ by (nat_eq number (w / 256)) refl)
    where
      here : number ≡ w / 256 → nat_lt (w / 256) number ≡ false
      here e = grind (arith, nat_tests)

      counted : number ≡ w / 256 → nat_lt (w / 256) (number + 1) ≡ true
      counted e = grind (arith, nat_tests)

      same_bound : number ≢ w / 256 → nat_lt (w / 256) number ≡ nat_lt (w / 256) (number + 1)
      same_bound apart = grind (arith, nat_tests)

      both : (b : Bool) (x : Book A) → cond b Untouched (cond (b && false) Untouched x) ≡ cond (b && true) Untouched x
      both true x = refl
      both false x = refl

      by : (same : Bool) → nat_eq number (w / 256) ≡ same
          → cond (same && (nat_le from (w % 256) && nat_le (w % 256) to)) Untouched (cond (is_within w range && nat_lt (w / 256) number) Untouched (book_in old w))
          ≡ cond (is_within w range && nat_lt (w / 256) (number + 1)) Untouched (book_in old w)
      by true e =
          let at = eqb-true number (w / 256) e in
          (λ k. cond (low w at k && high w at k) Untouched (cond (is_within w range && here at k) Untouched (book_in old w)))
          ∙ (both (is_within w range) (book_in old w) ∙ (λ k. cond (is_within w range && sym (counted at) k) Untouched (book_in old w)))
      by false e = ap (λ b. cond (is_within w range && b) Untouched (book_in old w)) (same_bound (eqb-false number (w / 256) e))

  pub emptied-start : (old : Blocks A) (range : PageRange) (number : ℕ) → number ≡ range.lo / 256 → AreEmptiedTo old old range number
  emptied-start old range number is w = ap (λ b. cond b Untouched (book_in old w)) (sym none)
    where
      none : (is_within w range && nat_lt (w / 256) number) ≡ false
      none = grind (arith, nat_tests)

  pub emptied-end : (old now : Blocks A) (range : PageRange) (number : ℕ) → range.hi / 256 + 1 ≤ number → AreEmptiedTo old now range number
      → (w : ℕ) → book_in now w ≡ cond (is_within w range) Untouched (book_in old w)
  emptied-end old now range number past so_far w = so_far w ∙ ap (λ b. cond b Untouched (book_in old w)) all
    where
      all : (is_within w range && nat_lt (w / 256) number) ≡ is_within w range
      all = grind (arith, nat_tests)

  -- books before any step
  pub no_blocks : (blocks : Blocks A) → blocks ≡ [] → (w : ℕ) → book_in blocks w ≡ Untouched
  unfolding book_in
  no_blocks blocks none w = ap (λ (all : Blocks A). book_in_block (lookup (nat_eq (w / 256)) all) (w % 256)) none

  -- the value at a place of a list
  listed-at : (f : ℕ → Book A) (start n i : ℕ) → book_at_place (listed f start n) i ≡ cond (nat_lt i n) (f (start + i)) Untouched
  unfolding listed
  listed-at f start zero i = ap (λ b. cond b (f (start + i)) Untouched) (sym none)
    where
      none : nat_lt i 0 ≡ false
      none = grind (arith, nat_tests)
  listed-at f start (suc n) zero = ap f (same_place start) ∙ ap (λ b. cond b (f (start + 0)) Untouched) (sym some)
    where
      some : nat_lt 0 (suc n) ≡ true
      some = grind (arith, nat_tests)

      same_place : (k : ℕ) → k ≡ k + 0
      same_place k = grind arith
  listed-at f start (suc n) (suc i) =
      listed-at f (suc start) n i ∙ (λ k. cond (one_less i n k) (f (one_on start i k)) Untouched)
    where
      one_less : (a b : ℕ) → nat_lt a b ≡ nat_lt (suc a) (suc b)
      one_less a b = grind (arith, nat_tests)

      one_on : (a b : ℕ) → suc a + b ≡ a + suc b
      one_on a b = grind arith

  listed-from : (f : ℕ → Book A) (n i : ℕ) → book_at_place (listed f 0 n) i ≡ cond (nat_lt i n) (f i) Untouched
  listed-from f n i = listed-at f 0 n i ∙ ap (λ k. cond (nat_lt i n) (f k) Untouched) (none_on i)
    where
      none_on : (k : ℕ) → 0 + k ≡ k
      none_on k = grind arith

  -- the book of a place
  pub kept_at : (f : ℕ → Book A) (now : List (Book A)) (place : ℕ) → listed f 0 256 ≡ now → place < 256 → book_at_place now place ≡ f place
  kept_at f now place seen within =
      ap (λ bs. book_at_place bs place) (sym seen) ∙ (listed-from f 256 place ∙ ap (λ b. cond b (f place) Untouched) (lt-ltb place 256 within))

  -- no book counts
  pub no_books : (f : ℕ → Book A) → ((i : ℕ) → f i ≡ Untouched) → (i : ℕ) → book_at_place (listed f 0 256) i ≡ Untouched
  no_books f none i = listed-from f 256 i ∙ (ap (λ b. cond (nat_lt i 256) b Untouched) (none i) ∙ by (nat_lt i 256) Untouched)
    where
      by : (b : Bool) (book : Book A) → cond b book book ≡ book
      by true book = refl
      by false book = refl

  -- one book is another one now
  pub one_changed : (f g : ℕ → Book A) (now : List (Book A)) (place : ℕ) (b : Book A) → listed f 0 256 ≡ now → place < 256
      → ((i : ℕ) → g i ≡ cond (nat_eq place i) b (f i))
      → (i : ℕ) → book_at_place (listed g 0 256) i ≡ cond (nat_eq place i) b (book_at_place now i)
  one_changed f g now place b seen within change i =
      listed-from g 256 i ∙ (ap (λ x. cond (nat_lt i 256) x Untouched) (change i) ∙ (by (nat_eq place i) refl
      ∙ (λ k. cond (nat_eq place i) b (back k))))
    where
      back : cond (nat_lt i 256) (f i) Untouched ≡ book_at_place now i
      back = sym (listed-from f 256 i) ∙ ap (λ bs. book_at_place bs i) seen

      by : (at : Bool) → nat_eq place i ≡ at
          → cond (nat_lt i 256) (cond at b (f i)) Untouched ≡ cond at b (cond (nat_lt i 256) (f i) Untouched)
      by true e =
          let here : place ≡ i = eqb-true place i e in
          ap (λ t. cond t b Untouched) (lt-ltb i 256 (omega (arith, here, within)))
      by false e = refl

  -- some books are empty now
  pub some_emptied : (f g : ℕ → Book A) (now : List (Book A)) (test : ℕ → Bool) → listed f 0 256 ≡ now
      → ((i : ℕ) → g i ≡ cond (test i) Untouched (f i))
      → (i : ℕ) → book_at_place (listed g 0 256) i ≡ cond (test i) Untouched (book_at_place now i)
  some_emptied f g now test seen change i =
      listed-from g 256 i ∙ (ap (λ x. cond (nat_lt i 256) x Untouched) (change i) ∙ (by (test i) (nat_lt i 256)
      ∙ (λ k. cond (test i) Untouched (back k))))
    where
      back : cond (nat_lt i 256) (f i) Untouched ≡ book_at_place now i
      back = sym (listed-from f 256 i) ∙ ap (λ bs. book_at_place bs i) seen

      by : (b t : Bool) → cond t (cond b Untouched (f i)) Untouched ≡ cond b Untouched (cond t (f i) Untouched)
      by true true = refl
      by true false = refl
      by false t = refl

-- the books of a block
module _ {A : Type 0} where
  -- the book of a place is the one that is found there
  pub own_book : (places : List ℕ) (books : List (Packed A)) (now : List (Book (Access A))) (place : ℕ) → kept_books places books ≡ now → place < 256 → book_at_place now place ≡ book_of places books place
  unfolding kept_books
  own_book places books now place seen within = kept_at _ now place seen within

  -- a block with one book
  pub one_kept : (places : List ℕ) (books : List (Packed A)) (place : ℕ) (book : Packed A) → place < 256 → ((i : ℕ) → found_at places books i ≡ cond (nat_eq place i) (Some book) None)
      → (i : ℕ) → book_at_place (kept_books places books) i ≡ cond (nat_eq place i) (unpacked book) Untouched
  unfolding kept_books
  one_kept places books place book within found i =
      one_changed (λ _. Untouched) (book_of places books) (listed (λ _. Untouched) 0 256) place (unpacked book) refl within
      (λ k. ap opened (found k) ∙ by (nat_eq place k)) i
      ∙ ap (λ b. cond (nat_eq place i) (unpacked book) b) (no_books (λ _. Untouched) (λ _. refl) i)
    where
      by : (t : Bool) → opened (cond t (Some book) None) ≡ cond t (unpacked book) Untouched
      by true = refl
      by false = refl

  -- some books are empty now
  pub emptied_books : (places left : List ℕ) (books fewer : List (Packed A)) (now : List (Book (Access A))) (test : ℕ → Bool) → kept_books places books ≡ now
      → ((i : ℕ) → found_at left fewer i ≡ cond (test i) None (found_at places books i))
      → (i : ℕ) → book_at_place (kept_books left fewer) i ≡ cond (test i) Untouched (book_at_place now i)
  unfolding kept_books
  emptied_books places left books fewer now test seen less =
      some_emptied (book_of places books) (book_of left fewer) now test seen (λ i. ap opened (less i) ∙ by (test i) (found_at places books i))
    where
      by : (t : Bool) (o : Option (Packed A)) → opened (cond t None o) ≡ cond t Untouched (opened o)
      by true o = refl
      by false o = refl

  -- one book of a block goes on
  pub goes_on : (places left : List ℕ) (books more : List (Packed A)) (now : List (Book (Access A))) (place : ℕ) (after : Packed A) (f : Book (Access A) → Book (Access A))
      → kept_books places books ≡ now → place < 256
      → ((i : ℕ) → found_at left more i ≡ cond (nat_eq place i) (Some after) (found_at places books i))
      → unpacked after ≡ f (book_of places books place)
      → (i : ℕ) → book_at_place (kept_books left more) i ≡ cond (nat_eq place i) (f (book_at_place now place)) (book_at_place now i)
  unfolding kept_books
  goes_on places left books more now place after f seen within changes goes i =
      one_changed (book_of places books) (book_of left more) now place (unpacked after) seen within (λ k. ap opened (changes k) ∙ by (nat_eq place k) (found_at places books k)) i
      ∙ ap (λ b. cond (nat_eq place i) b (book_at_place now i)) (goes ∙ ap f (sym (own_book places books now place seen within)))
    where
      by : (t : Bool) (o : Option (Packed A)) → opened (cond t (Some after) o) ≡ cond t (unpacked after) (opened o)
      by true o = refl
      by false o = refl

  -- a place whose book is empty has none
  pub none_found : (o : Option (Packed A)) → opened o ≡ Untouched → o ≡ None
  none_found None empty = refl
  none_found (Some (Alone kind thread at)) empty = cc
  none_found (Some (Together joining)) empty = cc

  -- and gets one
  pub one_put : (places left : List ℕ) (books more : List (Packed A)) (now : List (Book (Access A))) (place : ℕ) (book : Packed A) → kept_books places books ≡ now → place < 256
      → book_at_place now place ≡ Untouched → ((i : ℕ) → found_at left more i ≡ option_or (found_at places books i) (cond (nat_eq place i) (Some book) None))
      → (i : ℕ) → book_at_place (kept_books left more) i ≡ cond (nat_eq place i) (unpacked book) (book_at_place now i)
  one_put places left books more now place book seen within empty puts =
      goes_on places left books more now place book (λ _. unpacked book) seen within (λ i. puts i ∙ by i (nat_eq place i) refl (found_at places books i) refl) refl
    where
      none : found_at places books place ≡ None
      none = none_found (found_at places books place) (sym (own_book places books now place seen within) ∙ empty)

      by : (i : ℕ) (t : Bool) → nat_eq place i ≡ t → (o : Option (Packed A)) → found_at places books i ≡ o → option_or o (cond t (Some book) None) ≡ cond t (Some book) o
      by i true here None is = refl
      by i true here (Some b) is = let never : None ≡ Some b = sym none ∙ (ap (λ k. found_at places books k) (eqb-true place i here) ∙ is) in cc
      by i false other None is = refl
      by i false other (Some b) is = refl
