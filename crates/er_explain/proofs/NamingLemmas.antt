-- A book whose accesses have other names goes on as the book by positions does.
use Rattle.std.proofs.Common.{◌≡◌, ◌∙◌, ℕ, zero, suc, ◌<◌, ◌+◌, Bool, true, false, not, cond, ◌==◌, List, [], ◌∷◌, map, Option, Some, None, add-one, refl, sym, ap, arith}
use Rattle.er_event.specs.declared.steps.Kind.{Kind}
use Rattle.er_event.specs.declared.steps.Step.{Step}
use Rattle.er_event.specs.Lockset.{has}
use Rattle.er_model.specs.Answers.{reading_of}
use Rattle.er_model.specs.Words.{Mark, Counted, Reused, Shown, Nothing, Reading, is_writing, is_within}
use Rattle.er_explain.specs.Books.{or_this, pair_after, book_accessed, book_after, book_at}
use Rattle.er_explain.specs.Naming.{named_option, named_pair, named_book}
use Rattle.er_explain.specs.declared.book.Pair.{Pair}
use Rattle.er_explain.specs.Book.{Book, Untouched, Owned, Joined}
use Rattle.er_explain.proofs.BookSteps.{book-step, book-start}

module _ {A B : Type 0} (f : A → B) where
  named-or : (o : Option A) (test : Bool) (a : A) → named_option f (or_this o test a) ≡ or_this (named_option f o) test (f a)
  named-or None true a = refl
  named-or None false a = refl
  named-or (Some found) test a = refl

  named-begun : (ls : List ℕ) → map (named_pair f) (map (λ l. record { lock = l; at = None }) ls) ≡ map (λ l. record { lock = l; at = None }) ls
  named-begun [] = refl
  named-begun (l ∷ ls) = ap (λ (rest : List (Pair B)). record { lock = l; at = None } ∷ rest) (named-begun ls)

  named-pairs : (a : A) (cover : List ℕ) (ps : List (Pair A)) → map (named_pair f) (map (pair_after a cover) ps) ≡ map (pair_after (f a) cover) (map (named_pair f) ps)
  named-pairs a cover [] = refl
  named-pairs a cover (p ∷ ps) = λ i. record { lock = p.lock; at = named-or p.at (not (has cover p.lock)) a i } ∷ named-pairs a cover ps i

  named-accessed : (b : Book A) (a : A) (t : ℕ) (kind : Kind) (cover : List ℕ) → named_book f (book_accessed b a t kind cover) ≡ book_accessed (named_book f b) (f a) t kind cover
  named-accessed Untouched a t kind cover = refl
  named-accessed (Owned u p) a t kind cover = by (u == t)
    where
      by : (same : Bool) → named_book f (cond same (Owned u p) (Joined (record { first = p; join = a; write = or_this None (is_writing kind) a; pairs = map (λ l. record { lock = l; at = None }) cover })))
          ≡ cond same (Owned u (f p)) (Joined (record { first = f p; join = f a; write = or_this None (is_writing kind) (f a); pairs = map (λ l. record { lock = l; at = None }) cover }))
      by true = refl
      by false = λ i. Joined (record { first = f p; join = f a; write = named-or None (is_writing kind) a i; pairs = named-begun cover i })
  named-accessed (Joined j) a t kind cover =
      λ i. Joined (record { first = f j.first; join = f j.join; write = named-or j.write (is_writing kind) a i; pairs = named-pairs a cover j.pairs i })

  pub named-step : (b : Book A) (w : ℕ) (a : A) (m : Mark) → named_book f (book_after b w a m) ≡ book_after (named_book f b) w (f a) m
  named-step b w a (Counted t kind word cover) = by (word == w)
    where
      by : (same : Bool) → named_book f (cond same (book_accessed b a t kind cover) b) ≡ cond same (book_accessed (named_book f b) (f a) t kind cover) (named_book f b)
      by true = named-accessed b a t kind cover
      by false = refl
  named-step b w a (Reused range) = by (is_within w range)
    where
      by : (within : Bool) → named_book f (cond within Untouched b) ≡ cond within Untouched (named_book f b)
      by true = refl
      by false = refl
  named-step b w a (Shown word) = refl
  named-step b w a Nothing = refl

module _ {B : Type 0} where
  named-next : (f : ℕ → B) (r : Reading) (w n : ℕ) → named_book f (book_at r w (suc n)) ≡ book_after (named_book f (book_at r w n)) w (f n) (r n)
  named-next f r w n = ap (named_book f) (book-step r w n) ∙ named-step f (book_at r w n) w n (r n)

  pub named-start : (f : ℕ → B) (r : Reading) (w : ℕ) → named_book f (book_at r w 0) ≡ Untouched
  named-start f r w = ap (named_book f) (book-start r w)

  -- it is told by the names and the reading below its point alone
  pub named-agree : (f g : ℕ → B) (r s : Reading) (w n : ℕ) → ((k : ℕ) → k < n → f k ≡ g k) → ((k : ℕ) → k < n → r k ≡ s k) → named_book f (book_at r w n) ≡ named_book g (book_at s w n)
  named-agree f g r s w zero names reads = named-start f r w ∙ sym (named-start g s w)
  named-agree f g r s w (suc n) names reads =
      let before : named_book f (book_at r w n) ≡ named_book g (book_at s w n) = named-agree f g r s w n (λ k below. names k (omega arith)) (λ k below. reads k (omega arith)) in
      let name : f n ≡ g n = names n (omega arith) in
      let read : r n ≡ s n = reads n (omega arith) in
      named-next f r w n ∙ (λ i. book_after (before i) w (name i) (read i)) ∙ sym (named-next g s w n)

  -- and follows the steps
  pub named-follows : (f : ℕ → B) (steps : List Step) (w k : ℕ) (m : Mark) (before after : Book B) → m ≡ reading_of steps k
      → before ≡ named_book f (book_at (reading_of steps) w k) → after ≡ book_after before w (f k) m
      → after ≡ named_book f (book_at (reading_of steps) w (k + 1))
  named-follows f steps w k m before after read known follows =
      follows ∙ (λ i. book_after (known i) w (f k) (read i)) ∙ sym (named-next f (reading_of steps) w k)
      ∙ ap (λ (n : ℕ). named_book f (book_at (reading_of steps) w n)) (sym (add-one k))
