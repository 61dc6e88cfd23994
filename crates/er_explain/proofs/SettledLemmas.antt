-- A word whose state a position leaves as it was keeps its book: its joining and its first write were found before, and the access is covered
-- by each lock for which no access was found.
use Rattle.std.proofs.Common.{◌≡◌, ℕ, suc, ◌≤◌, Bool, true, false, ◌&&◌, ◌||◌, not, ◌==◌, nat_le, List, [], ◌∷◌, map, Option, Some, None, refl, sym, ◌∙◌, ap, arith, ◌⊎◌, ⊎_elim, inl, inr}
use Rattle.std.proofs.lemmas.Bool.{and_parts, and_from, eq-eqb, eqb-true, both_ways, le-leb, leb-true}
use Rattle.er_event.proofs.LocksetLemmas.{has-filtered}
use Rattle.er_event.specs.Lockset.{has, meet}
use Rattle.er_event.specs.declared.addresses.PageRange.{PageRange}
use Rattle.er_event.specs.declared.steps.Kind.{Kind}
use Rattle.er_event.specs.declared.steps.Kind.TheVariants.{Read as reading, Write as writing}
use Rattle.er_event.specs.declared.steps.WordState.TheVariants.{Virgin, Exclusive, Shared, SharedModified}
use Rattle.er_model.specs.Explanations.{first_write, first_uncovered}
use Rattle.er_model.specs.Table.{shared_by, advanced}
use Rattle.er_model.specs.Words.{Mark, Counted, Reused, Shown, Nothing, Reading, reuses, counts, thread_of, writes, is_writing, is_within, cover_of, counted_from, first, join, covers_from, candidates_from, written_from, state}
use Rattle.er_model.proofs.AnswersLemmas.{state-moved}
use Rattle.er_model.proofs.Meaning.{some_below-found, every_below-from}
use Rattle.er_model.proofs.Search.{least_below-None, below_or_at}
use Rattle.er_model.proofs.Words.{joined, state-Virgin, state-Exclusive, state-joined, state-reused}
use Rattle.er_explain.proofs.BookSteps.{quiet-book, reused-book, counted-book}
use Rattle.er_explain.specs.declared.book.Pair.{Pair}
use Rattle.er_explain.specs.Book.{Book, Untouched, Owned, Joined}
use Rattle.er_explain.specs.Books.{or_this, pair_after, book_accessed, book_at, joining_at}

-- books by what was found
book-Untouched : (r : Reading) (w n : ℕ) → first r w n ≡ None → book_at r w n ≡ Untouched
unfolding book_at
book-Untouched r w n none = rw none refl

book-Owned : (r : Reading) (w n f : ℕ) → first r w n ≡ Some f → join r w n ≡ None → book_at r w n ≡ Owned (thread_of (r f)) f
unfolding book_at
book-Owned r w n f is none = rw (is, none) refl

book-Joined : (r : Reading) (w n f j : ℕ) → first r w n ≡ Some f → join r w n ≡ Some j → book_at r w n ≡ Joined (joining_at r w n f j)
unfolding book_at
book-Joined r w n f j is here = rw (is, here) refl

-- a virgin word has an empty book
joined-Virgin : (wrote : Bool) (locks : List ℕ) → joined wrote locks ≡ Virgin → ⊥
unfolding joined
joined-Virgin true locks is = cc
joined-Virgin false locks is = cc

virgin-by : (r : Reading) (w n : ℕ) (f j : Option ℕ) → first r w n ≡ f → join r w n ≡ j → state r w n ≡ Virgin → book_at r w n ≡ Untouched
virgin-by r w n None j is here virgin = book-Untouched r w n is
virgin-by r w n (Some f) None is here virgin = let never = sym (state-Exclusive r w n f is here) ∙ virgin in cc
virgin-by r w n (Some f) (Some j) is here virgin =
    absurd (joined-Virgin (written_from r w n (Some j)) (candidates_from r w n (Some j)) (sym (state-joined r w n f j is here) ∙ virgin))

pub virgin-book : (r : Reading) (w n : ℕ) → state r w n ≡ Virgin → book_at r w n ≡ Untouched
virgin-book r w n virgin = virgin-by r w n (first r w n) (join r w n) refl refl virgin

-- a shared state stays if the access adds no first write and takes no candidate
same-joined : (wrote : Bool) (kind : Kind) (t : ℕ) (c cover : List ℕ) → advanced (joined wrote c) t kind cover ≡ joined wrote c
    → (is_writing kind ≡ true → wrote ≡ true) × (meet c cover ≡ c)
unfolding joined
same-joined true kind t c cover same = ((λ w. refl), met (meet c cover) same)
  where
    met : (m : List ℕ) → SharedModified m ≡ SharedModified c → m ≡ c
    met m e = cc
same-joined false reading t c cover same = ((λ w. cc), met (meet c cover) same)
  where
    met : (m : List ℕ) → Shared m ≡ Shared c → m ≡ c
    met m e = cc
same-joined false writing t c cover same = cc

map-within : (f g : ℕ → Pair ℕ) (xs : List ℕ) → ((x : ℕ) → has xs x ≡ true → f x ≡ g x) → map f xs ≡ map g xs
map-within f g [] same = refl
map-within f g (x ∷ xs) same =
    rw (same x (here (eq-eqb x x refl)), map-within f g xs (λ y member. same y (later (x == y) member))) refl
  where
    here : (x == x) ≡ true → (x == x || has xs x) ≡ true
    here e = rw e refl

    later : (b : Bool) {m : Bool} → m ≡ true → (b || m) ≡ true
    later true e = refl
    later false e = e

map-twice : (f : ℕ → Pair ℕ) (g : Pair ℕ → Pair ℕ) (xs : List ℕ) → map g (map f xs) ≡ map (λ x. g (f x)) xs
map-twice f g [] = refl
map-twice f g (x ∷ xs) = rw (map-twice f g xs) refl

-- a place at the joining or after it is covered, if the search found none behind the joining that isn't
covered-place : (a b c h : Bool) → ((b && c) && not h) ≡ false → (a ≡ true → (b ≡ true) ⊎ (h ≡ true)) → (not (a && c) || h) ≡ true
covered-place false b c h none behind = refl
covered-place true b false h none behind = refl
covered-place true b true true none behind = refl
covered-place true true true false none behind = cc
covered-place true false true false none behind = ⊎_elim (λ e. cc) (λ e. cc) (behind refl)

module _ (r : Reading) (w n j l : ℕ) (member : has (cover_of (r j)) l ≡ true) (none : first_uncovered r w n j l ≡ None) where
  behind-join : (k : ℕ) → nat_le j k ≡ true → (nat_le (suc j) k ≡ true) ⊎ (has (cover_of (r k)) l ≡ true)
  behind-join k low =
      let above : j ≤ k = leb-true j k low in
      ⊎_elim (λ before. inl (le-leb (suc j) k (omega arith))) (λ here. inr (rw here at member)) (below_or_at j k (omega arith))

  covered-since : covers_from r w n j l ≡ true
  unfolding first_uncovered
  covered-since =
      every_below-from n (λ k. not (counted_from r w j k) || has (cover_of (r k)) l)
      (λ k below.
      covered-place (nat_le j k) (nat_le (suc j) k) (counts (r k) w) (has (cover_of (r k)) l)
      (least_below-None n (λ i. counted_from r w (suc j) i && not (has (cover_of (r i)) l)) none k below) (behind-join k))

  still-candidate : has (candidates_from r w n (Some j)) l ≡ true
  still-candidate =
      has-filtered (covers_from r w n j) (cover_of (r j)) l
      ∙ and_from (covers_from r w n j l) (has (cover_of (r j)) l) covered-since member

in-meet : (c cover : List ℕ) (l : ℕ) → meet c cover ≡ c → has c l ≡ true → has cover l ≡ true
unfolding meet
in-meet c cover l same member =
    (and_parts (has cover l) (has c l) (sym (has-filtered (has cover) c l) ∙ ap (λ (locks : List ℕ). has locks l) same ∙ member)).0

-- what the searches found so far, they find one position further on
module _ (r : Reading) (w n j : ℕ) (cover : List ℕ) (same : meet (candidates_from r w n (Some j)) cover ≡ candidates_from r w n (Some j)) where
  kept-uncovered : (l : ℕ) (o : Option ℕ) → has (cover_of (r j)) l ≡ true → first_uncovered r w n j l ≡ o → or_this o (not (has cover l)) n ≡ o
  kept-uncovered l (Some k) member is = refl
  kept-uncovered l None member is =
      let covered : has cover l ≡ true = in-meet (candidates_from r w n (Some j)) cover l same (still-candidate r w n j l member is) in
      rw covered refl

  kept-pairs : map (pair_after n cover) (joining_at r w n j j).pairs ≡ (joining_at r w n j j).pairs
  kept-pairs =
      map-twice (λ l. record { lock = l; at = first_uncovered r w n j l }) (pair_after n cover) (cover_of (r j))
      ∙ map-within (λ l. pair_after n cover (record { lock = l; at = first_uncovered r w n j l })) (λ l. record { lock = l; at = first_uncovered r w n j l }) (cover_of (r j))
      (λ l member. ap (λ (o : Option ℕ). record { lock = l; at = o }) (kept-uncovered l (first_uncovered r w n j l) member refl))

kept-write : (r : Reading) (w n j : ℕ) (b : Bool) (o : Option ℕ) → first_write r w n j ≡ o → (b ≡ true → written_from r w n (Some j) ≡ true) → or_this o b n ≡ o
unfolding first_write
kept-write r w n j b (Some k) is wrote = refl
kept-write r w n j false None is wrote = refl
kept-write r w n j true None is wrote =
    let test : ℕ → Bool = λ k. counted_from r w j k && writes (r k) in
    let found = some_below-found n test (wrote refl) in
    absurd (both_ways (test found.0) (least_below-None n test is found.0 found.1) found.2)

-- a counted access that leaves the state leaves the book
module _ (r : Reading) (w n t : ℕ) (kind : Kind) (cover : List ℕ) (own : r n ≡ Counted t kind w cover) (same : state r w (suc n) ≡ state r w n) where
  advances : advanced (state r w n) t kind cover ≡ state r w n
  advances =
      let next : state r w (suc n) ≡ advanced (state r w n) t kind cover = state-moved r w n ∙ rw (own, eq-eqb w w refl) refl in
      sym next ∙ same

  owned : (f : ℕ) (b : Bool) → (thread_of (r f) == t) ≡ b → first r w n ≡ Some f → join r w n ≡ None → book_at r w (suc n) ≡ book_at r w n
  owned f true alone is none = counted-book r w n t kind cover own ∙ rw (book-Owned r w n f is none, alone) refl
  owned f false other is none = absurd (never kind (rw (state-Exclusive r w n f is none, other) at advances))
    where
      never : (k : Kind) {u : ℕ} → shared_by k cover ≡ Exclusive u → ⊥
      never reading e = cc
      never writing e = cc

  joint : (f j : ℕ) → first r w n ≡ Some f → join r w n ≡ Some j → book_at r w (suc n) ≡ book_at r w n
  joint f j is here =
      let wrote : Bool = written_from r w n (Some j) in
      let locks : List ℕ = candidates_from r w n (Some j) in
      let stays = same-joined wrote kind t locks cover (rw (state-joined r w n f j is here) at advances) in
      let pairs = kept-pairs r w n j cover stays.1 in
      let write = kept-write r w n j (is_writing kind) (first_write r w n j) refl stays.0 in
      counted-book r w n t kind cover own
      ∙ ap (λ (b : Book ℕ). book_accessed b n t kind cover) (book-Joined r w n f j is here)
      ∙ (λ i. Joined (record { first = f; join = j; write = write i; pairs = pairs i }))
      ∙ sym (book-Joined r w n f j is here)

  by : (f j : Option ℕ) → first r w n ≡ f → join r w n ≡ j → book_at r w (suc n) ≡ book_at r w n
  by None j is here = absurd (never (rw (state-Virgin r w n is) at advances))
    where
      never : Exclusive t ≡ Virgin → ⊥
      never e = cc
  by (Some f) None is here = owned f (thread_of (r f) == t) refl is here
  by (Some f) (Some j) is here = joint f j is here

  settled-access : book_at r w (suc n) ≡ book_at r w n
  settled-access = by (first r w n) (join r w n) refl refl

-- each mark
module _ (r : Reading) (w n : ℕ) (same : state r w (suc n) ≡ state r w n) where
  settled-word : (t word : ℕ) (kind : Kind) (cover : List ℕ) (b : Bool) → r n ≡ Counted t kind word cover → (word == w) ≡ b → book_at r w (suc n) ≡ book_at r w n
  unfolding reuses counts
  settled-word t word kind cover true is here = settled-access r w n t kind cover (rw (eqb-true word w here) at is) same
  settled-word t word kind cover false is other = quiet-book r w n (rw is refl) (rw is other)

  settled-reuse : (range : PageRange) (b : Bool) → r n ≡ Reused range → is_within w range ≡ b → book_at r w (suc n) ≡ book_at r w n
  unfolding reuses counts
  settled-reuse range true is within =
      let reused : reuses (r n) w ≡ true = rw is within in
      reused-book r w n reused ∙ sym (virgin-book r w n (sym same ∙ state-reused r w n reused))
  settled-reuse range false is without = quiet-book r w n (rw is without) (rw is refl)

  settled-by : (m : Mark) → r n ≡ m → book_at r w (suc n) ≡ book_at r w n
  unfolding reuses counts
  settled-by (Counted t kind word cover) is = settled-word t word kind cover (word == w) is refl
  settled-by (Reused range) is = settled-reuse range (is_within w range) is refl
  settled-by (Shown word) is = quiet-book r w n (rw is refl) (rw is refl)
  settled-by Nothing is = quiet-book r w n (rw is refl) (rw is refl)

  pub settled-book : book_at r w (suc n) ≡ book_at r w n
  settled-book = settled-by (r n) refl
