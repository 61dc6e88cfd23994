-- How a word's state at one point follows from its state at the point before.
use Rattle.std.proofs.Common.{◌≡◌, ℕ, zero, suc, ◌<◌, ◌≤◌, Bool, true, false, ◌&&◌, ◌||◌, not, cond, ◌==◌, List, [], ◌∷◌, filter, Option, Some, None, refl, sym, ◌∙◌, arith, ⊎_elim}
use Rattle.std.proofs.lemmas.List.Elements.{filter_agree}
use Rattle.std.proofs.lemmas.Bool.{le-leb, lt-leb, eq-eqb, or_left, or_right, and_left, and_right}
use Rattle.er_event.specs.declared.steps.Kind.{Kind}
use Rattle.er_event.specs.declared.steps.Kind.TheVariants.{Read as reading, Write as writing}
use Rattle.er_event.specs.declared.steps.WordState.{WordState}
use Rattle.er_event.specs.declared.steps.WordState.TheVariants.{Virgin, Exclusive, Shared, SharedModified}
use Rattle.er_model.specs.Search.{some_below, every_below, or_next, least_below, greatest_below}
use Rattle.er_event.specs.Lockset.{has, meet}
use Rattle.er_model.specs.Words.{Reading, reuses, counts, thread_of, writes, cover_of, is_writing, era, counted_from, first, join, covers_from, candidates_from, candidates, written_from, written, state}
use Rattle.er_model.specs.Table.{shared_by, advanced}
use Rattle.er_model.proofs.Search.{some_below-none, every_below-all, least_below-none, least_below-None, least_below-Some, below_or_at}

pub era-kept : (r : Reading) (w n : ℕ) → reuses (r n) w ≡ false → era r w (suc n) ≡ era r w n
unfolding era greatest_below
era-kept r w n kept = rw kept refl

pub era-reused : (r : Reading) (w n : ℕ) → reuses (r n) w ≡ true → era r w (suc n) ≡ suc n
unfolding era greatest_below
era-reused r w n reused = rw reused refl

era-below_step : (r : Reading) (w n : ℕ) (b : Bool) → reuses (r n) w ≡ b → era r w n ≤ n → era r w (suc n) ≤ suc n
era-below_step r w n true reused below = omega (arith, era-reused r w n reused)
era-below_step r w n false kept below = omega (arith, era-kept r w n kept)

pub era-below : (r : Reading) (w n : ℕ) → era r w n ≤ n
unfolding era greatest_below
era-below r w zero = omega arith
era-below r w (suc n) = era-below_step r w n (reuses (r n) w) refl (era-below r w n)

-- a reuse leaves no counted position
pub first-reused : (r : Reading) (w n : ℕ) → reuses (r n) w ≡ true → first r w (suc n) ≡ None
unfolding first
first-reused r w n reused =
    rw (era-reused r w n reused) (least_below-none (suc n) (counted_from r w (suc n)) (λ k l. rw (lt-leb (suc n) k l) refl))

pub state-reused : (r : Reading) (w n : ℕ) → reuses (r n) w ≡ true → state r w (suc n) ≡ Virgin
unfolding state
state-reused r w n reused = rw (first-reused r w n reused) refl

pub state-Virgin : (r : Reading) (w n : ℕ) → first r w n ≡ None → state r w n ≡ Virgin
unfolding state
state-Virgin r w n e = rw e refl

pub state-Exclusive : (r : Reading) (w n f : ℕ) → first r w n ≡ Some f → join r w n ≡ None → state r w n ≡ Exclusive (thread_of (r f))
unfolding state
state-Exclusive r w n f e none = rw (e, none) refl

pub written-joined : (r : Reading) (w n j : ℕ) → join r w n ≡ Some j → written r w n ≡ written_from r w n (Some j)
unfolding written
written-joined r w n j here = rw here refl

pub candidates-joined : (r : Reading) (w n j : ℕ) → join r w n ≡ Some j → candidates r w n ≡ candidates_from r w n (Some j)
unfolding candidates
candidates-joined r w n j here = rw here refl

-- a state after the joining, by whether it was written and by its candidates
unfoldable pub joined : Bool → List ℕ → WordState
joined wrote locks = cond wrote (SharedModified locks) (Shared locks)

pub state-joined : (r : Reading) (w n f j : ℕ) → first r w n ≡ Some f → join r w n ≡ Some j →
    state r w n ≡ joined (written_from r w n (Some j)) (candidates_from r w n (Some j))
unfolding state joined
state-joined r w n f j e here = rw (e, here, written-joined r w n j here, candidates-joined r w n j here) refl

-- the next position joins after f
pub joins : Reading → ℕ → ℕ → ℕ → Bool
joins r w n f = counts (r n) w && not (thread_of (r f) == thread_of (r n))

pub filter-same : (p q : ℕ → Bool) (xs : List ℕ) → ((x : ℕ) → p x ≡ q x) → filter p xs ≡ filter q xs
filter-same p q xs h = filter_agree p q h xs

-- where the word isn't reused, the era goes on
module _ (r : Reading) (w n : ℕ) (kept : reuses (r n) w ≡ false) where
  pub first-step : first r w (suc n) ≡ or_next (first r w n) (counts (r n) w) n
  unfolding first least_below
  first-step = rw (era-kept r w n kept) (rw (le-leb (era r w n) n (era-below r w n)) refl)

  pub first-kept : (f : ℕ) → first r w n ≡ Some f → first r w (suc n) ≡ Some f
  first-kept f is = rw (first-step, is) refl

  pub join-step : (f : ℕ) → first r w n ≡ Some f → join r w (suc n) ≡ or_next (join r w n) (joins r w n f) n
  unfolding join least_below joins
  join-step f is =
      rw (first-kept f is, is)
      (rw (era-kept r w n kept) (rw (le-leb (era r w n) n (era-below r w n)) refl))

  -- from a joining on, the next position counts as it is
  pub written-step : (j : ℕ) → j < n → written_from r w (suc n) (Some j) ≡ (written_from r w n (Some j) || (counts (r n) w && writes (r n)))
  unfolding some_below
  written-step j below = rw (le-leb j n (omega arith)) refl

  covers-step : (j : ℕ) → j < n → (l : ℕ) → covers_from r w (suc n) j l ≡ (covers_from r w n j l && (not (counts (r n) w) || has (cover_of (r n)) l))
  unfolding every_below
  covers-step j below l = rw (le-leb j n (omega arith)) refl

  pub candidates-step : (j : ℕ) → j < n → candidates_from r w (suc n) (Some j) ≡ filter (λ l. covers_from r w n j l && (not (counts (r n) w) || has (cover_of (r n)) l)) (cover_of (r j))
  candidates-step j below =
      filter-same (covers_from r w (suc n) j) (λ l. covers_from r w n j l && (not (counts (r n) w) || has (cover_of (r n)) l)) (cover_of (r j))
      (covers-step j below)

-- what was found first stands in the era and below the point
pub join-below : (r : Reading) (w n f j : ℕ) → first r w n ≡ Some f → join r w n ≡ Some j → j < n
unfolding join
join-below r w n f j is here =
    let found = rw is at here in
    (least_below-Some n (λ k. counted_from r w (era r w n) k && not (thread_of (r f) == thread_of (r k))) j found).0

and-true : (b : Bool) → (b && true) ≡ b
and-true true = refl
and-true false = refl

or-false : (b : Bool) → (b || false) ≡ b
or-false true = refl
or-false false = refl

-- a word that the position doesn't touch keeps its state
module _ (r : Reading) (w n : ℕ) (kept : reuses (r n) w ≡ false) (quiet : counts (r n) w ≡ false) where
  pub untouched-first : (o : Option ℕ) → first r w n ≡ o → first r w (suc n) ≡ o
  untouched-first None is = first-step r w n kept ∙ rw (is, quiet) refl
  untouched-first (Some f) is = first-kept r w n kept f is

  pub untouched-join : (f : ℕ) (o : Option ℕ) → first r w n ≡ Some f → join r w n ≡ o → join r w (suc n) ≡ o
  unfolding joins
  untouched-join f None is here = join-step r w n kept f is ∙ rw (here, quiet) refl
  untouched-join f (Some j) is here = join-step r w n kept f is ∙ rw here refl

  untouched-written : (j : ℕ) → j < n → written_from r w (suc n) (Some j) ≡ written_from r w n (Some j)
  untouched-written j below = written-step r w n kept j below ∙ rw quiet (or-false (written_from r w n (Some j)))

  untouched-candidates : (j : ℕ) → j < n → candidates_from r w (suc n) (Some j) ≡ candidates_from r w n (Some j)
  untouched-candidates j below =
      candidates-step r w n kept j below
      ∙ rw quiet (filter-same (λ l. covers_from r w n j l && true) (covers_from r w n j) (cover_of (r j)) (λ l. and-true (covers_from r w n j l)))

  untouched : (f j : Option ℕ) → first r w n ≡ f → join r w n ≡ j → state r w (suc n) ≡ state r w n
  untouched None j is here = rw (state-Virgin r w n is) (state-Virgin r w (suc n) (untouched-first None is))
  untouched (Some f) None is here =
      rw (state-Exclusive r w n f is here)
      (state-Exclusive r w (suc n) f (untouched-first (Some f) is) (untouched-join f None is here))
  untouched (Some f) (Some j) is here =
      let below = join-below r w n f j is here in
      state-joined r w (suc n) f j (untouched-first (Some f) is) (untouched-join f (Some j) is here)
      ∙ rw (untouched-written j below, untouched-candidates j below) (sym (state-joined r w n f j is here))

pub state-untouched : (r : Reading) (w n : ℕ) → reuses (r n) w ≡ false → counts (r n) w ≡ false → state r w (suc n) ≡ state r w n
state-untouched r w n kept quiet = untouched r w n kept quiet (first r w n) (join r w n) refl refl

-- meeting a list with itself, and filtering in two passes
pub filter-all : (p : ℕ → Bool) (xs : List ℕ) → ((x : ℕ) → has xs x ≡ true → p x ≡ true) → filter p xs ≡ xs
filter-all p [] h = refl
filter-all p (x ∷ xs) h =
    let here : p x ≡ true = h x (or_left (x == x) (has xs x) (eq-eqb x x refl)) in
    rw (here, filter-all p xs (λ y e. h y (or_right (x == y) (has xs y) e))) refl

-- two passes over a head whose tests are known
filter_cases : (p q : ℕ → Bool) (x : ℕ) (xs : List ℕ) (a b : Bool) → p x ≡ a → q x ≡ b →
    filter q (filter p xs) ≡ filter (λ y. p y && q y) xs →
    filter q (cond (p x) (x ∷ filter p xs) (filter p xs)) ≡ cond (p x && q x) (x ∷ filter (λ y. p y && q y) xs) (filter (λ y. p y && q y) xs)
filter_cases p q x xs true true e f rest = rw (e, f, rest) refl
filter_cases p q x xs true false e f rest = rw (e, f, rest) refl
filter_cases p q x xs false b e f rest = rw (e, rest) refl

pub filter-twice : (p q : ℕ → Bool) (xs : List ℕ) → filter q (filter p xs) ≡ filter (λ x. p x && q x) xs
filter-twice p q [] = refl
filter-twice p q (x ∷ xs) = filter_cases p q x xs (p x) (q x) refl refl (filter-twice p q xs)

-- an access that counts on the word moves its state by the table
module _ (r : Reading) (w n : ℕ) (kept : reuses (r n) w ≡ false) (counted : counts (r n) w ≡ true) where
  counted-first-None : first r w n ≡ None → first r w (suc n) ≡ Some n
  counted-first-None is = first-step r w n kept ∙ rw (is, counted) refl

  counted-join-same : (f : ℕ) → first r w n ≡ Some f → join r w n ≡ None → (thread_of (r f) == thread_of (r n)) ≡ true → join r w (suc n) ≡ None
  unfolding joins
  counted-join-same f is none same = join-step r w n kept f is ∙ rw (none, counted, same) refl

  counted-join-other : (f : ℕ) → first r w n ≡ Some f → join r w n ≡ None → (thread_of (r f) == thread_of (r n)) ≡ false → join r w (suc n) ≡ Some n
  unfolding joins
  counted-join-other f is none other = join-step r w n kept f is ∙ rw (none, counted, other) refl

  pub counted-join-kept : (f j : ℕ) → first r w n ≡ Some f → join r w n ≡ Some j → join r w (suc n) ≡ Some j
  counted-join-kept f j is here = join-step r w n kept f is ∙ rw here refl

  pub counted-written : (j : ℕ) → j < n → written_from r w (suc n) (Some j) ≡ (written_from r w n (Some j) || writes (r n))
  counted-written j below = written-step r w n kept j below ∙ rw counted refl

  pub counted-candidates : (j : ℕ) → j < n → candidates_from r w (suc n) (Some j) ≡ meet (candidates_from r w n (Some j)) (cover_of (r n))
  unfolding meet
  counted-candidates j below =
      candidates-step r w n kept j below
      ∙ rw counted (sym (filter-twice (covers_from r w n j) (has (cover_of (r n))) (cover_of (r j))))

  -- the joining access itself
  counted-written_here : written_from r w (suc n) (Some n) ≡ writes (r n)
  unfolding some_below
  counted-written_here = rw (some_below-none n (λ k. counted_from r w n k && writes (r k)) (λ k l. rw (lt-leb n k l) refl), le-leb n n (omega arith), counted) refl

  covers_here : (l : ℕ) → covers_from r w (suc n) n l ≡ has (cover_of (r n)) l
  unfolding every_below
  covers_here l =
      rw (every_below-all n (λ k. not (counted_from r w n k) || has (cover_of (r k)) l) (λ k below. rw (lt-leb n k below) refl), le-leb n n (omega arith), counted) refl

  counted-candidates_here : candidates_from r w (suc n) (Some n) ≡ cover_of (r n)
  counted-candidates_here =
      filter-same (covers_from r w (suc n) n) (has (cover_of (r n))) (cover_of (r n)) covers_here
      ∙ filter-all (has (cover_of (r n))) (cover_of (r n)) (λ x h. h)

  -- no access before the era's first one, so none by another thread
  alone : first r w n ≡ None → (k : ℕ) → k < suc n → (counted_from r w (era r w n) k && not (thread_of (r n) == thread_of (r k))) ≡ false
  unfolding first
  alone is k below =
      ⊎_elim
      (λ before. and_left (counted_from r w (era r w n) k) (not (thread_of (r n) == thread_of (r k))) (least_below-None n (counted_from r w (era r w n)) is k before))
      (λ here. and_right (counted_from r w (era r w n) k) (not (thread_of (r n) == thread_of (r k))) (rw here (rw (eq-eqb (thread_of (r n)) (thread_of (r n)) refl) refl)))
      (below_or_at k n below)

  pub counted-join-None : first r w n ≡ None → join r w (suc n) ≡ None
  unfolding join
  counted-join-None is =
      rw (counted-first-None is)
      (rw (era-kept r w n kept)
      (least_below-none (suc n) (λ k. counted_from r w (era r w n) k && not (thread_of (r n) == thread_of (r k))) (alone is)))

-- the table, at a state after the joining
shared-advanced : (wrote : Bool) (kind : Kind) (c s : List ℕ) (t : ℕ) → joined (wrote || is_writing kind) (meet c s) ≡ advanced (joined wrote c) t kind s
unfolding joined
shared-advanced true reading c s t = refl
shared-advanced true writing c s t = refl
shared-advanced false reading c s t = refl
shared-advanced false writing c s t = refl

shared-here : (kind : Kind) (s : List ℕ) → joined (is_writing kind) s ≡ shared_by kind s
unfolding joined
shared-here reading s = refl
shared-here writing s = refl

module _ (r : Reading) (w n : ℕ) (kept : reuses (r n) w ≡ false) (counted : counts (r n) w ≡ true) (kind : Kind) (as_kind : writes (r n) ≡ is_writing kind) where
  counted-alone : (f : ℕ) → first r w n ≡ Some f → join r w n ≡ None → (b : Bool) → (thread_of (r f) == thread_of (r n)) ≡ b →
      state r w (suc n) ≡ advanced (Exclusive (thread_of (r f))) (thread_of (r n)) kind (cover_of (r n))
  counted-alone f is none true same =
      state-Exclusive r w (suc n) f (first-kept r w n kept f is) (counted-join-same r w n kept counted f is none same)
      ∙ rw same refl
  counted-alone f is none false other =
      state-joined r w (suc n) f n (first-kept r w n kept f is) (counted-join-other r w n kept counted f is none other)
      ∙ rw (counted-written_here r w n kept counted, counted-candidates_here r w n kept counted, as_kind, other) (shared-here kind (cover_of (r n)))

  counted-cases : (f j : Option ℕ) → first r w n ≡ f → join r w n ≡ j → state r w (suc n) ≡ advanced (state r w n) (thread_of (r n)) kind (cover_of (r n))
  counted-cases None j is here =
      rw (state-Virgin r w n is)
      (state-Exclusive r w (suc n) n (counted-first-None r w n kept counted is) (counted-join-None r w n kept counted is))
  counted-cases (Some f) None is here =
      rw (state-Exclusive r w n f is here) (counted-alone f is here (thread_of (r f) == thread_of (r n)) refl)
  counted-cases (Some f) (Some j) is here =
      let below = join-below r w n f j is here in
      state-joined r w (suc n) f j (first-kept r w n kept f is) (counted-join-kept r w n kept counted f j is here)
      ∙ rw (state-joined r w n f j is here)
      (rw (counted-written r w n kept counted j below, counted-candidates r w n kept counted j below, as_kind)
      (shared-advanced (written_from r w n (Some j)) kind (candidates_from r w n (Some j)) (cover_of (r n)) (thread_of (r n))))

  pub state-counted : state r w (suc n) ≡ advanced (state r w n) (thread_of (r n)) kind (cover_of (r n))
  state-counted = counted-cases (first r w n) (join r w n) refl refl
