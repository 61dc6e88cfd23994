-- An access is answered with a race exactly where something explains it.
use Rattle.std.proofs.Common.{◌≡◌, ℕ, suc, ◌+◌, ◌<◌, ◌≤◌, Bool, true, false, ◌&&◌, ◌||◌, not, cond, ◌==◌, nat_lt, nat_le, List, [], ◌∷◌, All, slice_get, Option, Some, None, Ok, refl, sym, ◌∙◌, arith, ⊎_elim, ◌⊎◌}
use Rattle.std.specs.List.{count_by}
use Rattle.std.proofs.lemmas.List.Elements.{All-nil, All-cons, All-head, All-tail}
use Rattle.std.proofs.lemmas.List.Sums.{sum_by-cons}
use Rattle.std.proofs.lemmas.Bool.{le-leb, leb-true, ltb-true, ltb-false, eqb-true, eq-eqb, or_left, or_right, and_parts, and_from, not-true, both_ways}
use Rattle.er_event.specs.declared.steps.Event.{Event}
use Rattle.er_event.specs.declared.steps.Event.TheVariants.{Acquire, Release, Access, Reuse, IgnoreOn, IgnoreOff, Show, Level, Sync}
use Rattle.er_event.specs.declared.steps.Kind.{Kind}
use Rattle.er_event.specs.declared.steps.Kind.TheVariants.{Read as reading, Write as writing}
use Rattle.er_event.specs.declared.refusals.Refusal.{Refusal}
use Rattle.er_event.specs.declared.steps.Reply.{Reply}
use Rattle.er_event.specs.declared.steps.Reply.TheVariants.{Quiet, Race, Ignored}
use Rattle.er_event.specs.declared.steps.Step.{Step}
use Rattle.er_model.specs.Search.{least_below}
use Rattle.er_event.specs.Lockset.{IsRising, has}
use Rattle.er_model.specs.Words.{Mark, Counted, Reused, Shown, Nothing, Reading, reuses, counts, writes, cover_of, is_empty, era, counted_from, first, join, candidates, written, racy, reported}
use Rattle.er_model.specs.Threads.{is_ignoring, refusal, accepted}
use Rattle.er_model.specs.Answers.{covering, mark, reading_of, reply, answer, answer_unless, answer_to}
use Rattle.er_model.specs.Explanations.{Explanation, first_write, first_uncovered, locks_listed, times_listed, latest, ExplainsAccess, word_of, Explains}
use Rattle.er_model.proofs.Search.{least_below-None, least_below-Some, or_next-Some}
use Rattle.er_event.proofs.LocksetLemmas.{same-rising}
use Rattle.er_model.proofs.Words.{era-kept, join-step, joins, written-joined, counted-join-None}
use Rattle.er_model.proofs.Races.{first-of_join, never-written, join-stays, not_racy_before}
use Rattle.er_model.proofs.Threads.{rising-held, rising-write_held, no_level_lock}
use Rattle.er_model.proofs.Meaning.{some_below-found, some_below-from, join-counted, candidates-mean, is_empty-means}

counts_kept : (m : Mark) (w : ℕ) → counts m w ≡ true → reuses m w ≡ false
unfolding counts reuses
counts_kept (Counted t kind word cover) w counted = refl
counts_kept (Reused range) w counted = cc
counts_kept (Shown word) w counted = cc
counts_kept Nothing w counted = cc

some_injective : (a b : ℕ) → Some a ≡ Some b → a ≡ b
some_injective a b e = cc

-- what was found below the next point, and stands below this one, was found below this one
least-back : (k : ℕ) (p : ℕ → Bool) (i : ℕ) → i < k → least_below (suc k) p ≡ Some i → least_below k p ≡ Some i
unfolding least_below
least-back k p i below e =
    ⊎_elim (λ before. before) (λ here. absurd (omega (arith, here.2))) (or_next-Some (least_below k p) (p k) k i e)

least-on : (k : ℕ) (p : ℕ → Bool) (i : ℕ) → least_below k p ≡ Some i → least_below (suc k) p ≡ Some i
unfolding least_below
least-on k p i e = rw e refl

-- all of a list
all-from : (P Q : ℕ × ℕ → Type 0) (xs : List (ℕ × ℕ)) → ((x : ℕ × ℕ) → P x → Q x) → All P xs → All Q xs
all-from P Q [] h all = All-nil Q
all-from P Q (x ∷ xs) h all = All-cons Q x xs (h x (All-head P x xs all)) (all-from P Q xs h (All-tail P x xs all))

all-both : (P Q : ℕ × ℕ → Type 0) (xs : List (ℕ × ℕ)) → All P xs → All Q xs → All (λ x. P x × Q x) xs
all-both P Q [] a b = All-nil (λ x. P x × Q x)
all-both P Q (x ∷ xs) a b = All-cons (λ x. P x × Q x) x xs (All-head P x xs a, All-head Q x xs b) (all-both P Q xs (All-tail P x xs a) (All-tail Q x xs b))

-- the latest position is one of them, and none is later
greater_is : (P : ℕ → Type 0) (i j : ℕ) (b : Bool) → P i → P j → P (cond b j i)
greater_is P i j true a b = b
greater_is P i j false a b = a

latest-one : (P : ℕ → Type 0) (i : ℕ) (xs : List (ℕ × ℕ)) → P i → All (λ x. P x.1) xs → P (latest i xs)
unfolding latest
latest-one P i [] here all = here
latest-one P i (x ∷ xs) here all =
    latest-one P (cond (nat_lt i x.1) x.1 i) xs (greater_is P i x.1 (nat_lt i x.1) here (All-head (λ x. P x.1) x xs all)) (All-tail (λ x. P x.1) x xs all)

greater_up : (i j : ℕ) (b : Bool) → nat_lt i j ≡ b → (i ≤ cond b j i) × (j ≤ cond b j i)
greater_up i j true less = (omega (arith, ltb-true i j less), omega arith)
greater_up i j false more = (omega arith, omega (arith, ltb-false i j more))

latest-up : (i : ℕ) (xs : List (ℕ × ℕ)) → (i ≤ latest i xs) × All (λ x. x.1 ≤ latest i xs) xs
unfolding latest
latest-up i [] = (omega arith, All-nil (λ x. x.1 ≤ i))
latest-up i (x ∷ xs) =
    let up = greater_up i x.1 (nat_lt i x.1) refl in
    let rest = latest-up (cond (nat_lt i x.1) x.1 i) xs in
    let last = latest (cond (nat_lt i x.1) x.1 i) xs in
    (omega (arith, up.0, rest.0), All-cons (λ y. y.1 ≤ last) x xs (omega (arith, up.1, rest.0)) rest.1)

-- how often a lock is listed, pair by pair
times-next : (x : ℕ × ℕ) (xs : List (ℕ × ℕ)) (l : ℕ) → times_listed (x ∷ xs) l ≡ cond (x.0 == l) 1 0 + times_listed xs l
times-next x xs l = sum_by-cons (λ y. cond (y.0 == l) 1 0) x xs

count-next : (x : ℕ) (xs : List ℕ) (l : ℕ) → count_by (λ y. y == l) (x ∷ xs) ≡ cond (x == l) 1 0 + count_by (λ y. y == l) xs
count-next x xs l = sum_by-cons (λ y. cond (y == l) 1 0) x xs

-- a lock that is listed once has a pair
found_by : (Q : ℕ → ℕ → Type 0) (x : ℕ × ℕ) (xs : List (ℕ × ℕ)) (l : ℕ) (b : Bool) → (x.0 == l) ≡ b → Q x.0 x.1 →
    cond b 1 0 + times_listed xs l ≡ 1 → (times_listed xs l ≡ 1 → (i : ℕ) × Q l i) → (i : ℕ) × Q l i
found_by Q x xs l true same here once rest = (x.1, rw (← eqb-true x.0 l same) here)
found_by Q x xs l false other here once rest = rest (omega (arith, once))

listed-found : (Q : ℕ → ℕ → Type 0) (xs : List (ℕ × ℕ)) (l : ℕ) → times_listed xs l ≡ 1 → All (λ x. Q x.0 x.1) xs → (i : ℕ) × Q l i
listed-found Q [] l once all = cc
listed-found Q (x ∷ xs) l once all =
    found_by Q x xs l (x.0 == l) refl (All-head (λ x. Q x.0 x.1) x xs all) (sym (times-next x xs l) ∙ once)
    (λ once'. listed-found Q xs l once' (All-tail (λ x. Q x.0 x.1) x xs all))

-- every lock that is listed is one that is to be
listed_head : (c : ℕ → Bool) (x : ℕ × ℕ) (xs : List (ℕ × ℕ)) (b : Bool) → c x.0 ≡ b → ((l : ℕ) → c l ≡ false → times_listed (x ∷ xs) l ≡ 0) → c x.0 ≡ true
listed_head c x xs true is none = is
listed_head c x xs false is none =
    let never : cond true 1 0 + times_listed xs x.0 ≡ 0 = rw (eq-eqb x.0 x.0 refl) at (sym (times-next x xs x.0) ∙ none x.0 is) in
    absurd (omega (arith, never))

listed-all : (c : ℕ → Bool) (xs : List (ℕ × ℕ)) → ((l : ℕ) → c l ≡ false → times_listed xs l ≡ 0) → All (λ x. c x.0 ≡ true) xs
listed-all c [] none = All-nil (λ x. c x.0 ≡ true)
listed-all c (x ∷ xs) none =
    All-cons (λ x. c x.0 ≡ true) x xs (listed_head c x xs (c x.0) refl none)
    (listed-all c xs (λ l is. omega (arith, none l is, times-next x xs l)))

-- a pair for each lock of a list
pairs_for : (Q : ℕ → ℕ → Type 0) (ls : List ℕ) → ((l : ℕ) → has ls l ≡ true → (i : ℕ) × Q l i) → (xs : List (ℕ × ℕ)) × (locks_listed xs ≡ ls) × All (λ x. Q x.0 x.1) xs
pairs_for Q [] each = ([], refl, All-nil (λ x. Q x.0 x.1))
pairs_for Q (l ∷ ls) each =
    let here = each l (or_left (l == l) (has ls l) (eq-eqb l l refl)) in
    let rest = pairs_for Q ls (λ k member. each k (or_right (l == k) (has ls k) member)) in
    ((l, here.0) ∷ rest.0, rw rest.1 refl, All-cons (λ x. Q x.0 x.1) (l, here.0) rest.0 here.1 rest.2)

-- a rising list has each of its locks once
absent_by : (x : ℕ) (xs : List ℕ) (l : ℕ) (b : Bool) → (b || has xs l) ≡ false → (has xs l ≡ false → count_by (λ y. y == l) xs ≡ 0) → cond b 1 0 + count_by (λ y. y == l) xs ≡ 0
absent_by x xs l true e rest = cc
absent_by x xs l false e rest = omega (arith, rest e)

absent_none : (ls : List ℕ) (l : ℕ) → has ls l ≡ false → count_by (λ x. x == l) ls ≡ 0
absent_none [] l none = refl
absent_none (x ∷ xs) l none = count-next x xs l ∙ absent_by x xs l (x == l) none (absent_none xs l)

once_by : (x : ℕ) (xs : List ℕ) (l : ℕ) (b : Bool) → (x == l) ≡ b → IsRising (x ∷ xs) → count_by (λ y. y == l) xs ≡ cond (has xs l) 1 0 →
    cond b 1 0 + count_by (λ y. y == l) xs ≡ cond (b || has xs l) 1 0
once_by x xs l true same up rest = omega (arith, absent_none xs l (gone (has xs l) refl))
  where
    gone : (b : Bool) → has xs l ≡ b → has xs l ≡ false
    gone true member = absurd (omega (arith, up.0 l member, eqb-true x l same))
    gone false none = none
once_by x xs l false other up rest = omega (arith, rest)

rising-once : (ls : List ℕ) (l : ℕ) → IsRising ls → count_by (λ x. x == l) ls ≡ cond (has ls l) 1 0
rising-once [] l up = refl
rising-once (x ∷ xs) l up = count-next x xs l ∙ once_by x xs l (x == l) refl up (rising-once xs l up.1)

listed-count : (xs : List (ℕ × ℕ)) (l : ℕ) → times_listed xs l ≡ count_by (λ x. x == l) (locks_listed xs)
listed-count [] l = refl
listed-count (x ∷ xs) l = times-next x xs l ∙ rw (listed-count xs l) (sym (count-next x.0 (locks_listed xs) l))

counted_some_by : (x : ℕ) (xs : List ℕ) (l : ℕ) (b : Bool) → (b || has xs l) ≡ true → (has xs l ≡ true → 0 < count_by (λ y. y == l) xs) → 0 < cond b 1 0 + count_by (λ y. y == l) xs
counted_some_by x xs l true member rest = omega arith
counted_some_by x xs l false member rest = omega (arith, rest member)

counted_some : (xs : List ℕ) (l : ℕ) → has xs l ≡ true → 0 < count_by (λ y. y == l) xs
counted_some [] l member = cc
counted_some (x ∷ xs) l member = rw (count-next x xs l) (counted_some_by x xs l (x == l) member (counted_some xs l))

-- and is listed where it is counted
listed_by : (xs : List (ℕ × ℕ)) (l : ℕ) (a b : Bool) → has (locks_listed xs) l ≡ a → times_listed xs l ≡ cond b 1 0 → a ≡ b
listed_by xs l true true is e = refl
listed_by xs l true false is e = absurd (omega (arith, e, listed-count xs l, counted_some (locks_listed xs) l is))
listed_by xs l false true is e = absurd (omega (arith, e, listed-count xs l, absent_none (locks_listed xs) l is))
listed_by xs l false false is e = refl

listed-has : (xs : List (ℕ × ℕ)) (l : ℕ) (b : Bool) → times_listed xs l ≡ cond b 1 0 → has (locks_listed xs) l ≡ b
listed-has xs l b e = listed_by xs l (has (locks_listed xs) l) b refl e

-- the candidates at a point, by the accesses that locks of the joining don't cover
module _ (r : Reading) (w n j : ℕ) (here : join r w n ≡ Some j) where
  uncovered-out : (l i : ℕ) → first_uncovered r w n j l ≡ Some i → has (candidates r w n) l ≡ true → ⊥
  unfolding first_uncovered
  uncovered-out l i is member =
      let found = least_below-Some n (λ k. counted_from r w (suc j) k && not (has (cover_of (r k)) l)) i is in
      let parts = and_parts (counted_from r w (suc j) i) (not (has (cover_of (r i)) l)) found.1 in
      let counted = and_parts (nat_le (suc j) i) (counts (r i) w) parts.0 in
      both_ways (has (cover_of (r i)) l) (not-true (has (cover_of (r i)) l) parts.1)
      ((candidates-mean r w n j l here).0 member i (omega (arith, leb-true (suc j) i counted.0)) found.0 counted.1)

  joining : (j < n) × (counts (r j) w ≡ true)
  joining =
      let at_join = join-counted r w n j here in
      (at_join.0, (and_parts (nat_le (era r w n) j) (counts (r j) w) at_join.1).1)

  pub empty-from : ((l : ℕ) → has (cover_of (r j)) l ≡ true → (i : ℕ) × (first_uncovered r w n j l ≡ Some i)) → is_empty (candidates r w n) ≡ true
  empty-from each = (is_empty-means (candidates r w n)).1 (λ l. out l (has (candidates r w n) l) refl)
    where
      out : (l : ℕ) (b : Bool) → has (candidates r w n) l ≡ b → has (candidates r w n) l ≡ false
      out l false is = is
      out l true is =
          let covers = (candidates-mean r w n j l here).0 is j (omega arith) joining.0 joining.1 in
          let found = each l covers in
          absurd (uncovered-out l found.0 found.1 is)

  covered_at : (l i : ℕ) → has (cover_of (r j)) l ≡ true → (b : Bool) → has (cover_of (r i)) l ≡ b → j ≤ i → counts (r i) w ≡ true →
      (counted_from r w (suc j) i && not (has (cover_of (r i)) l)) ≡ false → has (cover_of (r i)) l ≡ true
  covered_at l i first_covers true is low counted none = is
  covered_at l i first_covers false is low counted none =
      ⊎_elim
      (λ same. rw (← same) first_covers)
      (λ after. absurd (both_ways (counted_from r w (suc j) i && not (has (cover_of (r i)) l)) none
      (and_from (counted_from r w (suc j) i) (not (has (cover_of (r i)) l)) (and_from (nat_le (suc j) i) (counts (r i) w) (le-leb (suc j) i after) counted) (rw is refl))))
      (at_or_after j i low)
    where
      at_or_after : (a b : ℕ) → a ≤ b → (a ≡ b) ⊎ (suc a ≤ b)
      at_or_after a b low = grind arith

  uncovered_by : (l : ℕ) → has (cover_of (r j)) l ≡ true → is_empty (candidates r w n) ≡ true → (o : Option ℕ) → first_uncovered r w n j l ≡ o → (i : ℕ) × (first_uncovered r w n j l ≡ Some i)
  unfolding first_uncovered
  uncovered_by l covers empty (Some i) is = (i, is)
  uncovered_by l covers empty None is =
      absurd (both_ways (has (candidates r w n) l) ((is_empty-means (candidates r w n)).0 empty l)
      ((candidates-mean r w n j l here).1
      (λ i low below counted. covered_at l i covers (has (cover_of (r i)) l) refl low counted
      (least_below-None n (λ k. counted_from r w (suc j) k && not (has (cover_of (r k)) l)) is i below))))

  pub empty-each : is_empty (candidates r w n) ≡ true → (l : ℕ) → has (cover_of (r j)) l ≡ true → (i : ℕ) × (first_uncovered r w n j l ≡ Some i)
  empty-each empty l covers = uncovered_by l covers empty (first_uncovered r w n j l) refl

  -- and written, by the first write
  pub written-from : (v : ℕ) → first_write r w n j ≡ Some v → written r w n ≡ true
  unfolding first_write
  written-from v is =
      let found = least_below-Some n (λ i. counted_from r w j i && writes (r i)) v is in
      written-joined r w n j here ∙ some_below-from n (λ i. counted_from r w j i && writes (r i)) v found.0 found.1

  write_by : written r w n ≡ true → (o : Option ℕ) → first_write r w n j ≡ o → (v : ℕ) × (first_write r w n j ≡ Some v)
  unfolding first_write
  write_by wrote (Some v) is = (v, is)
  write_by wrote None is =
      let found = some_below-found n (λ i. counted_from r w j i && writes (r i)) (sym (written-joined r w n j here) ∙ wrote) in
      absurd (both_ways (counted_from r w j found.0 && writes (r found.0)) (least_below-None n (λ i. counted_from r w j i && writes (r i)) is found.0 found.1) found.2)

  pub written-each : written r w n ≡ true → (v : ℕ) × (first_write r w n j ≡ Some v)
  written-each wrote = write_by wrote (first_write r w n j) refl

  pub racy-from : (v : ℕ) → first_write r w n j ≡ Some v → ((l : ℕ) → has (cover_of (r j)) l ≡ true → (i : ℕ) × (first_uncovered r w n j l ≡ Some i)) → racy r w n ≡ true
  unfolding racy
  racy-from v is each = and_from (written r w n) (is_empty (candidates r w n)) (written-from v is) (empty-from each)

-- a racy word has a joining
racy-joined : (r : Reading) (w n : ℕ) → racy r w n ≡ true → (j : ℕ) × (join r w n ≡ Some j)
unfolding racy
racy-joined r w n is_racy = by (join r w n) refl
  where
    by : (o : Option ℕ) → join r w n ≡ o → (j : ℕ) × (join r w n ≡ Some j)
    by None none = absurd (never-written r w n none (and_parts (written r w n) (is_empty (candidates r w n)) is_racy).0)
    by (Some j) here = (j, here)

-- an access is reported where it makes its word racy
module _ (r : Reading) (w k : ℕ) (counted : counts (r k) w ≡ true) where
  kept : reuses (r k) w ≡ false
  kept = counts_kept (r k) w counted

  reported-racy : reported r w k ≡ (racy r w (suc k) && not (racy r w k))
  unfolding reported
  reported-racy = rw (era-kept r w k kept, not_racy_before r w k (era r w k) refl) refl

  join-back_by : (j : ℕ) → j < k → join r w (suc k) ≡ Some j → (f o : Option ℕ) → first r w k ≡ f → join r w k ≡ o → join r w k ≡ Some j
  join-back_by j below here None o is was = let never = counted-join-None r w k kept counted is in cc
  join-back_by j below here (Some f) None is was = step (joins r w k f) refl
    where
      step : (b : Bool) → joins r w k f ≡ b → join r w k ≡ Some j
      step true now = let next : join r w (suc k) ≡ Some k = join-step r w k kept f is ∙ rw (was, now) refl in absurd (omega (arith, some_injective j k (sym here ∙ next)))
      step false not_now = let next : join r w (suc k) ≡ None = join-step r w k kept f is ∙ rw (was, not_now) refl in cc
  join-back_by j below here (Some f) (Some i) is was = let next = join-stays r w k kept i was in was ∙ sym next ∙ here

  join-back : (j : ℕ) → j < k → join r w (suc k) ≡ Some j → join r w k ≡ Some j
  join-back j below here = join-back_by j below here (first r w k) (join r w k) refl refl

  -- what ends before the access makes the word racy before it
  racy-before : (j v : ℕ) → join r w (suc k) ≡ Some j → first_write r w (suc k) j ≡ Some v → v < k →
      ((l : ℕ) → has (cover_of (r j)) l ≡ true → (i : ℕ) × (first_uncovered r w (suc k) j l ≡ Some i) × (i < k)) → racy r w k ≡ true
  unfolding first_write first_uncovered
  racy-before j v here wrote below each =
      let found = least_below-Some (suc k) (λ i. counted_from r w j i && writes (r i)) v wrote in
      let low = leb-true j v (and_parts (nat_le j v) (counts (r v) w) (and_parts (counted_from r w j v) (writes (r v)) found.1).0).0 in
      racy-from r w k j (join-back j (omega (arith, low)) here) v
      (least-back k (λ i. counted_from r w j i && writes (r i)) v below wrote)
      (λ l covers. let one = each l covers in (one.0, least-back k (λ i. counted_from r w (suc j) i && not (has (cover_of (r i)) l)) one.0 one.2 one.1))

  -- an explanation shows that the access is reported
  module _ (e : Explanation) (is : ExplainsAccess r w e k) where
    abbrev j : ℕ
    j = e.join

    racy-after : racy r w (suc k) ≡ true
    racy-after =
        racy-from r w (suc k) j is.is_join e.write is.is_write
        (λ l covers. listed-found (λ x i. first_uncovered r w (suc k) j x ≡ Some i) e.uncovered l (is.each_once l ∙ rw covers refl) is.uncovers)

    all_cover : All (λ x. has (cover_of (r j)) x.0 ≡ true) e.uncovered
    all_cover = listed-all (has (cover_of (r j))) e.uncovered (λ l none. is.each_once l ∙ rw none refl)

    same_join : racy r w k ≡ true → join r w k ≡ Some j
    same_join was =
        let before = racy-joined r w k was in
        before.1 ∙ sym (join-stays r w k kept before.0 before.1) ∙ is.is_join

    earlier-pair : (here : join r w k ≡ Some j) → is_empty (candidates r w k) ≡ true → (x : ℕ × ℕ) → (has (cover_of (r j)) x.0 ≡ true) × (first_uncovered r w (suc k) j x.0 ≡ Some x.1) → x.1 < k
    unfolding first_uncovered
    earlier-pair here empty x both =
        let found = empty-each r w k j here empty x.0 both.0 in
        let test : ℕ → Bool = λ i. counted_from r w (suc j) i && not (has (cover_of (r i)) x.0) in
        let below = (least_below-Some k test found.0 found.1).0 in
        let same : found.0 ≡ x.1 = some_injective found.0 x.1 (sym (least-on k test found.0 found.1) ∙ both.1) in
        omega (arith, below, same)

    earlier-write : (here : join r w k ≡ Some j) → written r w k ≡ true → e.write < k
    unfolding first_write
    earlier-write here wrote =
        let found = written-each r w k j here wrote in
        let test : ℕ → Bool = λ i. counted_from r w j i && writes (r i) in
        let below = (least_below-Some k test found.0 found.1).0 in
        let same : found.0 ≡ e.write = some_injective found.0 e.write (sym (least-on k test found.0 found.1) ∙ is.is_write) in
        omega (arith, below, same)

    not_before : (b : Bool) → racy r w k ≡ b → racy r w k ≡ false
    unfolding racy
    not_before false none = none
    not_before true was =
        let here = same_join was in
        let parts = and_parts (written r w k) (is_empty (candidates r w k)) was in
        let all = all-both (λ x. has (cover_of (r j)) x.0 ≡ true) (λ x. first_uncovered r w (suc k) j x.0 ≡ Some x.1) e.uncovered all_cover is.uncovers in
        let below : latest e.write e.uncovered < k =
        latest-one (λ i. i < k) e.write e.uncovered (earlier-write here parts.0)
        (all-from (λ x. (has (cover_of (r j)) x.0 ≡ true) × (first_uncovered r w (suc k) j x.0 ≡ Some x.1)) (λ x. x.1 < k) e.uncovered (earlier-pair here parts.1) all) in
        absurd (omega (arith, below, is.ends_at))

    pub explained-reported : reported r w k ≡ true
    explained-reported = reported-racy ∙ rw (racy-after, not_before (racy r w k) refl) refl

  -- and an access that is reported has an explanation
  module _ (rises : (i : ℕ) → IsRising (cover_of (r i))) (reports : reported r w k ≡ true) where
    now_racy : (racy r w (suc k) ≡ true) × (not (racy r w k) ≡ true)
    now_racy = and_parts (racy r w (suc k)) (not (racy r w k)) (sym reported-racy ∙ reports)

    module _ (j : ℕ) (here : join r w (suc k) ≡ Some j) where
      parts : (written r w (suc k) ≡ true) × (is_empty (candidates r w (suc k)) ≡ true)
      unfolding racy
      parts = and_parts (written r w (suc k)) (is_empty (candidates r w (suc k))) now_racy.0

      a_write : (v : ℕ) × (first_write r w (suc k) j ≡ Some v)
      a_write = written-each r w (suc k) j here parts.0

      some_pairs : (xs : List (ℕ × ℕ)) × (locks_listed xs ≡ cover_of (r j)) × All (λ x. first_uncovered r w (suc k) j x.0 ≡ Some x.1) xs
      some_pairs = pairs_for (λ l i. first_uncovered r w (suc k) j l ≡ Some i) (cover_of (r j)) (empty-each r w (suc k) j here parts.1)

      once_each : (l : ℕ) → times_listed some_pairs.0 l ≡ cond (has (cover_of (r j)) l) 1 0
      once_each l = listed-count some_pairs.0 l ∙ rw some_pairs.1 (rising-once (cover_of (r j)) l (rises j))

      within : latest a_write.0 some_pairs.0 < suc k
      unfolding first_write first_uncovered
      within =
          latest-one (λ i. i < suc k) a_write.0 some_pairs.0
          (least_below-Some (suc k) (λ i. counted_from r w j i && writes (r i)) a_write.0 a_write.1).0
          (all-from (λ x. first_uncovered r w (suc k) j x.0 ≡ Some x.1) (λ x. x.1 < suc k) some_pairs.0
          (λ x found. (least_below-Some (suc k) (λ i. counted_from r w (suc j) i && not (has (cover_of (r i)) x.0)) x.1 found).0) some_pairs.2)

      not_sooner : latest a_write.0 some_pairs.0 < k → ⊥
      not_sooner sooner =
          let up = latest-up a_write.0 some_pairs.0 in
          let all = all-both (λ x. first_uncovered r w (suc k) j x.0 ≡ Some x.1) (λ x. x.1 ≤ latest a_write.0 some_pairs.0) some_pairs.0 some_pairs.2 up.1 in
          let found : (l : ℕ) → has (cover_of (r j)) l ≡ true → (i : ℕ) × ((first_uncovered r w (suc k) j l ≡ Some i) × (i ≤ latest a_write.0 some_pairs.0)) =
          λ l covers. listed-found (λ x i. (first_uncovered r w (suc k) j x ≡ Some i) × (i ≤ latest a_write.0 some_pairs.0)) some_pairs.0 l (once_each l ∙ rw covers refl) all in
          both_ways (racy r w k) (not-true (racy r w k) now_racy.1)
          (racy-before j a_write.0 here a_write.1 (omega (arith, up.0))
          (λ l covers. let one = found l covers in (one.0, one.1.0, omega (arith, one.1.1))))

      ends : latest a_write.0 some_pairs.0 ≡ k
      ends = by (nat_lt (latest a_write.0 some_pairs.0) k) refl
        where
          by : (b : Bool) → nat_lt (latest a_write.0 some_pairs.0) k ≡ b → latest a_write.0 some_pairs.0 ≡ k
          by true less = absurd (not_sooner (ltb-true (latest a_write.0 some_pairs.0) k less))
          by false more = omega (arith, within, ltb-false (latest a_write.0 some_pairs.0) k more)

      explained_by : (e : Explanation) × ExplainsAccess r w e k × IsRising (locks_listed e.uncovered)
      explained_by =
          let f = first-of_join r w (suc k) j here (first r w (suc k)) refl in (
            record { first = f.0; join = j; write = a_write.0; uncovered = some_pairs.0 },
            record { is_first = f.1; is_join = here; is_write = a_write.1; each_once = once_each; uncovers = some_pairs.2; ends_at = ends },
            rw some_pairs.1 (rises j),
          )

    pub reported-explained : (e : Explanation) × ExplainsAccess r w e k × IsRising (locks_listed e.uncovered)
    reported-explained = let joined = racy-joined r w (suc k) now_racy.0 in explained_by joined.0 joined.1

-- the access that an explanation ends at counts
ends-counted : (r : Reading) (w k : ℕ) (e : Explanation) → ExplainsAccess r w e k → counts (r k) w ≡ true
unfolding first_write first_uncovered
ends-counted r w k e is =
    let write_test : ℕ → Bool = λ i. counted_from r w e.join i && writes (r i) in
    let wrote = (least_below-Some (suc k) write_test e.write is.is_write).1 in
    rw is.ends_at at
    (latest-one (λ i. counts (r i) w ≡ true) e.write e.uncovered
    (and_parts (nat_le e.join e.write) (counts (r e.write) w) (and_parts (counted_from r w e.join e.write) (writes (r e.write)) wrote).0).1
    (all-from (λ x. first_uncovered r w (suc k) e.join x.0 ≡ Some x.1) (λ x. counts (r x.1) w ≡ true) e.uncovered
    (λ x found.
    let passes = (least_below-Some (suc k) (λ i. counted_from r w (suc e.join) i && not (has (cover_of (r i)) x.0)) x.1 found).1 in
    (and_parts (nat_le (suc e.join) x.1) (counts (r x.1) w) (and_parts (counted_from r w (suc e.join) x.1) (not (has (cover_of (r x.1)) x.0)) passes).0).1)
    is.uncovers))

-- two explanations whose locks rise are one
pairs-same : (f : ℕ → Option ℕ) (xs ys : List (ℕ × ℕ)) → locks_listed xs ≡ locks_listed ys → All (λ x. f x.0 ≡ Some x.1) xs → All (λ y. f y.0 ≡ Some y.1) ys → xs ≡ ys
pairs-same f [] [] same a b = refl
pairs-same f [] (y ∷ ys) same a b = cc
pairs-same f (x ∷ xs) [] same a b = cc
pairs-same f (x ∷ xs) (y ∷ ys) same a b =
    let lock : x.0 ≡ y.0 = cc in
    let rest : locks_listed xs ≡ locks_listed ys = cc in
    let here = All-head (λ x. f x.0 ≡ Some x.1) x xs a in
    let there = All-head (λ y. f y.0 ≡ Some y.1) y ys b in
    let place : x.1 ≡ y.1 = some_injective x.1 y.1 (sym here ∙ rw lock there) in
    let tail = pairs-same f xs ys rest (All-tail (λ x. f x.0 ≡ Some x.1) x xs a) (All-tail (λ y. f y.0 ≡ Some y.1) y ys b) in
    λ i. (lock i, place i) ∷ tail i

pub explanation-unique : (r : Reading) (w k : ℕ) (e f : Explanation) → ExplainsAccess r w e k → ExplainsAccess r w f k →
    IsRising (locks_listed e.uncovered) → IsRising (locks_listed f.uncovered) → e ≡ f
explanation-unique r w k e f a b up_e up_f =
    let same_first : e.first ≡ f.first = some_injective e.first f.first (sym a.is_first ∙ b.is_first) in
    let same_join : e.join ≡ f.join = some_injective e.join f.join (sym a.is_join ∙ b.is_join) in
    let same_write : e.write ≡ f.write = some_injective e.write f.write (sym a.is_write ∙ rw same_join b.is_write) in
    let locks : locks_listed e.uncovered ≡ locks_listed f.uncovered =
    same-rising (locks_listed e.uncovered) (locks_listed f.uncovered) up_e up_f
    (λ l. listed-has e.uncovered l (has (cover_of (r e.join)) l) (a.each_once l) ∙ rw same_join (sym (listed-has f.uncovered l (has (cover_of (r f.join)) l) (b.each_once l)))) in
    let pairs : e.uncovered ≡ f.uncovered = pairs-same (first_uncovered r w (suc k) e.join) e.uncovered f.uncovered locks a.uncovers (rw same_join b.uncovers) in
    λ i. record { first = same_first i; join = same_join i; write = same_write i; uncovered = pairs i }

-- the locks that cover an access stand in rising order
rising_access : (steps : List Step) (i t w : ℕ) (kind : Kind) (b : Bool) → IsRising (cover_of (cond b Nothing (Counted t kind w (covering (accepted steps i) t kind))))
unfolding cover_of
rising_access steps i t w kind true = tt
rising_access steps i t w reading false = rising-held (accepted steps i) t (no_level_lock steps i)
rising_access steps i t w writing false = rising-write_held (accepted steps i) t (no_level_lock steps i)

rising_event : (steps : List Step) (i t : ℕ) (e : Event) → IsRising (cover_of (mark (accepted steps i) t e))
unfolding mark cover_of
rising_event steps i t (Access kind w site) = rising_access steps i t w kind (is_ignoring (accepted steps i) t)
rising_event steps i t (Acquire l m) = tt
rising_event steps i t (Release l m) = tt
rising_event steps i t (Reuse range) = tt
rising_event steps i t IgnoreOn = tt
rising_event steps i t IgnoreOff = tt
rising_event steps i t (Show w) = tt
rising_event steps i t (Level n) = tt
rising_event steps i t (Sync sync) = tt

rising_mark : (steps : List Step) (i : ℕ) (o : Option Step) → slice_get steps i ≡ o → IsRising (cover_of (reading_of steps i))
unfolding reading_of cover_of
rising_mark steps i None is = rw is tt
rising_mark steps i (Some s) is = rw is (rising_event steps i s.thread s.event)

pub rising-cover : (steps : List Step) (i : ℕ) → IsRising (cover_of (reading_of steps i))
rising-cover steps i = rising_mark steps i (slice_get steps i) refl

-- an access that is answered with a race is counted and reported
race_access : (steps : List Step) (k t w site : ℕ) (kind : Kind) (b reported_there : Bool) →
    cond b Ignored (cond reported_there Race Quiet) ≡ Race → (b ≡ false) × (reported_there ≡ true)
race_access steps k t w site kind true there e = cc
race_access steps k t w site kind false true e = (refl, refl)
race_access steps k t w site kind false false e = cc

-- so a step that is answered so accesses a word, and its access is counted and reported
abbrev IsReported : List Step → ℕ → Type 0
IsReported steps k =
    (w : ℕ) × (word_of (slice_get steps k) ≡ Some w) × (counts (reading_of steps k) w ≡ true) × (reported (reading_of steps) w k ≡ true)

race_event : (steps : List Step) (k : ℕ) (s : Step) (e : Event) → slice_get steps k ≡ Some s → s.event ≡ e → reply steps k s.thread e ≡ Race → IsReported steps k
unfolding reply reading_of mark counts
race_event steps k s (Access kind w site) is event race =
    let found = race_access steps k s.thread w site kind (is_ignoring (accepted steps k) s.thread) (reported (reading_of steps) w k) race in
    (w, rw (is, event) refl, rw (is, event, found.0) (eq-eqb w w refl), found.1)
race_event steps k s (Show w) is event race = cc
race_event steps k s (Acquire l m) is event race = cc
race_event steps k s (Release l m) is event race = cc
race_event steps k s (Reuse range) is event race = cc
race_event steps k s IgnoreOn is event race = cc
race_event steps k s IgnoreOff is event race = cc
race_event steps k s (Level n) is event race = cc
race_event steps k s (Sync sync) is event race = cc

replied_so : (o : Option Refusal) (given wanted : Reply) → answer_unless o given ≡ Ok wanted → given ≡ wanted
replied_so None given wanted e = cc
replied_so (Some why) given wanted e = cc

race_at : (steps : List Step) (k : ℕ) (o : Option Step) → slice_get steps k ≡ o → answer steps k ≡ Ok Race → IsReported steps k
unfolding answer
race_at steps k None is race = let never : answer_to steps k None ≡ Ok Race = rw is at race in cc
race_at steps k (Some s) is race =
    let given : answer_to steps k (Some s) ≡ Ok Race = rw is at race in
    race_event steps k s s.event is refl (replied_so (refusal (accepted steps k) s.thread s.event) (reply steps k s.thread s.event) Race given)

pub race-rising : (steps : List Step) (k : ℕ) → answer steps k ≡ Ok Race → (e : Explanation) × Explains steps e k × IsRising (locks_listed e.uncovered)
race-rising steps k race =
    let at = race_at steps k (slice_get steps k) refl race in
    let found = reported-explained (reading_of steps) at.0 k at.2 (rising-cover steps) at.3 in
    (found.0, (at.0, at.1, found.1), found.2)

pub race-explained : (steps : List Step) (k : ℕ) → answer steps k ≡ Ok Race → (e : Explanation) × Explains steps e k
race-explained steps k race = let found = race-rising steps k race in (found.0, found.1)

-- and the other way round
counted_access : (t w word : ℕ) (kind : Kind) (cover : List ℕ) (b : Bool) → counts (cond b Nothing (Counted t kind word cover)) w ≡ true → b ≡ false
unfolding counts
counted_access t w word kind cover true counted = cc
counted_access t w word kind cover false counted = refl

reported_event : (steps : List Step) (k w : ℕ) (s : Step) (e : Event) → slice_get steps k ≡ Some s → s.event ≡ e → word_of (Some (record { thread = s.thread; event = e })) ≡ Some w →
    counts (mark (accepted steps k) s.thread e) w ≡ true → reported (reading_of steps) w k ≡ true → answer_to steps k (Some (record { thread = s.thread; event = e })) ≡ Ok Race
unfolding reply mark refusal
reported_event steps k w s (Access kind word site) is event access counted there =
    let same : word ≡ w = some_injective word w access in
    let heeds = counted_access s.thread w word kind (covering (accepted steps k) s.thread kind) (is_ignoring (accepted steps k) s.thread) counted in
    rw (heeds, same, there) refl
reported_event steps k w s (Show word) is event access counted there = cc
reported_event steps k w s (Acquire l m) is event access counted there = cc
reported_event steps k w s (Release l m) is event access counted there = cc
reported_event steps k w s (Reuse range) is event access counted there = cc
reported_event steps k w s IgnoreOn is event access counted there = cc
reported_event steps k w s IgnoreOff is event access counted there = cc
reported_event steps k w s (Level n) is event access counted there = cc
reported_event steps k w s (Sync sync) is event access counted there = cc

reported_at : (steps : List Step) (k w : ℕ) (o : Option Step) → slice_get steps k ≡ o → word_of (slice_get steps k) ≡ Some w →
    counts (reading_of steps k) w ≡ true → reported (reading_of steps) w k ≡ true → answer steps k ≡ Ok Race
unfolding answer reading_of
reported_at steps k w None is access counted there = let never : word_of None ≡ Some w = rw is at access in cc
reported_at steps k w (Some s) is access counted there =
    rw is (reported_event steps k w s s.event is refl (rw is at access) (rw is at counted) there)

pub explained-race : (steps : List Step) (k : ℕ) (e : Explanation) → Explains steps e k → answer steps k ≡ Ok Race
explained-race steps k e is =
    let counted = ends-counted (reading_of steps) is.0 k e is.2 in
    reported_at steps k is.0 (slice_get steps k) refl is.1 counted (explained-reported (reading_of steps) is.0 k counted e is.2)

pub explains-unique : (steps : List Step) (k : ℕ) (e f : Explanation) → Explains steps e k → Explains steps f k →
    IsRising (locks_listed e.uncovered) → IsRising (locks_listed f.uncovered) → e ≡ f
explains-unique steps k e f a b up_e up_f =
    let same : a.0 ≡ b.0 = some_injective a.0 b.0 (sym a.1 ∙ b.1) in
    explanation-unique (reading_of steps) a.0 k e f a.2 (rw same b.2) up_e up_f

-- locks that are listed in rising order are listed once each
pub listed-rising : (xs : List (ℕ × ℕ)) (l : ℕ) → IsRising (locks_listed xs) → times_listed xs l ≡ cond (has (locks_listed xs) l) 1 0
listed-rising xs l up = listed-count xs l ∙ rising-once (locks_listed xs) l up

-- and the order of two pairs doesn't matter
pub listed-swapped : (x y : ℕ × ℕ) (l : ℕ) → times_listed (x ∷ y ∷ []) l ≡ times_listed (y ∷ x ∷ []) l
listed-swapped x y l = omega (arith, times-next x (y ∷ []) l, times-next y [] l, times-next y (x ∷ []) l, times-next x [] l)

-- the parts of an explanation of an access of this word
pub access-explained : (steps : List Step) (k w : ℕ) (e : Explanation) → word_of (slice_get steps k) ≡ Some w → Explains steps e k → ExplainsAccess (reading_of steps) w e k
access-explained steps k w e access is =
    let same : is.0 ≡ w = some_injective is.0 w (sym is.1 ∙ access) in
    rw same at is.2
