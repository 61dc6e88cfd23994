-- The definitions that search, in the words of quantifiers.
use Rattle.std.proofs.Common.{◌≡◌, ℕ, zero, suc, ◌<◌, ◌≤◌, ◌==◌, nat_le, cond, Bool, true, false, ◌&&◌, ◌||◌, not, List, [], ◌∷◌, ◌↔◌, ◌⊎◌, slice_get, Option, Some, None, refl, ap, sym, ◌∙◌, arith, ⊎_elim, inl, inr}
use Rattle.std.proofs.lemmas.Bool.{le-leb, leb-true, ltb-true, lt-ltb, eqb-true, eq-eqb, or_left, or_right, and_parts, and_from, or_cases, not-true, both_ways, or_parts, or_from, not_from_false}
use Rattle.std.specs.List.{list_any}
use Rattle.er_event.specs.declared.steps.Event.{Event}
use Rattle.er_event.specs.declared.steps.Event.TheVariants.{Acquire, Release, Access, Reuse, IgnoreOn, IgnoreOff, Show, Level, Sync}
use Rattle.er_event.specs.declared.steps.Mode.{Mode}
use Rattle.er_event.specs.declared.steps.Mode.TheVariants.{Read, Write}
use Rattle.er_event.specs.declared.steps.Step.{Step}
use Rattle.er_event.specs.Lockset.{level_base, level_lock, is_level_lock, has}
use Rattle.er_model.specs.Threads.{same_mode, acquires, releases, acquired, level_after, level_from, level_of, is_up_to_level, holds}
use Rattle.er_model.specs.Search.{some_below, every_below, or_next, least_below}
use Rattle.er_model.specs.Words.{Reading, reuses, counts, thread_of, writes, cover_of, is_empty, era, counted_from, first, join, first_other_than, covers_from, candidates, written}
use Rattle.er_model.proofs.Search.{least_below-none, least_below-Some, least_below-first, below_or_at}
use Rattle.er_model.proofs.Words.{era-below, era-kept, era-reused, candidates-joined, written-joined}
use Rattle.er_event.proofs.LocksetLemmas.{has-filtered}

at_once : (a b : Bool) → a ≡ true → (not a || b) ≡ true → b ≡ true
at_once true b e h = h
at_once false b e h = cc

unless : (a b : Bool) → (a ≡ true → b ≡ true) → (not a || b) ≡ true
unless true b h = h refl
unless false b h = refl

pub some_below-found : (n : ℕ) (p : ℕ → Bool) → some_below n p ≡ true → (k : ℕ) × (k < n) × (p k ≡ true)
unfolding some_below
some_below-found zero p e = cc
some_below-found (suc n) p e =
    ⊎_elim (λ before. let found = some_below-found n p before in (found.0, omega arith, found.2)) (λ here. (n, omega arith, here)) (or_cases (some_below n p) (p n) e)

pub some_below-from : (n : ℕ) (p : ℕ → Bool) (k : ℕ) → k < n → p k ≡ true → some_below n p ≡ true
unfolding some_below
some_below-from zero p k below e = absurd (omega arith)
some_below-from (suc n) p k below e =
    ⊎_elim (λ before. or_left (some_below n p) (p n) (some_below-from n p k before e)) (λ here. or_right (some_below n p) (p n) (rw here at e)) (below_or_at k n below)

pub every_below-at : (n : ℕ) (p : ℕ → Bool) → every_below n p ≡ true → (k : ℕ) → k < n → p k ≡ true
unfolding every_below
every_below-at zero p e k below = absurd (omega arith)
every_below-at (suc n) p e k below =
    let parts = and_parts (every_below n p) (p n) e in
    ⊎_elim (λ before. every_below-at n p parts.0 k before) (λ here. rw here parts.1) (below_or_at k n below)

pub every_below-from : (n : ℕ) (p : ℕ → Bool) → ((k : ℕ) → k < n → p k ≡ true) → every_below n p ≡ true
unfolding every_below
every_below-from zero p h = refl
every_below-from (suc n) p h = and_from (every_below n p) (p n) (every_below-from n p (λ k below. h k (omega arith))) (h n (omega arith))

least_step : (n : ℕ) (p : ℕ → Bool) (k : ℕ) → (k < n) ⊎ (k ≡ n) → p k ≡ true → ((i : ℕ) → i < k → p i ≡ false) →
    (k < n → least_below n p ≡ Some k) → or_next (least_below n p) (p n) n ≡ Some k
least_step n p k (inl below) e none rest = rw (rest below) refl
least_step n p k (inr here) e none rest =
    let passes : p n ≡ true = rw (← here) e in
    rw (least_below-none n p (λ i low. none i (omega arith)), passes, here) refl

least_below-from : (n : ℕ) (p : ℕ → Bool) (k : ℕ) → k < n → p k ≡ true → ((i : ℕ) → i < k → p i ≡ false) → least_below n p ≡ Some k
unfolding least_below
least_below-from zero p k below e none = absurd (omega arith)
least_below-from (suc n) p k below e none = least_step n p k (below_or_at k n below) e none (λ low. least_below-from n p k low e none)

pub some_below-means : (n : ℕ) (p : ℕ → Bool) → (some_below n p ≡ true) ↔ ((k : ℕ) × (k < n) × (p k ≡ true))
some_below-means n p = (some_below-found n p, (λ found. some_below-from n p found.0 found.1 found.2))

pub every_below-means : (n : ℕ) (p : ℕ → Bool) → (every_below n p ≡ true) ↔ ((k : ℕ) → k < n → p k ≡ true)
every_below-means n p = (every_below-at n p, every_below-from n p)

pub least_below-means : (n : ℕ) (p : ℕ → Bool) (k : ℕ) → (least_below n p ≡ Some k) ↔ ((k < n) × (p k ≡ true) × ((i : ℕ) → i < k → p i ≡ false))
least_below-means n p k = (
  (λ e. let found = least_below-Some n p k e in (found.0, found.1, least_below-first n p k e)),
  (λ found. least_below-from n p k found.0 found.1 found.2),
)

-- a position is in the era exactly where it is above every reuse of the word before the point
era-above_step : (r : Reading) (w n k : ℕ) (b : Bool) → reuses (r n) w ≡ b → era r w (suc n) ≤ k →
    (era r w n ≤ k → (j : ℕ) → j < n → reuses (r j) w ≡ true → j < k) → (j : ℕ) → j < suc n → reuses (r j) w ≡ true → j < k
era-above_step r w n k true here low rest j below reused = omega (arith, era-reused r w n here)
era-above_step r w n k false kept low rest j below reused =
    ⊎_elim
    (λ before. rest (omega (arith, era-kept r w n kept)) j before reused)
    (λ same. let no' = rw (← same) at kept in absurd (both_ways (reuses (r j) w) no' reused))
    (below_or_at j n below)

era-above : (r : Reading) (w n k : ℕ) → era r w n ≤ k → (j : ℕ) → j < n → reuses (r j) w ≡ true → j < k
era-above r w zero k low j below reused = absurd (omega arith)
era-above r w (suc n) k low j below reused = era-above_step r w n k (reuses (r n) w) refl low (λ low'. era-above r w n k low') j below reused

era-from_step : (r : Reading) (w n k : ℕ) (b : Bool) → reuses (r n) w ≡ b → ((j : ℕ) → j < suc n → reuses (r j) w ≡ true → j < k) →
    era r w n ≤ k → era r w (suc n) ≤ k
era-from_step r w n k true here above rest = let low = above n (omega arith) here in omega (arith, era-reused r w n here)
era-from_step r w n k false kept above rest = omega (arith, era-kept r w n kept)

era-from : (r : Reading) (w n k : ℕ) → ((j : ℕ) → j < n → reuses (r j) w ≡ true → j < k) → era r w n ≤ k
era-from r w zero k above = omega (arith, era-below r w 0)
era-from r w (suc n) k above =
    era-from_step r w n k (reuses (r n) w) refl above (era-from r w n k (λ j below reused. above j (omega arith) reused))

pub era-means : (r : Reading) (w n k : ℕ) → (era r w n ≤ k) ↔ ((j : ℕ) → j < n → reuses (r j) w ≡ true → j < k)
era-means r w n k = (era-above r w n k, era-from r w n k)

-- the first one and the joining are the least of their kind
counted_parts : (r : Reading) (w s k : ℕ) → counted_from r w s k ≡ true → (s ≤ k) × (counts (r k) w ≡ true)
counted_parts r w s k e = let parts = and_parts (nat_le s k) (counts (r k) w) e in (leb-true s k parts.0, parts.1)

pub counted_at : (r : Reading) (w s k : ℕ) → s ≤ k → counts (r k) w ≡ true → counted_from r w s k ≡ true
counted_at r w s k low e = and_from (nat_le s k) (counts (r k) w) (le-leb s k low) e

-- a lock is a candidate exactly where it covers every counted position from the joining on
covers_means : (r : Reading) (w n j l : ℕ) →
    (covers_from r w n j l ≡ true) ↔ ((k : ℕ) → j ≤ k → k < n → counts (r k) w ≡ true → has (cover_of (r k)) l ≡ true)
covers_means r w n j l = (
  (λ e k low below counted. at_once (counted_from r w j k) (has (cover_of (r k)) l) (counted_at r w j k low counted) (every_below-at n (λ i. not (counted_from r w j i) || has (cover_of (r i)) l) e k below)),
  (λ h. every_below-from n (λ i. not (counted_from r w j i) || has (cover_of (r i)) l) (λ k below. unless (counted_from r w j k) (has (cover_of (r k)) l) (λ counted. let parts = counted_parts r w j k counted in h k parts.0 below parts.1))),
)

-- the joining is itself a counted access, below the point and in the era
join-counted_by : (r : Reading) (w n j : ℕ) (f : Option ℕ) → first_other_than r w n f ≡ Some j → (j < n) × (counted_from r w (era r w n) j ≡ true)
join-counted_by r w n j None never = cc
join-counted_by r w n j (Some f) here =
    let found = least_below-Some n (λ k. counted_from r w (era r w n) k && not (thread_of (r f) == thread_of (r k))) j here in
    (found.0, (and_parts (counted_from r w (era r w n) j) (not (thread_of (r f) == thread_of (r j))) found.1).0)

pub join-counted : (r : Reading) (w n j : ℕ) → join r w n ≡ Some j → (j < n) × (counted_from r w (era r w n) j ≡ true)
unfolding join
join-counted r w n j here = join-counted_by r w n j (first r w n) here

pub candidates-mean : (r : Reading) (w n j l : ℕ) → join r w n ≡ Some j →
    (has (candidates r w n) l ≡ true) ↔ ((k : ℕ) → j ≤ k → k < n → counts (r k) w ≡ true → has (cover_of (r k)) l ≡ true)
candidates-mean r w n j l here =
    let is = ap (λ xs. has xs l) (candidates-joined r w n j here) ∙ has-filtered (covers_from r w n j) (cover_of (r j)) l in
    let at_join = join-counted r w n j here in
    let counted = (counted_parts r w (era r w n) j at_join.1).1 in (
      (λ member. (covers_means r w n j l).0 (and_parts (covers_from r w n j l) (has (cover_of (r j)) l) (sym is ∙ member)).0),
      (λ covers. is ∙ and_from (covers_from r w n j l) (has (cover_of (r j)) l) ((covers_means r w n j l).1 covers) (covers j (omega arith) at_join.0 counted)),
    )

-- written exactly where a counted write stands at the joining or after it
pub written-means : (r : Reading) (w n j : ℕ) → join r w n ≡ Some j →
    (written r w n ≡ true) ↔ ((k : ℕ) × (j ≤ k) × (k < n) × (counts (r k) w ≡ true) × (writes (r k) ≡ true))
written-means r w n j here =
    let is = written-joined r w n j here in (
      (λ wrote. let found = some_below-found n (λ k. counted_from r w j k && writes (r k)) (sym is ∙ wrote) in
          let parts = and_parts (counted_from r w j found.0) (writes (r found.0)) found.2 in
          let counted = counted_parts r w j found.0 parts.0 in
          (found.0, counted.0, found.1, counted.1, parts.1)),
      (λ found. is ∙ some_below-from n (λ k. counted_from r w j k && writes (r k)) found.0 found.2 (and_from (counted_from r w j found.0) (writes (r found.0)) (counted_at r w j found.0 found.1 found.3) found.4)),
    )

-- an empty list is one with no lock
pub is_empty-means : (xs : List ℕ) → (is_empty xs ≡ true) ↔ ((l : ℕ) → has xs l ≡ false)
is_empty-means [] = ((λ e l. refl), (λ h. refl))
is_empty-means (x ∷ xs) = ((λ e. cc), (λ h. absurd (both_ways (x == x || has xs x) (h x) (or_left (x == x) (has xs x) (eq-eqb x x refl)))))

some_injective : (x y : Step) → slice_get (x ∷ []) 0 ≡ Some y → x ≡ y
some_injective x y is = cc

-- an element that stands in a list passes the test of none
none_at : (p : Step → Bool) (xs : List Step) (j : ℕ) (x : Step) → list_any p xs ≡ false → slice_get xs j ≡ Some x → p x ≡ false
none_at p [] j x none is = cc
none_at p (y ∷ ys) zero x none is = let same : y ≡ x = some_injective y x is in rw (← same) (or_parts (p y) (list_any p ys) none).0
none_at p (y ∷ ys) (suc j) x none is = none_at p ys j x (or_parts (p y) (list_any p ys) none).1 is

none_from : (p : Step → Bool) (xs : List Step) → ((j : ℕ) (x : Step) → slice_get xs j ≡ Some x → p x ≡ false) → list_any p xs ≡ false
none_from p [] h = refl
none_from p (y ∷ ys) h = or_from (p y) (list_any p ys) (h 0 y refl) (none_from p ys (λ j x is. h (suc j) x is))

behind : (s : Step) (later : List Step) (t l : ℕ) → list_any (releases t l) later ≡ false →
    (j : ℕ) (x : Step) → 0 < j → slice_get (s ∷ later) j ≡ Some x → releases t l x ≡ false
behind s later t l none zero x above is = absurd (omega arith)
behind s later t l none (suc j) x above is = none_at (releases t l) later j x none is

further : (s : Step) (later : List Step) (t l i : ℕ) → ((j : ℕ) (x : Step) → i < j → slice_get later j ≡ Some x → releases t l x ≡ false) →
    (j : ℕ) (x : Step) → suc i < j → slice_get (s ∷ later) j ≡ Some x → releases t l x ≡ false
further s later t l i clear zero x above is = absurd (omega arith)
further s later t l i clear (suc j) x above is = clear j x (omega arith) is

-- a lock is acquired exactly where some acquire of it has no release behind it, by their places
abbrev pub HasAcquire : List Step → ℕ → ℕ → Mode → Type 0
HasAcquire past t l m =
    (i : ℕ) × (s : Step) × (slice_get past i ≡ Some s) × (acquires t l m s ≡ true) × ((j : ℕ) (x : Step) → i < j → slice_get past j ≡ Some x → releases t l x ≡ false)

acquired-found : (past : List Step) (t l : ℕ) (m : Mode) → acquired past t l m ≡ true → HasAcquire past t l m
unfolding acquired
acquired-found [] t l m e = cc
acquired-found (s ∷ later) t l m e =
    ⊎_elim
    (λ here. let parts = and_parts (acquires t l m s) (not (list_any (releases t l) later)) here in
    (0, s, refl, parts.0, behind s later t l (not-true (list_any (releases t l) later) parts.1)))
    (λ there. let found = acquired-found later t l m there in
    (suc found.0, found.1, found.2, found.3, further s later t l found.0 found.4))
    (or_cases (acquires t l m s && not (list_any (releases t l) later)) (acquired later t l m) e)

acquired-from : (past : List Step) (t l : ℕ) (m : Mode) (i : ℕ) (s : Step) → slice_get past i ≡ Some s → acquires t l m s ≡ true →
    ((j : ℕ) (x : Step) → i < j → slice_get past j ≡ Some x → releases t l x ≡ false) → acquired past t l m ≡ true
unfolding acquired
acquired-from [] t l m i s is gets clear = cc
acquired-from (y ∷ later) t l m zero s is gets clear =
    or_left (acquires t l m y && not (list_any (releases t l) later)) (acquired later t l m)
    (and_from (acquires t l m y) (not (list_any (releases t l) later))
    (rw (some_injective y s is) gets)
    (not_from_false (list_any (releases t l) later) (none_from (releases t l) later (λ j x at. clear (suc j) x (omega arith) at))))
acquired-from (y ∷ later) t l m (suc i) s is gets clear =
    or_right (acquires t l m y && not (list_any (releases t l) later)) (acquired later t l m)
    (acquired-from later t l m i s is gets (λ j x above at. clear (suc j) x (omega arith) at))

pub acquired-means : (past : List Step) (t l : ℕ) (m : Mode) → (acquired past t l m ≡ true) ↔ HasAcquire past t l m
acquired-means past t l m = (acquired-found past t l m, (λ found. acquired-from past t l m found.0 found.1 found.2 found.3 found.4))

-- a level lock is held to write up to the level
level_parts : (n l : ℕ) (m : Mode) → (same_mode m Write && is_up_to_level n l) ≡ true → (m ≡ Write) × (level_lock 0 < l) × (l ≤ level_lock n)
level_parts n l Read e = cc
level_parts n l Write e =
    let parts = and_parts (is_level_lock l) (nat_le l (level_lock n)) e in
    (refl, omega (arith, ltb-true level_base l parts.0), leb-true l (level_lock n) parts.1)

level_whole : (n l : ℕ) (m : Mode) → m ≡ Write → level_lock 0 < l → l ≤ level_lock n → (same_mode m Write && is_up_to_level n l) ≡ true
level_whole n l Read e low high = cc
level_whole n l Write e low high = and_from (is_level_lock l) (nat_le l (level_lock n)) (lt-ltb level_base l (omega (arith, low))) (le-leb l (level_lock n) high)

pub holds-means : (past : List Step) (t l : ℕ) (m : Mode) →
    (holds past t l m ≡ true) ↔ ((acquired past t l m ≡ true) ⊎ ((m ≡ Write) × (level_lock 0 < l) × (l ≤ level_lock (level_of past t))))
unfolding holds
holds-means past t l m = (
  (λ here. ⊎_elim (λ got. inl got) (λ raised. inr (level_parts (level_of past t) l m raised)) (or_cases (acquired past t l m) (same_mode m Write && is_up_to_level (level_of past t) l) here)),
  (λ one.
      ⊎_elim
      (λ got. or_left (acquired past t l m) (same_mode m Write && is_up_to_level (level_of past t) l) got)
      (λ raised. or_right (acquired past t l m) (same_mode m Write && is_up_to_level (level_of past t) l) (level_whole (level_of past t) l m raised.0 raised.1 raised.2))
      one),
)

-- the level is the one that was set last
level_same : (level t : ℕ) (e : Event) → ((m : ℕ) → e ≡ Level m → ⊥) → level_after level e ≡ level
level_same level t (Level n) none = absurd (none n refl)
level_same level t (Sync sync) none = refl
level_same level t (Acquire l m) none = refl
level_same level t (Release l m) none = refl
level_same level t (Access kind w site) none = refl
level_same level t (Reuse range) none = refl
level_same level t IgnoreOn none = refl
level_same level t IgnoreOff none = refl
level_same level t (Show w) none = refl

abbrev sets : ℕ → ℕ → Step
sets t m = record { thread = t; event = Level m }

level_kept_by : (level t : ℕ) (s : Step) (b : Bool) → (s.thread == t) ≡ b → ((m : ℕ) → s ≡ sets t m → ⊥) → cond b (level_after level s.event) level ≡ level
level_kept_by level t s true own none =
    level_same level t s.event (λ m is. let mine : s.thread ≡ t = eqb-true s.thread t own in none m (λ i. record { thread = mine i; event = is i }))
level_kept_by level t s false other none = refl

level-kept : (level : ℕ) (past : List Step) (t : ℕ) → ((j m : ℕ) → slice_get past j ≡ Some (sets t m) → ⊥) → level_from level past t ≡ level
unfolding level_from
level-kept level [] t none = refl
level-kept level (s ∷ later) t none =
    rw (level_kept_by level t s (s.thread == t) refl (λ m is. none 0 m (ap Some is)))
    (level-kept level later t (λ j m is. none (suc j) m is))

pub level-none : (past : List Step) (t : ℕ) → ((j m : ℕ) → slice_get past j ≡ Some (sets t m) → ⊥) → level_of past t ≡ 0
unfolding level_of
level-none past t none = level-kept 0 past t none

level-last_from : (level : ℕ) (past : List Step) (t i n : ℕ) → slice_get past i ≡ Some (sets t n) →
    ((j m : ℕ) → i < j → slice_get past j ≡ Some (sets t m) → ⊥) → level_from level past t ≡ n
unfolding level_from
level-last_from level [] t i n is none = cc
level-last_from level (s ∷ later) t zero n is none =
    let here : s ≡ sets t n = some_injective s (sets t n) is in
    rw (here, eq-eqb t t refl) (level-kept n later t (λ j m at. none (suc j) m (omega arith) at))
level-last_from level (s ∷ later) t (suc i) n is none =
    level-last_from (cond (s.thread == t) (level_after level s.event) level) later t i n is (λ j m above at. none (suc j) m (omega arith) at)

pub level-last : (past : List Step) (t i n : ℕ) → slice_get past i ≡ Some (sets t n) →
    ((j m : ℕ) → i < j → slice_get past j ≡ Some (sets t m) → ⊥) → level_of past t ≡ n
unfolding level_of
level-last past t i n is none = level-last_from 0 past t i n is none
