-- How a thread's locks, level and depth at one point follow from those at the point before.
use Rattle.std.proofs.Common.{◌≡◌, ℕ, zero, suc, ◌+◌, ◌-◌, ◌≤◌, Bool, true, false, ◌&&◌, ◌||◌, not, cond, ◌==◌, nat_le, List, [], ◌∷◌, ◌++◌, length, slice_get, zero-add, append-nil, Option, Some, None, refl, ap, sym, ◌∙◌, arith, ⊎_elim}
use Rattle.std.proofs.lemmas.Bool.{eqb-true, eqb-false, or_left, or_right, or_cases, and_parts}
use Rattle.std.proofs.lemmas.List.Folds.{list_any-append}
use Rattle.std.proofs.lemmas.List.Sums.{sum_by-append}
use Rattle.std.specs.List.{list_any, count_by}
use Rattle.er_event.specs.declared.steps.Event.{Event}
use Rattle.er_event.specs.declared.steps.Event.TheVariants.{Acquire, Release, Access, Reuse, IgnoreOn, IgnoreOff, Show, Level, Sync}
use Rattle.er_event.specs.declared.steps.Mode.{Mode}
use Rattle.er_event.specs.declared.steps.Mode.TheVariants.{Read, Write}
use Rattle.er_event.specs.declared.refusals.Refusal.{Refusal}
use Rattle.er_event.specs.declared.refusals.Refusal.TheVariants.{AlreadyHeld, NotHeld, WrongMode, IgnoreNotOn, HeldFull, LevelLock}
use Rattle.er_event.specs.declared.steps.Step.{Step}
use Rattle.er_event.specs.Lockset.{has, IsRising, is_level_lock, with_lock, level_locks, without_lock}
use Rattle.er_model.specs.Threads.{same_mode, other_mode, is_acquire, is_release, acquires, releases, acquired, acquired_any, level_after, level_from, level_of, is_up_to_level, holds, holds_any, lock_named, named, acquired_locks, acquired_to_write, held, write_held, ignore_ons, ignore_offs, is_ignore_on, is_ignore_off, refusal_if, depth, refusal, accepted}
use Rattle.er_model.specs.Holdings.{Holdings, holdings, at_level, acquired_among, refused_by, changed_by, changed_unless, after_step, holdings_at}
use Rattle.er_model.proofs.Levels.{HasNoLevelLock, has-levels, with-levels, without-levels, among-levels, rising-levels}
use Rattle.er_event.proofs.Bools.{itself, and_known}
use Rattle.er_event.proofs.LocksetLemmas.{same-rising, has-with_lock, rising-with_lock, has-filtered, rising-filter}

-- one more accepted step at the end
push_Bool : (A L R H Q : Bool) → ((A && not (L || (R || false))) || ((H && not R) || Q)) ≡ ((((A && not L) || H) && not R) || Q)
push_Bool true true R H Q = refl
push_Bool true false true true Q = refl
push_Bool true false true false Q = refl
push_Bool true false false H Q = refl
push_Bool false L R H Q = refl

first_Bool : (a b : Bool) → ((a && true) || false) ≡ ((false && not b) || a)
first_Bool true b = refl
first_Bool false b = refl

pub acquired-push : (p : List Step) (s : Step) (t l : ℕ) (m : Mode) → acquired (p ++ s ∷ []) t l m ≡ ((acquired p t l m && not (releases t l s)) || acquires t l m s)
unfolding acquired
acquired-push [] s t l m = first_Bool (acquires t l m s) (releases t l s)
acquired-push (x ∷ p) s t l m =
    rw (list_any-append (releases t l) p (s ∷ []), acquired-push p s t l m)
    (push_Bool (acquires t l m x) (list_any (releases t l) p) (releases t l s) (acquired p t l m) (acquires t l m s))

any_Bool : (r w R q v : Bool) → (((r && not R) || q) || ((w && not R) || v)) ≡ (((r || w) && not R) || (q || v))
any_Bool true true true q v = refl
any_Bool true true false q v = refl
any_Bool true false true q v = refl
any_Bool true false false q v = refl
any_Bool false true true true v = refl
any_Bool false true true false v = refl
any_Bool false true false true v = refl
any_Bool false true false false v = refl
any_Bool false false R true v = refl
any_Bool false false R false v = refl

pub acquired_any-push : (p : List Step) (s : Step) (t l : ℕ) → acquired_any (p ++ s ∷ []) t l ≡ ((acquired_any p t l && not (releases t l s)) || (acquires t l Read s || acquires t l Write s))
acquired_any-push p s t l =
    rw (acquired-push p s t l Read, acquired-push p s t l Write)
    (any_Bool (acquired p t l Read) (acquired p t l Write) (releases t l s) (acquires t l Read s) (acquires t l Write s))

-- a lock that is acquired is named
named_event : (e : Event) (l : ℕ) (m : Mode) (xs : List ℕ) → is_acquire e l m ≡ true → has (lock_named e xs) l ≡ true
named_event (Acquire lock mode) l m xs yes' =
    let parts = and_parts (lock == l) (same_mode mode m) yes' in
    has-with_lock lock xs l ∙ or_left (lock == l) (has xs l) parts.0
named_event (Release lock mode) l m xs never = cc
named_event (Access kind w site) l m xs never = cc
named_event (Reuse range) l m xs never = cc
named_event IgnoreOn l m xs never = cc
named_event IgnoreOff l m xs never = cc
named_event (Show w) l m xs never = cc
named_event (Level n) l m xs never = cc
named_event (Sync sync) l m xs never = cc

named_kept : (e : Event) (l : ℕ) (xs : List ℕ) → has xs l ≡ true → has (lock_named e xs) l ≡ true
named_kept (Acquire lock mode) l xs member = has-with_lock lock xs l ∙ or_right (lock == l) (has xs l) member
named_kept (Release lock mode) l xs member = member
named_kept (Access kind w site) l xs member = member
named_kept (Reuse range) l xs member = member
named_kept IgnoreOn l xs member = member
named_kept IgnoreOff l xs member = member
named_kept (Show w) l xs member = member
named_kept (Level n) l xs member = member
named_kept (Sync sync) l xs member = member

named-acquired : (p : List Step) (t l : ℕ) (m : Mode) → acquired p t l m ≡ true → has (named p) l ≡ true
unfolding acquired named acquires
named-acquired [] t l m never = cc
named-acquired (s ∷ p) t l m here =
    ⊎_elim
    (λ now. named_event s.event l m (named p) (and_parts (s.thread == t) (is_acquire s.event l m) (and_parts (acquires t l m s) (not (list_any (releases t l) p)) now).0).1)
    (λ later. named_kept s.event l (named p) (named-acquired p t l m later))
    (or_cases (acquires t l m s && not (list_any (releases t l) p)) (acquired p t l m) here)

rising_event : (e : Event) (xs : List ℕ) → IsRising xs → IsRising (lock_named e xs)
rising_event (Acquire lock mode) xs up = rising-with_lock lock xs up
rising_event (Release lock mode) xs up = up
rising_event (Access kind w site) xs up = up
rising_event (Reuse range) xs up = up
rising_event IgnoreOn xs up = up
rising_event IgnoreOff xs up = up
rising_event (Show w) xs up = up
rising_event (Level n) xs up = up
rising_event (Sync sync) xs up = up

pub rising-named : (p : List Step) → IsRising (named p)
unfolding named
rising-named [] = tt
rising-named (s ∷ p) = rising_event s.event (named p) (rising-named p)

pub rising-acquired : (p : List Step) (t : ℕ) → IsRising (acquired_locks p t)
unfolding acquired_locks
rising-acquired p t = rising-filter (acquired_any p t) (named p) (rising-named p)

pub rising-acquired_to_write : (p : List Step) (t : ℕ) → IsRising (acquired_to_write p t)
unfolding acquired_to_write
rising-acquired_to_write p t = rising-filter (λ l. acquired p t l Write) (named p) (rising-named p)

-- the lists have exactly the locks that are acquired
pub has-acquired_to_write : (p : List Step) (t l : ℕ) → has (acquired_to_write p t) l ≡ acquired p t l Write
unfolding acquired_to_write
has-acquired_to_write p t l =
    has-filtered (λ x. acquired p t x Write) (named p) l
    ∙ and_known (acquired p t l Write) (has (named p) l) (named-acquired p t l Write)

pub has-acquired : (p : List Step) (t l : ℕ) → has (acquired_locks p t) l ≡ acquired_any p t l
unfolding acquired_locks
has-acquired p t l =
    has-filtered (acquired_any p t) (named p) l
    ∙ and_known (acquired_any p t l) (has (named p) l)
    (λ some. ⊎_elim (named-acquired p t l Read) (named-acquired p t l Write) (or_cases (acquired p t l Read) (acquired p t l Write) some))

-- what an event of the thread's own makes of a list of its locks
keep_Bool : (h : Bool) → h ≡ ((h && true) || (false || false))
keep_Bool true = refl
keep_Bool false = refl

add_Bool : (e h : Bool) → (e || h) ≡ ((h && true) || ((e && true) || (e && false)))
add_Bool true true = refl
add_Bool true false = refl
add_Bool false true = refl
add_Bool false false = refl

add_other_Bool : (e h : Bool) → (e || h) ≡ ((h && true) || ((e && false) || (e && true)))
add_other_Bool true true = refl
add_other_Bool true false = refl
add_other_Bool false true = refl
add_other_Bool false false = refl

drop_Bool : (e h : Bool) → (not e && h) ≡ ((h && not e) || (false || false))
drop_Bool true true = refl
drop_Bool true false = refl
drop_Bool false true = refl
drop_Bool false false = refl

pub has-without_lock : (l : ℕ) (xs : List ℕ) (k : ℕ) → has (without_lock l xs) k ≡ (not (l == k) && has xs k)
unfolding without_lock
has-without_lock l xs k = has-filtered (λ x. not (l == x)) xs k

pub rising-without_lock : (l : ℕ) (xs : List ℕ) → IsRising xs → IsRising (without_lock l xs)
unfolding without_lock
rising-without_lock l xs up = rising-filter (λ x. not (l == x)) xs up

-- what an event makes of the locks that its thread has acquired, in any mode and in write mode
abbrev pub acquired_by : Event → List ℕ → List ℕ
acquired_by (Acquire l m) xs = with_lock l xs
acquired_by (Release l m) xs = without_lock l xs
acquired_by _ xs = xs

abbrev pub acquired_to_write_by : Event → List ℕ → List ℕ
acquired_to_write_by (Acquire l Write) xs = with_lock l xs
acquired_to_write_by (Release l m) xs = without_lock l xs
acquired_to_write_by _ xs = xs

acquired-changed : (e : Event) (xs : List ℕ) (k : ℕ) →
    has (acquired_by e xs) k ≡ ((has xs k && not (is_release e k)) || (is_acquire e k Read || is_acquire e k Write))
acquired-changed (Acquire l Read) xs k = has-with_lock l xs k ∙ add_Bool (l == k) (has xs k)
acquired-changed (Acquire l Write) xs k = has-with_lock l xs k ∙ add_other_Bool (l == k) (has xs k)
acquired-changed (Release l m) xs k = has-without_lock l xs k ∙ drop_Bool (l == k) (has xs k)
acquired-changed (Access kind w site) xs k = keep_Bool (has xs k)
acquired-changed (Reuse range) xs k = keep_Bool (has xs k)
acquired-changed IgnoreOn xs k = keep_Bool (has xs k)
acquired-changed IgnoreOff xs k = keep_Bool (has xs k)
acquired-changed (Show w) xs k = keep_Bool (has xs k)
acquired-changed (Level n) xs k = keep_Bool (has xs k)
acquired-changed (Sync sync) xs k = keep_Bool (has xs k)

keep_one : (h : Bool) → h ≡ ((h && true) || false)
keep_one true = refl
keep_one false = refl

add_one_Bool : (e h : Bool) → (e || h) ≡ ((h && true) || (e && true))
add_one_Bool true true = refl
add_one_Bool true false = refl
add_one_Bool false true = refl
add_one_Bool false false = refl

skip_one_Bool : (e h : Bool) → h ≡ ((h && true) || (e && false))
skip_one_Bool true true = refl
skip_one_Bool true false = refl
skip_one_Bool false true = refl
skip_one_Bool false false = refl

drop_one_Bool : (e h : Bool) → (not e && h) ≡ ((h && not e) || false)
drop_one_Bool true true = refl
drop_one_Bool true false = refl
drop_one_Bool false true = refl
drop_one_Bool false false = refl

acquired_to_write-changed : (e : Event) (xs : List ℕ) (k : ℕ) →
    has (acquired_to_write_by e xs) k ≡ ((has xs k && not (is_release e k)) || is_acquire e k Write)
acquired_to_write-changed (Acquire l Read) xs k = skip_one_Bool (l == k) (has xs k)
acquired_to_write-changed (Acquire l Write) xs k = has-with_lock l xs k ∙ add_one_Bool (l == k) (has xs k)
acquired_to_write-changed (Release l m) xs k = has-without_lock l xs k ∙ drop_one_Bool (l == k) (has xs k)
acquired_to_write-changed (Access kind w site) xs k = keep_one (has xs k)
acquired_to_write-changed (Reuse range) xs k = keep_one (has xs k)
acquired_to_write-changed IgnoreOn xs k = keep_one (has xs k)
acquired_to_write-changed IgnoreOff xs k = keep_one (has xs k)
acquired_to_write-changed (Show w) xs k = keep_one (has xs k)
acquired_to_write-changed (Level n) xs k = keep_one (has xs k)
acquired_to_write-changed (Sync sync) xs k = keep_one (has xs k)

rising-changed : (e : Event) (xs : List ℕ) → IsRising xs → IsRising (acquired_by e xs)
rising-changed (Acquire l m) xs up = rising-with_lock l xs up
rising-changed (Release l m) xs up = rising-without_lock l xs up
rising-changed (Access kind w site) xs up = up
rising-changed (Reuse range) xs up = up
rising-changed IgnoreOn xs up = up
rising-changed IgnoreOff xs up = up
rising-changed (Show w) xs up = up
rising-changed (Level n) xs up = up
rising-changed (Sync sync) xs up = up

rising-to_write_changed : (e : Event) (xs : List ℕ) → IsRising xs → IsRising (acquired_to_write_by e xs)
rising-to_write_changed (Acquire l Read) xs up = up
rising-to_write_changed (Acquire l Write) xs up = rising-with_lock l xs up
rising-to_write_changed (Release l m) xs up = rising-without_lock l xs up
rising-to_write_changed (Access kind w site) xs up = up
rising-to_write_changed (Reuse range) xs up = up
rising-to_write_changed IgnoreOn xs up = up
rising-to_write_changed IgnoreOff xs up = up
rising-to_write_changed (Show w) xs up = up
rising-to_write_changed (Level n) xs up = up
rising-to_write_changed (Sync sync) xs up = up

-- the thread's own step
pub acquired-own : (p : List Step) (s : Step) (t : ℕ) → (s.thread == t) ≡ true → acquired_locks (p ++ s ∷ []) t ≡ acquired_by s.event (acquired_locks p t)
unfolding acquires releases
acquired-own p s t own =
    same-rising (acquired_locks (p ++ s ∷ []) t) (acquired_by s.event (acquired_locks p t)) (rising-acquired (p ++ s ∷ []) t)
    (rising-changed s.event (acquired_locks p t) (rising-acquired p t))
    (λ k. rw (has-acquired (p ++ s ∷ []) t k, acquired_any-push p s t k, acquired-changed s.event (acquired_locks p t) k, has-acquired p t k, own) refl)

pub acquired_to_write-own : (p : List Step) (s : Step) (t : ℕ) → (s.thread == t) ≡ true → acquired_to_write (p ++ s ∷ []) t ≡ acquired_to_write_by s.event (acquired_to_write p t)
unfolding acquires releases
acquired_to_write-own p s t own =
    same-rising (acquired_to_write (p ++ s ∷ []) t) (acquired_to_write_by s.event (acquired_to_write p t)) (rising-acquired_to_write (p ++ s ∷ []) t)
    (rising-to_write_changed s.event (acquired_to_write p t) (rising-acquired_to_write p t))
    (λ k. rw (has-acquired_to_write (p ++ s ∷ []) t k, acquired-push p s t k Write, acquired_to_write-changed s.event (acquired_to_write p t) k, has-acquired_to_write p t k, own) refl)

-- another thread's step
pub acquired-other : (p : List Step) (s : Step) (t : ℕ) → (s.thread == t) ≡ false → acquired_locks (p ++ s ∷ []) t ≡ acquired_locks p t
unfolding acquires releases
acquired-other p s t other =
    same-rising (acquired_locks (p ++ s ∷ []) t) (acquired_locks p t) (rising-acquired (p ++ s ∷ []) t) (rising-acquired p t)
    (λ k. rw (has-acquired (p ++ s ∷ []) t k, acquired_any-push p s t k, has-acquired p t k, other) (sym (keep_Bool (acquired_any p t k))))

pub acquired_to_write-other : (p : List Step) (s : Step) (t : ℕ) → (s.thread == t) ≡ false → acquired_to_write (p ++ s ∷ []) t ≡ acquired_to_write p t
unfolding acquires releases
acquired_to_write-other p s t other =
    same-rising (acquired_to_write (p ++ s ∷ []) t) (acquired_to_write p t) (rising-acquired_to_write (p ++ s ∷ []) t) (rising-acquired_to_write p t)
    (λ k. rw (has-acquired_to_write (p ++ s ∷ []) t k, acquired-push p s t k Write, has-acquired_to_write p t k, other) (sym (keep_one (acquired p t k Write))))

-- a thread's level after one more step
pub level-push : (level : ℕ) (p : List Step) (s : Step) (t : ℕ) → level_from level (p ++ s ∷ []) t ≡ cond (s.thread == t) (level_after (level_from level p t) s.event) (level_from level p t)
unfolding level_from
level-push level [] s t = refl
level-push level (x ∷ p) s t = level-push (cond (x.thread == t) (level_after level x.event) level) p s t

pub level-step : (p : List Step) (s : Step) (t : ℕ) → level_of (p ++ s ∷ []) t ≡ cond (s.thread == t) (level_after (level_of p t) s.event) (level_of p t)
unfolding level_of
level-step p s t = level-push 0 p s t

pub level-own : (p : List Step) (s : Step) (t : ℕ) → (s.thread == t) ≡ true → level_of (p ++ s ∷ []) t ≡ level_after (level_of p t) s.event
unfolding level_of
level-own p s t own = level-push 0 p s t ∙ rw own refl

pub level-other : (p : List Step) (s : Step) (t : ℕ) → (s.thread == t) ≡ false → level_of (p ++ s ∷ []) t ≡ level_of p t
unfolding level_of
level-other p s t other = level-push 0 p s t ∙ rw other refl

-- the lists of a thread's locks have exactly the locks that it holds
any_level_Bool : (r w v : Bool) → ((r || w) || v) ≡ ((r || false) || (w || v))
any_level_Bool true w v = refl
any_level_Bool false w v = refl

pub has-held : (p : List Step) (t l : ℕ) → has (held p t) l ≡ holds_any p t l
unfolding held holds
has-held p t l =
    list_any-append (λ x. x == l) (acquired_locks p t) (level_locks (level_of p t))
    ∙ rw (has-acquired p t l, has-levels (level_of p t) l)
    (any_level_Bool (acquired p t l Read) (acquired p t l Write) (is_up_to_level (level_of p t) l))

pub has-write_held : (p : List Step) (t l : ℕ) → has (write_held p t) l ≡ holds p t l Write
unfolding write_held holds
has-write_held p t l =
    list_any-append (λ x. x == l) (acquired_to_write p t) (level_locks (level_of p t))
    ∙ rw (has-acquired_to_write p t l, has-levels (level_of p t) l) refl

-- counts of ignore events
pub count-push : (f : Step → Bool) (p : List Step) (s : Step) → count_by f (p ++ s ∷ []) ≡ count_by f p + cond (f s) 1 0
count-push f p s =
    sum_by-append (λ x. cond (f x) 1 0) p (s ∷ []) ∙ ap (λ n. count_by f p + n) (zero-add (cond (f s) 1 0))

depth_event : (ons offs : ℕ) (h : Holdings) (e : Event) → h.depth ≡ ons - offs → offs ≤ ons →
    (ons + cond (is_ignore_on e) 1 0) - (offs + cond (is_ignore_off e) 1 0) ≡ (changed_by h e).depth
depth_event ons offs h (Acquire l Read) is fits = omega arith
depth_event ons offs h (Acquire l Write) is fits = omega arith
depth_event ons offs h (Release l m) is fits = omega arith
depth_event ons offs h (Access kind w site) is fits = omega arith
depth_event ons offs h (Reuse range) is fits = omega arith
depth_event ons offs h IgnoreOn is fits = omega arith
depth_event ons offs h IgnoreOff is fits = omega arith
depth_event ons offs h (Show w) is fits = omega arith
depth_event ons offs h (Level n) is fits = omega arith
depth_event ons offs h (Sync sync) is fits = omega arith

pub depth-own : (p : List Step) (s : Step) (t : ℕ) → ignore_offs p t ≤ ignore_ons p t → (s.thread == t) ≡ true →
    depth (p ++ s ∷ []) t ≡ (changed_by (holdings p t) s.event).depth
unfolding depth holdings
depth-own p s t fits own =
    rw (count-push (λ step. step.thread == t && is_ignore_on step.event) p s, count-push (λ step. step.thread == t && is_ignore_off step.event) p s, own)
    (depth_event (ignore_ons p t) (ignore_offs p t) (holdings p t) s.event refl fits)

pub depth-other : (p : List Step) (s : Step) (t : ℕ) → (s.thread == t) ≡ false → depth (p ++ s ∷ []) t ≡ depth p t
unfolding depth
depth-other p s t other =
    rw (count-push (λ step. step.thread == t && is_ignore_on step.event) p s, count-push (λ step. step.thread == t && is_ignore_off step.event) p s, other)
    (omega arith)

-- the accepted steps at the next point
pub accepted-past_end : (steps : List Step) (n : ℕ) → slice_get steps n ≡ None → accepted steps (suc n) ≡ accepted steps n
unfolding accepted
accepted-past_end steps n none = rw none (append-nil (accepted steps n))

pub accepted-refused : (steps : List Step) (n : ℕ) (s : Step) (why : Refusal) → slice_get steps n ≡ Some s →
    refusal (accepted steps n) s.thread s.event ≡ Some why → accepted steps (suc n) ≡ accepted steps n
unfolding accepted
accepted-refused steps n s why is no' = rw (is, no') (append-nil (accepted steps n))

pub accepted-taken : (steps : List Step) (n : ℕ) (s : Step) → slice_get steps n ≡ Some s →
    refusal (accepted steps n) s.thread s.event ≡ None → accepted steps (suc n) ≡ accepted steps n ++ s ∷ []
unfolding accepted
accepted-taken steps n s is taken = rw (is, taken) refl

module _ (P : List Step → Type 0) (none : P []) (more : (p : List Step) (s : Step) → P p → refusal p s.thread s.event ≡ None → P (p ++ s ∷ [])) (steps : List Step) where
  by_refusal : (n : ℕ) (s : Step) (o : Option Refusal) → slice_get steps n ≡ Some s → refusal (accepted steps n) s.thread s.event ≡ o → P (accepted steps n) → P (accepted steps (suc n))
  by_refusal n s None is taken before = rw (accepted-taken steps n s is taken) (more (accepted steps n) s before taken)
  by_refusal n s (Some why) is refused before = rw (accepted-refused steps n s why is refused) before

  by_step : (n : ℕ) (o : Option Step) → slice_get steps n ≡ o → P (accepted steps n) → P (accepted steps (suc n))
  by_step n None is before = rw (accepted-past_end steps n is) before
  by_step n (Some s) is before = by_refusal n s (refusal (accepted steps n) s.thread s.event) is refl before

  -- what each accepted step keeps holds of the accepted steps at every point
  pub always : (n : ℕ) → P (accepted steps n)
  unfolding accepted
  always zero = none
  always (suc n) = by_step n (slice_get steps n) refl (always n)

-- an ignore-off is accepted only after an ignore-on that is left
abbrev pub IsBalanced : List Step → Type 0
IsBalanced p = (t : ℕ) → ignore_offs p t ≤ ignore_ons p t

refusal_if-None : (b : Bool) (why : Refusal) → refusal_if b why ≡ None → b ≡ false
refusal_if-None true why e = cc
refusal_if-None false why e = refl

balanced_event : (p : List Step) (t : ℕ) (e : Event) → ignore_offs p t ≤ ignore_ons p t → refusal p t e ≡ None →
    ignore_offs p t + cond (is_ignore_off e) 1 0 ≤ ignore_ons p t + cond (is_ignore_on e) 1 0
unfolding refusal depth
balanced_event p t (Acquire l m) fits taken = omega arith
balanced_event p t (Release l m) fits taken = omega arith
balanced_event p t (Access kind w site) fits taken = omega arith
balanced_event p t (Reuse range) fits taken = omega arith
balanced_event p t IgnoreOn fits taken = omega arith
balanced_event p t IgnoreOff fits taken =
    let some : (depth p t ≡ 0) → ⊥ = eqb-false (depth p t) 0 (refusal_if-None (depth p t == 0) IgnoreNotOn taken) in
    omega arith
balanced_event p t (Show w) fits taken = omega arith
balanced_event p t (Level n) fits taken = omega arith
balanced_event p t (Sync sync) fits taken = omega arith

balanced_by : (p : List Step) (s : Step) (t : ℕ) (b : Bool) → (s.thread == t) ≡ b → IsBalanced p → refusal p s.thread s.event ≡ None →
    ignore_offs (p ++ s ∷ []) t ≤ ignore_ons (p ++ s ∷ []) t
balanced_by p s t true own fits taken =
    rw (count-push (λ step. step.thread == t && is_ignore_on step.event) p s, count-push (λ step. step.thread == t && is_ignore_off step.event) p s, own)
    (balanced_event p t s.event (fits t) (rw (eqb-true s.thread t own) at taken))
balanced_by p s t false other fits taken =
    rw (count-push (λ step. step.thread == t && is_ignore_on step.event) p s, count-push (λ step. step.thread == t && is_ignore_off step.event) p s, other)
    (let before = fits t in omega arith)

pub balanced : (steps : List Step) (n : ℕ) → IsBalanced (accepted steps n)
balanced steps n = always IsBalanced (λ t. omega arith) (λ p s fits taken t. balanced_by p s t (s.thread == t) refl fits taken) steps n

-- no lock is acquired in both modes
abbrev pub HasOneMode : List Step → Type 0
HasOneMode p = (t l : ℕ) → acquired p t l Read ≡ true → acquired p t l Write ≡ true → ⊥

taken_free : (b : Bool) (why : Refusal) (o : Option Refusal) → cond b (Some why) o ≡ None → b ≡ true → ⊥
taken_free true why o taken e = cc
taken_free false why o taken e = cc

taken_plain : (b : Bool) (o : Option Refusal) → cond b (Some LevelLock) o ≡ None → b ≡ false
taken_plain true o taken = cc
taken_plain false o taken = refl

-- what is acquired is held
holds_Bool : (r w a b : Bool) → (r || w) ≡ true → ((r || a) || (w || b)) ≡ true
holds_Bool true w a b e = refl
holds_Bool false true true b e = refl
holds_Bool false true false b e = refl
holds_Bool false false a b e = cc

holds-acquired : (p : List Step) (t l : ℕ) → acquired_any p t l ≡ true → holds_any p t l ≡ true
unfolding holds
holds-acquired p t l some = holds_Bool (acquired p t l Read) (acquired p t l Write) false (is_up_to_level (level_of p t) l) some

-- Mode by mode: r and w say whether the lock was acquired to read and to write
one_Bool : (r w R q v : Bool) → (q ≡ true → v ≡ true → ⊥) → (q ≡ true → w ≡ true → ⊥) → (v ≡ true → r ≡ true → ⊥) → (r ≡ true → w ≡ true → ⊥) →
    ((r && not R) || q) ≡ true → ((w && not R) || v) ≡ true → ⊥
one_Bool true true R q v qv qw vr rw' a b = rw' refl refl
one_Bool true false R q true qv qw vr rw' a b = vr refl refl
one_Bool true false R q false qv qw vr rw' a b = cc
one_Bool false true R true v qv qw vr rw' a b = qw refl refl
one_Bool false true R false v qv qw vr rw' a b = cc
one_Bool false false R true true qv qw vr rw' a b = qv refl refl
one_Bool false false R true false qv qw vr rw' a b = cc
one_Bool false false R false v qv qw vr rw' a b = cc

one_mode_event : (t l : ℕ) (e : Event) → is_acquire e l Read ≡ true → is_acquire e l Write ≡ true → ⊥
one_mode_event t l (Acquire lock Read) a b = let never = (and_parts (lock == l) false b).1 in cc
one_mode_event t l (Acquire lock Write) a b = let never = (and_parts (lock == l) false a).1 in cc
one_mode_event t l (Release lock m) a b = cc
one_mode_event t l (Access kind w site) a b = cc
one_mode_event t l (Reuse range) a b = cc
one_mode_event t l IgnoreOn a b = cc
one_mode_event t l IgnoreOff a b = cc
one_mode_event t l (Show w) a b = cc
one_mode_event t l (Level n) a b = cc
one_mode_event t l (Sync sync) a b = cc

-- an acquire that is accepted is of a lock that isn't acquired yet
acquire_free : (p : List Step) (t l : ℕ) (m : Mode) (e : Event) → refusal p t e ≡ None → is_acquire e l m ≡ true → acquired_any p t l ≡ true → ⊥
unfolding refusal
acquire_free p t l m (Acquire lock mode) taken is_it some =
    let is : lock ≡ l = eqb-true lock l (and_parts (lock == l) (same_mode mode m) is_it).0 in
    let plain = taken_plain (is_level_lock lock) (cond (holds_any p t lock) (Some AlreadyHeld) (refusal_if (nat_le 64 (length (acquired_locks p t))) HeldFull)) taken in
    taken_free (holds_any p t lock) AlreadyHeld (refusal_if (nat_le 64 (length (acquired_locks p t))) HeldFull) (rw plain at taken) (holds-acquired p t lock (rw is some))
acquire_free p t l m (Release lock mode) taken is_it some = cc
acquire_free p t l m (Access kind w site) taken is_it some = cc
acquire_free p t l m (Reuse range) taken is_it some = cc
acquire_free p t l m IgnoreOn taken is_it some = cc
acquire_free p t l m IgnoreOff taken is_it some = cc
acquire_free p t l m (Show w) taken is_it some = cc
acquire_free p t l m (Level n) taken is_it some = cc
acquire_free p t l m (Sync sync) taken is_it some = cc

one_mode_by : (p : List Step) (s : Step) (t l : ℕ) (b : Bool) → (s.thread == t) ≡ b → HasOneMode p → refusal p s.thread s.event ≡ None →
    acquired (p ++ s ∷ []) t l Read ≡ true → acquired (p ++ s ∷ []) t l Write ≡ true → ⊥
unfolding acquires releases
one_mode_by p s t l true own one taken a b =
    let here : refusal p t s.event ≡ None = rw (eqb-true s.thread t own) at taken in
    one_Bool (acquired p t l Read) (acquired p t l Write) (is_release s.event l) (is_acquire s.event l Read) (is_acquire s.event l Write)
    (one_mode_event t l s.event)
    (λ q w. acquire_free p t l Read s.event here q (or_right (acquired p t l Read) (acquired p t l Write) w))
    (λ v r. acquire_free p t l Write s.event here v (or_left (acquired p t l Read) (acquired p t l Write) r))
    (one t l)
    (rw (acquired-push p s t l Read, own) at a)
    (rw (acquired-push p s t l Write, own) at b)
one_mode_by p s t l false other one taken a b =
    one t l (rw (acquired-push p s t l Read, other, sym (keep_one (acquired p t l Read))) at a) (rw (acquired-push p s t l Write, other, sym (keep_one (acquired p t l Write))) at b)

pub one_mode : (steps : List Step) (n : ℕ) → HasOneMode (accepted steps n)
one_mode steps n = always HasOneMode (λ t l a b. unfold acquired in cc) (λ p s one taken t l. one_mode_by p s t l (s.thread == t) refl one taken) steps n

-- no level lock is acquired
abbrev pub AcquiresNoLevelLock : List Step → Type 0
AcquiresNoLevelLock p = (t l : ℕ) (m : Mode) → acquired p t l m ≡ true → is_level_lock l ≡ false

plain_event : (p : List Step) (t l : ℕ) (m : Mode) (e : Event) → refusal p t e ≡ None → is_acquire e l m ≡ true → is_level_lock l ≡ false
unfolding refusal
plain_event p t l m (Acquire lock mode) taken is_it =
    let is : lock ≡ l = eqb-true lock l (and_parts (lock == l) (same_mode mode m) is_it).0 in
    rw (← is) (taken_plain (is_level_lock lock) (cond (holds_any p t lock) (Some AlreadyHeld) (refusal_if (nat_le 64 (length (acquired_locks p t))) HeldFull)) taken)
plain_event p t l m (Release lock mode) taken is_it = cc
plain_event p t l m (Access kind w site) taken is_it = cc
plain_event p t l m (Reuse range) taken is_it = cc
plain_event p t l m IgnoreOn taken is_it = cc
plain_event p t l m IgnoreOff taken is_it = cc
plain_event p t l m (Show w) taken is_it = cc
plain_event p t l m (Level n) taken is_it = cc
plain_event p t l m (Sync sync) taken is_it = cc

plain_by : (p : List Step) (s : Step) (t l : ℕ) (m : Mode) → AcquiresNoLevelLock p → refusal p s.thread s.event ≡ None →
    acquired (p ++ s ∷ []) t l m ≡ true → is_level_lock l ≡ false
unfolding acquires
plain_by p s t l m plain taken now =
    ⊎_elim
    (λ before. plain t l m (and_parts (acquired p t l m) (not (releases t l s)) before).0)
    (λ here. plain_event p s.thread l m s.event taken (and_parts (s.thread == t) (is_acquire s.event l m) here).1)
    (or_cases (acquired p t l m && not (releases t l s)) (acquires t l m s) (sym (acquired-push p s t l m) ∙ now))

pub no_level_lock : (steps : List Step) (n : ℕ) → AcquiresNoLevelLock (accepted steps n)
no_level_lock steps n = always AcquiresNoLevelLock (λ t l m now. unfold acquired in cc) (λ p s plain taken t l m. plain_by p s t l m plain taken) steps n

-- so the lists of what a thread has acquired have none
acquired-plain : (p : List Step) (t : ℕ) → AcquiresNoLevelLock p → HasNoLevelLock (acquired_locks p t)
acquired-plain p t plain l member =
    ⊎_elim (plain t l Read) (plain t l Write) (or_cases (acquired p t l Read) (acquired p t l Write) (sym (has-acquired p t l) ∙ member))

to_write-plain : (p : List Step) (t : ℕ) → AcquiresNoLevelLock p → HasNoLevelLock (acquired_to_write p t)
to_write-plain p t plain l member = plain t l Write (sym (has-acquired_to_write p t l) ∙ member)

pub rising-held : (p : List Step) (t : ℕ) → AcquiresNoLevelLock p → IsRising (held p t)
unfolding held
rising-held p t plain = rising-levels (acquired_locks p t) (level_of p t) (acquired-plain p t plain) (rising-acquired p t)

pub rising-write_held : (p : List Step) (t : ℕ) → AcquiresNoLevelLock p → IsRising (write_held p t)
unfolding write_held
rising-write_held p t plain = rising-levels (acquired_to_write p t) (level_of p t) (to_write-plain p t plain) (rising-acquired_to_write p t)

-- and the lists of what it holds end in the level locks of its level
pub held-ends : (p : List Step) (t : ℕ) → AcquiresNoLevelLock p → at_level (level_of p t) (held p t) ≡ held p t
unfolding held
held-ends p t plain = rw (among-levels (acquired_locks p t) (level_of p t) (acquired-plain p t plain)) refl

pub write_held-ends : (p : List Step) (t : ℕ) → AcquiresNoLevelLock p → at_level (level_of p t) (write_held p t) ≡ write_held p t
unfolding write_held
write_held-ends p t plain = rw (among-levels (acquired_to_write p t) (level_of p t) (to_write-plain p t plain)) refl

-- what an accepted event makes of the lists of a thread's locks
held_event : (p : List Step) (t : ℕ) (e : Event) → AcquiresNoLevelLock p → refusal p t e ≡ None →
    acquired_by e (acquired_locks p t) ++ level_locks (level_after (level_of p t) e) ≡ (changed_by (holdings p t) e).held
unfolding refusal holdings held
held_event p t (Acquire l Read) plain taken =
    sym (with-levels l (level_of p t) (acquired_locks p t) (taken_plain (is_level_lock l) (cond (holds_any p t l) (Some AlreadyHeld) (refusal_if (nat_le 64 (length (acquired_locks p t))) HeldFull)) taken))
held_event p t (Acquire l Write) plain taken =
    sym (with-levels l (level_of p t) (acquired_locks p t) (taken_plain (is_level_lock l) (cond (holds_any p t l) (Some AlreadyHeld) (refusal_if (nat_le 64 (length (acquired_locks p t))) HeldFull)) taken))
held_event p t (Release l m) plain taken =
    sym (without-levels l (level_of p t) (acquired_locks p t) (taken_plain (is_level_lock l) (cond (holds p t l m) None (cond (holds p t l (other_mode m)) (Some WrongMode) (Some NotHeld))) taken))
held_event p t (Level n) plain taken = rw (among-levels (acquired_locks p t) (level_of p t) (acquired-plain p t plain)) refl
held_event p t (Sync sync) plain taken = refl
held_event p t (Access kind w site) plain taken = refl
held_event p t (Reuse range) plain taken = refl
held_event p t IgnoreOn plain taken = refl
held_event p t IgnoreOff plain taken = refl
held_event p t (Show w) plain taken = refl

write_held_event : (p : List Step) (t : ℕ) (e : Event) → AcquiresNoLevelLock p → refusal p t e ≡ None →
    acquired_to_write_by e (acquired_to_write p t) ++ level_locks (level_after (level_of p t) e) ≡ (changed_by (holdings p t) e).write_held
unfolding refusal holdings write_held
write_held_event p t (Acquire l Read) plain taken = refl
write_held_event p t (Acquire l Write) plain taken =
    sym (with-levels l (level_of p t) (acquired_to_write p t) (taken_plain (is_level_lock l) (cond (holds_any p t l) (Some AlreadyHeld) (refusal_if (nat_le 64 (length (acquired_locks p t))) HeldFull)) taken))
write_held_event p t (Release l m) plain taken =
    sym (without-levels l (level_of p t) (acquired_to_write p t) (taken_plain (is_level_lock l) (cond (holds p t l m) None (cond (holds p t l (other_mode m)) (Some WrongMode) (Some NotHeld))) taken))
write_held_event p t (Level n) plain taken = rw (among-levels (acquired_to_write p t) (level_of p t) (to_write-plain p t plain)) refl
write_held_event p t (Sync sync) plain taken = refl
write_held_event p t (Access kind w site) plain taken = refl
write_held_event p t (Reuse range) plain taken = refl
write_held_event p t IgnoreOn plain taken = refl
write_held_event p t IgnoreOff plain taken = refl
write_held_event p t (Show w) plain taken = refl

level_event : (p : List Step) (t : ℕ) (e : Event) → level_after (level_of p t) e ≡ (changed_by (holdings p t) e).level
unfolding holdings
level_event p t (Acquire l Read) = refl
level_event p t (Acquire l Write) = refl
level_event p t (Release l m) = refl
level_event p t (Level n) = refl
level_event p t (Sync sync) = refl
level_event p t (Access kind w site) = refl
level_event p t (Reuse range) = refl
level_event p t IgnoreOn = refl
level_event p t IgnoreOff = refl
level_event p t (Show w) = refl

pub held-own : (p : List Step) (s : Step) (t : ℕ) → AcquiresNoLevelLock p → refusal p t s.event ≡ None → (s.thread == t) ≡ true → held (p ++ s ∷ []) t ≡ (changed_by (holdings p t) s.event).held
held-own p s t plain taken own = unfold held in rw (acquired-own p s t own, level-own p s t own) (held_event p t s.event plain taken)

pub write_held-own : (p : List Step) (s : Step) (t : ℕ) → AcquiresNoLevelLock p → refusal p t s.event ≡ None → (s.thread == t) ≡ true → write_held (p ++ s ∷ []) t ≡ (changed_by (holdings p t) s.event).write_held
write_held-own p s t plain taken own = unfold write_held in rw (acquired_to_write-own p s t own, level-own p s t own) (write_held_event p t s.event plain taken)

pub held-other : (p : List Step) (s : Step) (t : ℕ) → (s.thread == t) ≡ false → held (p ++ s ∷ []) t ≡ held p t
unfolding held
held-other p s t other = rw (acquired-other p s t other, level-other p s t other) refl

pub write_held-other : (p : List Step) (s : Step) (t : ℕ) → (s.thread == t) ≡ false → write_held (p ++ s ∷ []) t ≡ write_held p t
unfolding write_held
write_held-other p s t other = rw (acquired_to_write-other p s t other, level-other p s t other) refl

-- the refusal is the one that the thread's locks and depth give
release_read_Bool : (r w : Bool) (given wrong free : Option Refusal) → (r ≡ true → w ≡ true → ⊥) →
    cond r given (cond w wrong free) ≡ cond w wrong (cond (r || w) given free)
release_read_Bool true true given wrong free apart = absurd (apart refl refl)
release_read_Bool true false given wrong free apart = refl
release_read_Bool false true given wrong free apart = refl
release_read_Bool false false given wrong free apart = refl

release_write_Bool : (r w : Bool) (given wrong free : Option Refusal) →
    cond w given (cond r wrong free) ≡ cond w given (cond (r || w) wrong free)
release_write_Bool true true given wrong free = refl
release_write_Bool true false given wrong free = refl
release_write_Bool false true given wrong free = refl
release_write_Bool false false given wrong free = refl

or-false : (b : Bool) → (b || false) ≡ b
or-false true = refl
or-false false = refl

-- a lock that is no level lock is held exactly where it is acquired
holds_plain : (p : List Step) (t l : ℕ) (m : Mode) → is_level_lock l ≡ false → holds p t l m ≡ acquired p t l m
unfolding holds
holds_plain p t l Read plain = or-false (acquired p t l Read)
holds_plain p t l Write plain = rw plain (or-false (acquired p t l Write))

apart : (p : List Step) (t l : ℕ) → HasOneMode p → is_level_lock l ≡ false → holds p t l Read ≡ true → holds p t l Write ≡ true → ⊥
apart p t l one plain a b = one t l (sym (holds_plain p t l Read plain) ∙ a) (sym (holds_plain p t l Write plain) ∙ b)

release_read_by : (p : List Step) (t l : ℕ) (b : Bool) → is_level_lock l ≡ b → HasOneMode p →
    cond b (Some LevelLock) (cond (holds p t l Read) None (cond (holds p t l Write) (Some WrongMode) (Some NotHeld)))
    ≡ cond b (Some LevelLock) (cond (holds p t l Write) (Some WrongMode) (cond (holds_any p t l) None (Some NotHeld)))
release_read_by p t l true level one = refl
release_read_by p t l false plain one =
    release_read_Bool (holds p t l Read) (holds p t l Write) None (Some WrongMode) (Some NotHeld) (apart p t l one plain)

among-held : (p : List Step) (t : ℕ) → AcquiresNoLevelLock p → acquired_among (held p t) ≡ acquired_locks p t
unfolding held
among-held p t plain = among-levels (acquired_locks p t) (level_of p t) (acquired-plain p t plain)

pub refusal-by : (p : List Step) (t : ℕ) (e : Event) → HasOneMode p → AcquiresNoLevelLock p → refusal p t e ≡ refused_by (holdings p t) e
unfolding refusal holdings
refusal-by p t (Acquire l m) one plain = rw (has-held p t l, among-held p t plain) refl
refusal-by p t (Release l Read) one plain = rw (has-held p t l, has-write_held p t l) (release_read_by p t l (is_level_lock l) refl one)
refusal-by p t (Release l Write) one plain =
    rw (has-held p t l, has-write_held p t l)
    (ap (cond (is_level_lock l) (Some LevelLock)) (release_write_Bool (holds p t l Read) (holds p t l Write) None (Some WrongMode) (Some NotHeld)))
refusal-by p t IgnoreOn one plain = refl
refusal-by p t IgnoreOff one plain = refl
refusal-by p t (Access kind w site) one plain = refl
refusal-by p t (Reuse range) one plain = refl
refusal-by p t (Show w) one plain = refl
refusal-by p t (Level n) one plain = refl
refusal-by p t (Sync sync) one plain = refl

same_holdings : (a b : Holdings) → a.held ≡ b.held → a.write_held ≡ b.write_held → a.level ≡ b.level → a.depth ≡ b.depth → a ≡ b
same_holdings a b e f g h = λ i. record { held = e i; write_held = f i; level = g i; depth = h i }

pub holdings-own : (p : List Step) (s : Step) (t : ℕ) → AcquiresNoLevelLock p → refusal p t s.event ≡ None → ignore_offs p t ≤ ignore_ons p t → (s.thread == t) ≡ true →
    holdings (p ++ s ∷ []) t ≡ changed_by (holdings p t) s.event
unfolding holdings
holdings-own p s t plain taken fits own =
    same_holdings (holdings (p ++ s ∷ []) t) (changed_by (holdings p t) s.event) (held-own p s t plain taken own) (write_held-own p s t plain taken own)
    (level-own p s t own ∙ level_event p t s.event) (depth-own p s t fits own)

pub holdings-other : (p : List Step) (s : Step) (t : ℕ) → (s.thread == t) ≡ false → holdings (p ++ s ∷ []) t ≡ holdings p t
unfolding holdings
holdings-other p s t other =
    same_holdings (holdings (p ++ s ∷ []) t) (holdings p t) (held-other p s t other) (write_held-other p s t other) (level-other p s t other) (depth-other p s t other)

pub refusal_at : (steps : List Step) (n : ℕ) (t : ℕ) (e : Event) → refusal (accepted steps n) t e ≡ refused_by (holdings_at steps t n) e
refusal_at steps n t e = refusal-by (accepted steps n) t e (one_mode steps n) (no_level_lock steps n)

-- the thread's own step, accepted or refused
step_own : (steps : List Step) (n : ℕ) (s : Step) → slice_get steps n ≡ Some s →
    (o : Option Refusal) → refused_by (holdings_at steps s.thread n) s.event ≡ o →
    holdings_at steps s.thread (suc n) ≡ changed_unless o (holdings_at steps s.thread n) s.event
step_own steps n s is None taken =
    rw (accepted-taken steps n s is (refusal_at steps n s.thread s.event ∙ taken))
    (holdings-own (accepted steps n) s s.thread (no_level_lock steps n) (refusal_at steps n s.thread s.event ∙ taken) (balanced steps n s.thread) (itself s.thread))
step_own steps n s is (Some why) refused =
    rw (accepted-refused steps n s why is (refusal_at steps n s.thread s.event ∙ refused)) refl

step_other : (steps : List Step) (n : ℕ) (s : Step) (t : ℕ) → slice_get steps n ≡ Some s → (s.thread == t) ≡ false →
    (o : Option Refusal) → refusal (accepted steps n) s.thread s.event ≡ o → holdings_at steps t (suc n) ≡ holdings_at steps t n
step_other steps n s t is other None taken =
    rw (accepted-taken steps n s is taken) (holdings-other (accepted steps n) s t other)
step_other steps n s t is other (Some why) refused = rw (accepted-refused steps n s why is refused) refl

step_by : (steps : List Step) (n : ℕ) (s : Step) (t : ℕ) → slice_get steps n ≡ Some s → (b : Bool) → (s.thread == t) ≡ b →
    holdings_at steps t (suc n) ≡ cond b (changed_unless (refused_by (holdings_at steps t n) s.event) (holdings_at steps t n) s.event) (holdings_at steps t n)
step_by steps n s t is true own =
    rw (← eqb-true s.thread t own) (step_own steps n s is (refused_by (holdings_at steps s.thread n) s.event) refl)
step_by steps n s t is false other = step_other steps n s t is other (refusal (accepted steps n) s.thread s.event) refl

-- a thread's holdings after one more step
pub holdings-step : (steps : List Step) (n : ℕ) (s : Step) (t : ℕ) → slice_get steps n ≡ Some s → holdings_at steps t (suc n) ≡ after_step (holdings_at steps t n) t s
holdings-step steps n s t is = step_by steps n s t is (s.thread == t) refl
