-- What one step does to whether its thread holds a lock: an acquire of the lock takes it, a release of it gives it up, and nothing else changes that.
use Rattle.std.proofs.Common.{◌≡◌, ℕ, suc, ◌==◌, Bool, true, false, ◌||◌, not, cond, List, append-nil, filter, slice_get, Option, Some, None, refl, ap, sym, subst, ◌∙◌, inl, inr, ◌⊎◌, ⊎_elim}
use Rattle.std.proofs.lemmas.Bool.{eqb-true, or_right}
use Rattle.std.proofs.lemmas.List.Folds.{list_any-append}
use Rattle.er_event.specs.Lockset.{has, is_level_lock, level_locks, with_lock, without_lock}
use Rattle.er_event.specs.declared.refusals.Refusal.{Refusal}
use Rattle.er_event.specs.declared.steps.Event.{Event}
use Rattle.er_event.specs.declared.steps.Event.TheVariants.{Acquire, Release, Access, Reuse, IgnoreOn, IgnoreOff, Show, Level, Sync}
use Rattle.er_event.specs.declared.steps.Mode.{Mode}
use Rattle.er_event.specs.declared.steps.Mode.TheVariants.{Read, Write}
use Rattle.er_event.specs.declared.steps.Step.{Step}
use Rattle.er_event.proofs.Bools.{itself}
use Rattle.er_event.proofs.LocksetLemmas.{has-with_lock, has-filtered}
use Rattle.er_model.specs.Threads.{accepted, holds}
use Rattle.er_model.specs.Holdings.{Holdings, holdings, acquired_among, at_level, refused_by, changed_by, changed_unless, holdings_at}
use Rattle.er_model.proofs.Levels.{has-levels}
use Rattle.er_model.proofs.Threads.{has-held, has-write_held, has-without_lock, holdings-step}

-- what a thread holds to write, it holds
pub write-held : (steps : List Step) (t n l : ℕ) → has (holdings_at steps t n).write_held l ≡ true → has (holdings_at steps t n).held l ≡ true
unfolding holdings
write-held steps t n l is =
    has-held (accepted steps n) t l
    ∙ or_right (holds (accepted steps n) t l Read) (holds (accepted steps n) t l Write) (sym (has-write_held (accepted steps n) t l) ∙ is)

or_false : (b : Bool) → (b || false) ≡ b
or_false true = refl
or_false false = refl

-- a level changes no lock but level locks
pub has-at_level : (locks : List ℕ) (n l : ℕ) → is_level_lock l ≡ false → has (at_level n locks) l ≡ has locks l
unfolding acquired_among
has-at_level locks n l plain =
    list_any-append (λ x. x == l) (filter (λ x. not (is_level_lock x)) locks) (level_locks n)
    ∙ rw (has-filtered (λ x. not (is_level_lock x)) locks l, has-levels n l) (rw plain (or_false (has locks l)))

-- a thread that gives up a lock that it holds to read doesn't hold it to write
given_to_read : (h : Holdings) (l : ℕ) (b c : Bool) → is_level_lock l ≡ b → has h.write_held l ≡ c → refused_by h (Release l Read) ≡ None → has h.write_held l ≡ false
given_to_read h l true c is there so = let never = rw is at so in cc
given_to_read h l false true is there so = let never = rw (is, there) at so in cc
given_to_read h l false false is there so = there

-- what an accepted event does to a lock that is no level lock
module _ (h : Holdings) (l : ℕ) (plain : is_level_lock l ≡ false) where
  -- the lock is held as before, or was taken, or was given up
  abbrev pub Moves : Event → Type 0
  Moves e = (has (changed_by h e).held l ≡ has h.held l)
      ⊎ (((m : Mode) × (e ≡ Acquire l m)) ⊎ ((m : Mode) × (e ≡ Release l m)))

  abbrev pub MovesToWrite : Event → Type 0
  MovesToWrite e = (has (changed_by h e).write_held l ≡ has h.write_held l) ⊎ ((e ≡ Acquire l Write) ⊎ (e ≡ Release l Write))

  taken : (k : ℕ) (m : Mode) (b : Bool) → (k == l) ≡ b → (has (with_lock k h.held) l ≡ has h.held l) ⊎ (Acquire k m ≡ Acquire l m)
  taken k m true here = inr (ap (λ x. Acquire x m) (eqb-true k l here))
  taken k m false other = inl (has-with_lock k h.held l ∙ rw other refl)

  given : (k : ℕ) (m : Mode) (b : Bool) → (k == l) ≡ b → (has (without_lock k h.held) l ≡ has h.held l) ⊎ (Release k m ≡ Release l m)
  given k m true here = inr (ap (λ x. Release x m) (eqb-true k l here))
  given k m false other = inl (has-without_lock k h.held l ∙ rw other refl)

  pub moves : (e : Event) → Moves e
  moves (Acquire k Read) = ⊎_elim (λ same. inl same) (λ it. inr (inl (Read, it))) (taken k Read (k == l) refl)
  moves (Acquire k Write) = ⊎_elim (λ same. inl same) (λ it. inr (inl (Write, it))) (taken k Write (k == l) refl)
  moves (Release k m) = ⊎_elim (λ same. inl same) (λ it. inr (inr (m, it))) (given k m (k == l) refl)
  moves (Level n) = inl (has-at_level h.held n l plain)
  moves (Access kind w site) = inl refl
  moves (Reuse range) = inl refl
  moves IgnoreOn = inl refl
  moves IgnoreOff = inl refl
  moves (Show w) = inl refl
  moves (Sync sync) = inl refl

  taken_to_write : (k : ℕ) (b : Bool) → (k == l) ≡ b → MovesToWrite (Acquire k Write)
  taken_to_write k true here = inr (inl (ap (λ x. Acquire x Write) (eqb-true k l here)))
  taken_to_write k false other = inl (has-with_lock k h.write_held l ∙ rw other refl)

  given_to_write : (k : ℕ) (b : Bool) → (k == l) ≡ b → MovesToWrite (Release k Write)
  given_to_write k true here = inr (inr (ap (λ x. Release x Write) (eqb-true k l here)))
  given_to_write k false other = inl (has-without_lock k h.write_held l ∙ rw other refl)

  read_given : (k : ℕ) → refused_by h (Release k Read) ≡ None → (b : Bool) → (k == l) ≡ b → has (without_lock k h.write_held) l ≡ has h.write_held l
  read_given k so true here =
      let P : ℕ → Type 0 = λ x. has h.write_held x ≡ false in
      let none : has h.write_held l ≡ false = subst P (eqb-true k l here) (given_to_read h k (is_level_lock k) (has h.write_held k) refl refl so) in
      has-without_lock k h.write_held l ∙ rw here (sym none)
  read_given k so false other = has-without_lock k h.write_held l ∙ rw other refl

  pub moves-to-write : (e : Event) → refused_by h e ≡ None → MovesToWrite e
  moves-to-write (Acquire k Read) so = inl refl
  moves-to-write (Acquire k Write) so = taken_to_write k (k == l) refl
  moves-to-write (Release k Read) so = inl (read_given k so (k == l) refl)
  moves-to-write (Release k Write) so = given_to_write k (k == l) refl
  moves-to-write (Level n) so = inl (has-at_level h.write_held n l plain)
  moves-to-write (Access kind w site) so = inl refl
  moves-to-write (Reuse range) so = inl refl
  moves-to-write IgnoreOn so = inl refl
  moves-to-write IgnoreOff so = inl refl
  moves-to-write (Show w) so = inl refl
  moves-to-write (Sync sync) so = inl refl

-- a step of the list that its thread's holdings accept
pub record Accepts (steps : List Step) (n t : ℕ) (e : Event) : Type 0 where
  pub here : slice_get steps n ≡ Some (record { thread = t; event = e })
  pub free : refused_by (holdings_at steps t n) e ≡ None

-- a lock that a thread holds at one point and not at the next, or the other way round, in any mode or to write, was given up or taken by the step between
module _ (steps : List Step) (t l n : ℕ) (plain : is_level_lock l ≡ false) where
  abbrev before : Holdings
  before = holdings_at steps t n

  stays_without : slice_get steps n ≡ None → holdings_at steps t (suc n) ≡ before
  unfolding accepted
  stays_without none = rw (none, append-nil (accepted steps n)) refl

  module _ (f : Holdings → List ℕ) (g : Event → Type 0)
      (changes : (e : Event) → refused_by before e ≡ None → (has (f (changed_by before e)) l ≡ has (f before) l) ⊎ g e) where
    abbrev Changed : Type 0
    Changed = (has (f (holdings_at steps t (suc n))) l ≡ has (f before) l) ⊎ ((e : Event) × Accepts steps n t e × g e)

    own_by : (e : Event) → slice_get steps n ≡ Some (record { thread = t; event = e }) → (o : Option Refusal) → refused_by before e ≡ o →
        (has (f (changed_unless o before e)) l ≡ has (f before) l) ⊎ ((e : Event) × Accepts steps n t e × g e)
    own_by e is None free = ⊎_elim (λ same. inl same) (λ it. inr (e, record { here = is; free = free }, it)) (changes e free)
    own_by e is (Some why) refused = inl refl

    by_thread : (s : Step) → slice_get steps n ≡ Some s → (b : Bool) → (s.thread == t) ≡ b →
        (has (f (cond b (changed_unless (refused_by before s.event) before s.event) before)) l ≡ has (f before) l) ⊎ ((e : Event) × Accepts steps n t e × g e)
    by_thread s is true own =
        own_by s.event (is ∙ ap (λ u. Some (record { thread = u; event = s.event })) (eqb-true s.thread t own)) (refused_by before s.event) refl
    by_thread s is false other = inl refl

    pub changed : (o : Option Step) → slice_get steps n ≡ o → Changed
    changed None none = inl (ap (λ h. has (f h) l) (stays_without none))
    changed (Some s) is = ⊎_elim (λ same. inl (ap (λ h. has (f h) l) (holdings-step steps n s t is) ∙ same)) (λ it. inr it) (by_thread s is (s.thread == t) refl)

  abbrev Takes : Event → Type 0
  Takes e = ((m : Mode) × (e ≡ Acquire l m)) ⊎ ((m : Mode) × (e ≡ Release l m))

  abbrev TakesToWrite : Event → Type 0
  TakesToWrite e = (e ≡ Acquire l Write) ⊎ (e ≡ Release l Write)

  next : (e : Event) → Accepts steps n t e → holdings_at steps t (suc n) ≡ changed_by before e
  next e it = holdings-step steps n (record { thread = t; event = e }) t it.here ∙ rw (itself t, it.free) refl

  took : (m : Mode) → Accepts steps n t (Acquire l m) → has (holdings_at steps t (suc n)).held l ≡ true
  took Read it = rw (next (Acquire l Read) it) (has-with_lock l before.held l ∙ rw (itself l) refl)
  took Write it = rw (next (Acquire l Write) it) (has-with_lock l before.held l ∙ rw (itself l) refl)

  took_to_write : Accepts steps n t (Acquire l Write) → has (holdings_at steps t (suc n)).write_held l ≡ true
  took_to_write it = rw (next (Acquire l Write) it) (has-with_lock l before.write_held l ∙ rw (itself l) refl)

  gave : (m : Mode) → Accepts steps n t (Release l m) → has (holdings_at steps t (suc n)).held l ≡ false
  gave m it = rw (next (Release l m) it) (has-without_lock l before.held l ∙ rw (itself l) refl)

  gave_to_write : Accepts steps n t (Release l Write) → has (holdings_at steps t (suc n)).write_held l ≡ false
  gave_to_write it = rw (next (Release l Write) it) (has-without_lock l before.write_held l ∙ rw (itself l) refl)

  held_changes : (has (holdings_at steps t (suc n)).held l ≡ has before.held l) ⊎ ((e : Event) × Accepts steps n t e × Takes e)
  held_changes = changed (λ h. h.held) Takes (λ e free. moves before l plain e) (slice_get steps n) refl

  write_changes : (has (holdings_at steps t (suc n)).write_held l ≡ has before.write_held l) ⊎ ((e : Event) × Accepts steps n t e × TakesToWrite e)
  write_changes = changed (λ h. h.write_held) TakesToWrite (λ e free. moves-to-write before l plain e free) (slice_get steps n) refl

  pub gained : has before.held l ≡ false → has (holdings_at steps t (suc n)).held l ≡ true → (m : Mode) × Accepts steps n t (Acquire l m)
  gained was is =
      ⊎_elim (λ same. let clash = sym is ∙ same ∙ was in cc)
      (λ found. ⊎_elim (λ it. (it.0, subst (Accepts steps n t) it.1 found.1))
      (λ it. let clash = sym is ∙ gave it.0 (subst (Accepts steps n t) it.1 found.1) in cc) found.2)
      held_changes

  pub lost : has before.held l ≡ true → has (holdings_at steps t (suc n)).held l ≡ false → (m : Mode) × Accepts steps n t (Release l m)
  lost was is =
      ⊎_elim (λ same. let clash = sym was ∙ sym same ∙ is in cc)
      (λ found. ⊎_elim (λ it. let clash = sym (took it.0 (subst (Accepts steps n t) it.1 found.1)) ∙ is in cc)
      (λ it. (it.0, subst (Accepts steps n t) it.1 found.1)) found.2)
      held_changes

  pub gained-write : has before.write_held l ≡ false → has (holdings_at steps t (suc n)).write_held l ≡ true → Accepts steps n t (Acquire l Write)
  gained-write was is =
      ⊎_elim (λ same. let clash = sym is ∙ same ∙ was in cc)
      (λ found. ⊎_elim (λ it. subst (Accepts steps n t) it found.1)
      (λ it. let clash = sym is ∙ gave_to_write (subst (Accepts steps n t) it found.1) in cc) found.2)
      write_changes

  pub lost-write : has before.write_held l ≡ true → has (holdings_at steps t (suc n)).write_held l ≡ false → Accepts steps n t (Release l Write)
  lost-write was is =
      ⊎_elim (λ same. let clash = sym was ∙ sym same ∙ is in cc)
      (λ found. ⊎_elim (λ it. let clash = sym (took_to_write (subst (Accepts steps n t) it found.1)) ∙ is in cc)
      (λ it. subst (Accepts steps n t) it found.1) found.2)
      write_changes
