-- How many threads hold a lock changes by one where an accepted event takes it or gives it up.
use Rattle.std.proofs.Common.{◌≡◌, ℕ, ◌+◌, ◌-◌, ◌==◌, Bool, true, false, cond, List, Option, Some, None, refl, ap, sym, subst, ◌∙◌}
use Rattle.std.proofs.lemmas.Bool.{eqb-true, ne_eqb}
use Rattle.er_event.specs.Lockset.{has, is_level_lock, with_lock, without_lock}
use Rattle.er_event.specs.declared.refusals.Refusal.{Refusal}
use Rattle.er_event.specs.declared.steps.Event.{Event}
use Rattle.er_event.specs.declared.steps.Event.TheVariants.{Acquire, Release, Access, Reuse, IgnoreOn, IgnoreOff, Show, Level, Sync}
use Rattle.er_event.specs.declared.steps.Mode.{Mode}
use Rattle.er_event.specs.declared.steps.Mode.TheVariants.{Read, Write}
use Rattle.er_event.proofs.Bools.{itself}
use Rattle.er_event.proofs.LocksetLemmas.{has-with_lock}
use Rattle.er_model.specs.Threads.{accepted}
use Rattle.er_model.specs.Holdings.{Holdings, refused_by, changed_by, changed_unless, after_step}
use Rattle.er_model.proofs.Changes.{has-at_level}
use Rattle.er_model.proofs.Threads.{has-without_lock}
use Rattle.er_damage.specs.Counts.{IsCount}
use Rattle.er_damage.specs.Inner.Steps.{holders_after, writers_after, unless_refused}
use Rattle.er_damage.proofs.CountLemmas.{count_same, count_up, count_down}

-- what an accepted event tells of its thread's holdings
module _ (h : Holdings) (l : ℕ) where
  pub plain_lock : (m : Mode) (b : Bool) → is_level_lock l ≡ b → refused_by h (Acquire l m) ≡ None → is_level_lock l ≡ false
  plain_lock m true is so = let never = rw is at so in cc
  plain_lock m false is so = is

  pub free_lock : (m : Mode) (b c : Bool) → is_level_lock l ≡ b → has h.held l ≡ c → refused_by h (Acquire l m) ≡ None → has h.held l ≡ false
  free_lock m true c is there so = let never = rw is at so in cc
  free_lock m false true is there so = let never = rw (is, there) at so in cc
  free_lock m false false is there so = there

  given_write : (b c d : Bool) → is_level_lock l ≡ b → has h.write_held l ≡ c → has h.held l ≡ d → refused_by h (Release l Write) ≡ None → has h.write_held l ≡ true
  given_write true c d is there any so = let never = rw is at so in cc
  given_write false true d is there any so = there
  given_write false false true is there any so = let never = rw (is, there, any) at so in cc
  given_write false false false is there any so = let never = rw (is, there, any) at so in cc

  given_read : (b c d : Bool) → is_level_lock l ≡ b → has h.write_held l ≡ c → has h.held l ≡ d → refused_by h (Release l Read) ≡ None →
      (has h.write_held l ≡ false) × (has h.held l ≡ true)
  given_read true c d is there any so = let never = rw is at so in cc
  given_read false true d is there any so = let never = rw (is, there) at so in cc
  given_read false false true is there any so = (there, any)
  given_read false false false is there any so = let never = rw (is, there, any) at so in cc

-- a step of thread t, and one of the lists that each thread has
module _ (H : ℕ → Holdings) (t l : ℕ) (e : Event) (f : Holdings → List ℕ) where
  abbrev stepped : ℕ → Holdings
  stepped u = after_step (H u) u (record { thread = t; event = e })

  others : (u : ℕ) → (u ≡ t → ⊥) → has (f (stepped u)) l ≡ has (f (H u)) l
  others u apart = rw (ne_eqb t u (λ same. apart (sym same))) refl

  own : refused_by (H t) e ≡ None → has (f (stepped t)) l ≡ has (f (changed_by (H t) e)) l
  own accepted = rw (itself t) (rw accepted refl)

  module _ (n : ℕ) (counts : IsCount (λ u. has (f (H u)) l) n) where
    pub refused_stays : (why : Refusal) → refused_by (H t) e ≡ Some why → IsCount (λ u. has (f (stepped u)) l) n
    refused_stays why refused = count_same (λ u. has (f (H u)) l) (λ u. has (f (stepped u)) l) n counts (λ u. by u (t == u) refl)
      where
        by : (u : ℕ) (b : Bool) → (t == u) ≡ b → has (f (cond b (changed_unless (refused_by (H u) e) (H u) e) (H u))) l ≡ has (f (H u)) l
        by u true here =
            let P : ℕ → Type 0 = λ v. has (f (changed_unless (refused_by (H v) e) (H v) e)) l ≡ has (f (H v)) l in
            subst P (eqb-true t u here) (rw refused refl)
        by u false elsewhere = refl

    module _ (accepted : refused_by (H t) e ≡ None) where
      pub stays : has (f (changed_by (H t) e)) l ≡ has (f (H t)) l → IsCount (λ u. has (f (stepped u)) l) n
      stays same = count_same (λ u. has (f (H u)) l) (λ u. has (f (stepped u)) l) n counts (λ u. by u (t == u) refl)
        where
          by : (u : ℕ) (b : Bool) → (t == u) ≡ b → has (f (cond b (changed_unless (refused_by (H u) e) (H u) e) (H u))) l ≡ has (f (H u)) l
          by u true here =
              let P : ℕ → Type 0 = λ v. has (f (changed_unless (refused_by (H v) e) (H v) e)) l ≡ has (f (H v)) l in
              subst P (eqb-true t u here) (rw accepted same)
          by u false elsewhere = refl

      pub rises : has (f (H t)) l ≡ false → has (f (changed_by (H t) e)) l ≡ true → IsCount (λ u. has (f (stepped u)) l) (n + 1)
      rises was is = count_up (λ u. has (f (H u)) l) (λ u. has (f (stepped u)) l) n counts t was (own accepted ∙ is) others

      pub falls : has (f (H t)) l ≡ true → has (f (changed_by (H t) e)) l ≡ false → IsCount (λ u. has (f (stepped u)) l) (n - 1)
      falls was is = count_down (λ u. has (f (H u)) l) (λ u. has (f (stepped u)) l) n counts t was (own accepted ∙ is) others

-- how many hold the lock, and how many to write, after a step
module _ (H : ℕ → Holdings) (t l : ℕ) (plain : is_level_lock l ≡ false) (within : (k : ℕ) → has (H t).write_held k ≡ true → has (H t).held k ≡ true) where
  abbrev any_mode : Holdings → List ℕ
  any_mode h = h.held

  abbrev write_mode : Holdings → List ℕ
  write_mode h = h.write_held

  taken : (k : ℕ) (locks : List ℕ) → (k == l) ≡ true → has (with_lock k locks) l ≡ true
  taken k locks here = has-with_lock k locks l ∙ rw here refl

  not_taken : (k : ℕ) (locks : List ℕ) → (k == l) ≡ false → has (with_lock k locks) l ≡ has locks l
  not_taken k locks elsewhere = has-with_lock k locks l ∙ rw elsewhere refl

  given : (k : ℕ) (locks : List ℕ) → (k == l) ≡ true → has (without_lock k locks) l ≡ false
  given k locks here = has-without_lock k locks l ∙ rw here refl

  not_given : (k : ℕ) (locks : List ℕ) → (k == l) ≡ false → has (without_lock k locks) l ≡ has locks l
  not_given k locks elsewhere = has-without_lock k locks l ∙ rw elsewhere refl

  free : (k : ℕ) (m : Mode) → (k == l) ≡ true → refused_by (H t) (Acquire k m) ≡ None → has (H t).held l ≡ false
  free k m here accepted =
      let P : ℕ → Type 0 = λ x. has (H t).held x ≡ false in
      subst P (eqb-true k l here) (free_lock (H t) k m (is_level_lock k) (has (H t).held k) refl refl accepted)

  free_to_write : (b : Bool) → has (H t).write_held l ≡ b → has (H t).held l ≡ false → has (H t).write_held l ≡ false
  free_to_write true there none = let held = within l there in let clash = sym held ∙ none in cc
  free_to_write false there none = there

  released : (k : ℕ) (m : Mode) → (k == l) ≡ true → refused_by (H t) (Release k m) ≡ None → has (H t).held l ≡ true
  released k Read here accepted =
      let P : ℕ → Type 0 = λ x. has (H t).held x ≡ true in
      subst P (eqb-true k l here) ((given_read (H t) k (is_level_lock k) (has (H t).write_held k) (has (H t).held k) refl refl refl accepted).1)
  released k Write here accepted =
      let P : ℕ → Type 0 = λ x. has (H t).held x ≡ true in
      subst P (eqb-true k l here) (within k (given_write (H t) k (is_level_lock k) (has (H t).write_held k) (has (H t).held k) refl refl refl accepted))

  -- in any mode
  holders_acquire : (k : ℕ) (m : Mode) (n : ℕ) → IsCount (λ u. has (H u).held l) n → refused_by (H t) (Acquire k m) ≡ None →
      ((locks : List ℕ) → locks ≡ (changed_by (H t) (Acquire k m)).held → locks ≡ with_lock k (H t).held) → (b : Bool) → (k == l) ≡ b →
      IsCount (λ u. has (after_step (H u) u (record { thread = t; event = Acquire k m })).held l) (cond b (n + 1) n)
  holders_acquire k m n counts accepted makes true here =
      rises H t l (Acquire k m) any_mode n counts accepted (free k m here accepted)
      (ap (λ locks. has locks l) (makes _ refl) ∙ taken k (H t).held here)
  holders_acquire k m n counts accepted makes false elsewhere =
      stays H t l (Acquire k m) any_mode n counts accepted (ap (λ locks. has locks l) (makes _ refl) ∙ not_taken k (H t).held elsewhere)

  holders_release : (k : ℕ) (m : Mode) (n : ℕ) → IsCount (λ u. has (H u).held l) n → refused_by (H t) (Release k m) ≡ None → (b : Bool) → (k == l) ≡ b →
      IsCount (λ u. has (after_step (H u) u (record { thread = t; event = Release k m })).held l) (cond b (n - 1) n)
  holders_release k m n counts accepted true here =
      falls H t l (Release k m) any_mode n counts accepted (released k m here accepted) (given k (H t).held here)
  holders_release k m n counts accepted false elsewhere =
      stays H t l (Release k m) any_mode n counts accepted (not_given k (H t).held elsewhere)

  holders_accepted : (e : Event) (n : ℕ) → IsCount (λ u. has (H u).held l) n → refused_by (H t) e ≡ None →
      IsCount (λ u. has (after_step (H u) u (record { thread = t; event = e })).held l) (holders_after e l n)
  holders_accepted (Acquire k Read) n counts accepted = holders_acquire k Read n counts accepted (λ locks is. is) (k == l) refl
  holders_accepted (Acquire k Write) n counts accepted = holders_acquire k Write n counts accepted (λ locks is. is) (k == l) refl
  holders_accepted (Release k m) n counts accepted = holders_release k m n counts accepted (k == l) refl
  holders_accepted (Level level) n counts accepted = stays H t l (Level level) any_mode n counts accepted (has-at_level (H t).held level l plain)
  holders_accepted (Access kind w site) n counts accepted = stays H t l (Access kind w site) any_mode n counts accepted refl
  holders_accepted (Reuse range) n counts accepted = stays H t l (Reuse range) any_mode n counts accepted refl
  holders_accepted IgnoreOn n counts accepted = stays H t l IgnoreOn any_mode n counts accepted refl
  holders_accepted IgnoreOff n counts accepted = stays H t l IgnoreOff any_mode n counts accepted refl
  holders_accepted (Show w) n counts accepted = stays H t l (Show w) any_mode n counts accepted refl
  holders_accepted (Sync sync) n counts accepted = stays H t l (Sync sync) any_mode n counts accepted refl

  pub holders_step : (e : Event) (n : ℕ) → IsCount (λ u. has (H u).held l) n → (o : Option Refusal) → refused_by (H t) e ≡ o →
      IsCount (λ u. has (after_step (H u) u (record { thread = t; event = e })).held l) (unless_refused o (holders_after e l n) n)
  holders_step e n counts None accepted = holders_accepted e n counts accepted
  holders_step e n counts (Some why) refused = refused_stays H t l e any_mode n counts why refused

  -- to write
  writers_acquire : (k n : ℕ) → IsCount (λ u. has (H u).write_held l) n → refused_by (H t) (Acquire k Write) ≡ None → (b : Bool) → (k == l) ≡ b →
      IsCount (λ u. has (after_step (H u) u (record { thread = t; event = Acquire k Write })).write_held l) (cond b (n + 1) n)
  writers_acquire k n counts accepted true here =
      rises H t l (Acquire k Write) write_mode n counts accepted (free_to_write (has (H t).write_held l) refl (free k Write here accepted))
      (taken k (H t).write_held here)
  writers_acquire k n counts accepted false elsewhere =
      stays H t l (Acquire k Write) write_mode n counts accepted (not_taken k (H t).write_held elsewhere)

  written : (k : ℕ) → (k == l) ≡ true → refused_by (H t) (Release k Write) ≡ None → has (H t).write_held l ≡ true
  written k here accepted =
      let P : ℕ → Type 0 = λ x. has (H t).write_held x ≡ true in
      subst P (eqb-true k l here) (given_write (H t) k (is_level_lock k) (has (H t).write_held k) (has (H t).held k) refl refl refl accepted)

  unwritten : (k : ℕ) → (k == l) ≡ true → refused_by (H t) (Release k Read) ≡ None → has (H t).write_held l ≡ false
  unwritten k here accepted =
      let P : ℕ → Type 0 = λ x. has (H t).write_held x ≡ false in
      subst P (eqb-true k l here) ((given_read (H t) k (is_level_lock k) (has (H t).write_held k) (has (H t).held k) refl refl refl accepted).0)

  writers_release : (k n : ℕ) → IsCount (λ u. has (H u).write_held l) n → refused_by (H t) (Release k Write) ≡ None → (b : Bool) → (k == l) ≡ b →
      IsCount (λ u. has (after_step (H u) u (record { thread = t; event = Release k Write })).write_held l) (cond b (n - 1) n)
  writers_release k n counts accepted true here =
      falls H t l (Release k Write) write_mode n counts accepted (written k here accepted) (given k (H t).write_held here)
  writers_release k n counts accepted false elsewhere =
      stays H t l (Release k Write) write_mode n counts accepted (not_given k (H t).write_held elsewhere)

  writers_release_read : (k n : ℕ) → IsCount (λ u. has (H u).write_held l) n → refused_by (H t) (Release k Read) ≡ None → (b : Bool) → (k == l) ≡ b →
      IsCount (λ u. has (after_step (H u) u (record { thread = t; event = Release k Read })).write_held l) n
  writers_release_read k n counts accepted true here =
      stays H t l (Release k Read) write_mode n counts accepted (given k (H t).write_held here ∙ sym (unwritten k here accepted))
  writers_release_read k n counts accepted false elsewhere =
      stays H t l (Release k Read) write_mode n counts accepted (not_given k (H t).write_held elsewhere)

  writers_accepted : (e : Event) (n : ℕ) → IsCount (λ u. has (H u).write_held l) n → refused_by (H t) e ≡ None →
      IsCount (λ u. has (after_step (H u) u (record { thread = t; event = e })).write_held l) (writers_after e l n)
  writers_accepted (Acquire k Read) n counts accepted = stays H t l (Acquire k Read) write_mode n counts accepted refl
  writers_accepted (Acquire k Write) n counts accepted = writers_acquire k n counts accepted (k == l) refl
  writers_accepted (Release k Read) n counts accepted = writers_release_read k n counts accepted (k == l) refl
  writers_accepted (Release k Write) n counts accepted = writers_release k n counts accepted (k == l) refl
  writers_accepted (Level level) n counts accepted = stays H t l (Level level) write_mode n counts accepted (has-at_level (H t).write_held level l plain)
  writers_accepted (Access kind w site) n counts accepted = stays H t l (Access kind w site) write_mode n counts accepted refl
  writers_accepted (Reuse range) n counts accepted = stays H t l (Reuse range) write_mode n counts accepted refl
  writers_accepted IgnoreOn n counts accepted = stays H t l IgnoreOn write_mode n counts accepted refl
  writers_accepted IgnoreOff n counts accepted = stays H t l IgnoreOff write_mode n counts accepted refl
  writers_accepted (Show w) n counts accepted = stays H t l (Show w) write_mode n counts accepted refl
  writers_accepted (Sync sync) n counts accepted = stays H t l (Sync sync) write_mode n counts accepted refl

  pub writers_step : (e : Event) (n : ℕ) → IsCount (λ u. has (H u).write_held l) n → (o : Option Refusal) → refused_by (H t) e ≡ o →
      IsCount (λ u. has (after_step (H u) u (record { thread = t; event = e })).write_held l) (unless_refused o (writers_after e l n) n)
  writers_step e n counts None accepted = writers_accepted e n counts accepted
  writers_step e n counts (Some why) refused = refused_stays H t l e write_mode n counts why refused
