-- Two accesses that a lock covers are in order, where no two threads hold it at once, one of them to write.
use Rattle.std.proofs.Common.{◌≡◌, ℕ, zero, suc, ◌<◌, ◌≤◌, Bool, true, false, ◌&&◌, ◌||◌, ◌==◌, not, cond, nat_le, List, slice_get, Option, Some, None, refl, ap, sym, ◌∙◌, arith, ⊎_elim, inl, inr, ◌⊎◌}
use Rattle.std.proofs.lemmas.Bool.{le-leb, eqb-true, or_left, or_right, or_cases, and_parts, and_from, both_ways, false_from_ne_true}
use Rattle.er_event.specs.declared.steps.Event.{Event}
use Rattle.er_event.specs.declared.steps.Event.TheVariants.{Acquire, Release, Access, Reuse, IgnoreOn, IgnoreOff, Show, Level, Sync}
use Rattle.er_event.specs.declared.steps.Kind.{Kind}
use Rattle.er_event.specs.declared.steps.Kind.TheVariants.{Read as reading, Write as writing}
use Rattle.er_event.specs.declared.steps.Mode.{Mode}
use Rattle.er_event.specs.declared.steps.Mode.TheVariants.{Read, Write}
use Rattle.er_event.specs.declared.steps.Step.{Step}
use Rattle.er_event.specs.Lockset.{has, is_level_lock}
use Rattle.er_event.proofs.Bools.{itself}
use Rattle.er_model.specs.Words.{Mark, Counted, Nothing, Reading, counts, cover_of, thread_of, writes, era, counted_from}
use Rattle.er_model.specs.Threads.{same_mode, is_ignoring, accepted}
use Rattle.er_model.specs.Holdings.{holdings, holdings_at}
use Rattle.er_model.specs.Answers.{covering, mark, reading_of}
use Rattle.er_model.proofs.Changes.{Accepts, write-held, gained, lost, gained-write, lost-write}
use Rattle.er_order.specs.Exclusion.{IsExclusive}
use Rattle.er_order.specs.Order.{Act, Effect, Acquired, Released, Local, sync_of, acts_of, leads, happens_before}
use Rattle.er_order.specs.Races.{is_race}
use Rattle.er_model.proofs.Search.{below_or_at}
use Rattle.er_model.proofs.Words.{era-kept, era-below}
use Rattle.er_order.proofs.Order.{happens_before-leads, happens_before-chain}
use Rattle.er_order.proofs.RaceLemmas.{not-reused, race-found}
use Rattle.er_order.proofs.StepLemmas.{act-step, agree-steps}

-- what a counted access that the lock covers says of its thread: it holds the lock, and to write it if the access is a write
record Covered (steps : List Step) (l k : ℕ) (m : Mark) : Type 0 where
  holds : has (holdings_at steps (thread_of m) k).held l ≡ true
  to_write : writes m ≡ true → has (holdings_at steps (thread_of m) k).write_held l ≡ true

module _ (steps : List Step) (l k w : ℕ) where
  covered_access : (t word : ℕ) (kind : Kind) (b : Bool) → counts (cond b Nothing (Counted t kind word (covering (accepted steps k) t kind))) w ≡ true →
      has (cover_of (cond b Nothing (Counted t kind word (covering (accepted steps k) t kind)))) l ≡ true →
      Covered steps l k (cond b Nothing (Counted t kind word (covering (accepted steps k) t kind)))
  unfolding counts cover_of writes thread_of holdings
  covered_access t word kind true counted covers = cc
  covered_access t word reading false counted covers = record { holds = covers; to_write = λ e. cc }
  covered_access t word writing false counted covers = record { holds = write-held steps t k l covers; to_write = λ e. covers }

  covered_event : (t : ℕ) (e : Event) → counts (mark (accepted steps k) t e) w ≡ true → has (cover_of (mark (accepted steps k) t e)) l ≡ true →
      Covered steps l k (mark (accepted steps k) t e)
  unfolding mark counts
  covered_event t (Access kind word site) counted covers = covered_access t word kind (is_ignoring (accepted steps k) t) counted covers
  covered_event t (Acquire lock m) counted covers = cc
  covered_event t (Release lock m) counted covers = cc
  covered_event t (Reuse range) counted covers = cc
  covered_event t IgnoreOn counted covers = cc
  covered_event t IgnoreOff counted covers = cc
  covered_event t (Show word) counted covers = cc
  covered_event t (Level n) counted covers = cc
  covered_event t (Sync sync) counted covers = cc

  covered_by : (o : Option Step) → slice_get steps k ≡ o → counts (reading_of steps k) w ≡ true → has (cover_of (reading_of steps k)) l ≡ true →
      Covered steps l k (reading_of steps k)
  unfolding reading_of counts
  covered_by None is counted covers = let never : false ≡ true = rw is at counted in cc
  covered_by (Some s) is counted covers =
      let counted' : counts (mark (accepted steps k) s.thread s.event) w ≡ true = rw is at counted in
      let covers' : has (cover_of (mark (accepted steps k) s.thread s.event)) l ≡ true = rw is at covers in
      rw is (covered_event s.thread s.event counted' covers')

  covered : counts (reading_of steps k) w ≡ true → has (cover_of (reading_of steps k)) l ≡ true → Covered steps l k (reading_of steps k)
  covered counted covers = covered_by (slice_get steps k) refl counted covers

-- what a thread takes or gives up, as order sees it
accepted_act : (steps : List Step) (n t : ℕ) (e : Event) → Accepts steps n t e → acts_of steps n ≡ Some (record { thread = t; sync = sync_of e })
accepted_act steps n t e it = act-step steps n (record { thread = t; event = e }) it.here ∙ rw it.free refl

-- what is so at one point and not at a later one changes at a step between
abbrev Turn : (ℕ → Bool) → Bool → ℕ → ℕ → Type 0
Turn p b a n = (r : ℕ) × (a ≤ r) × (r < n) × (p r ≡ b) × (p (suc r) ≡ not b)

either : (b c : Bool) → (c ≡ b) ⊎ (c ≡ not b)
either true true = inl refl
either true false = inr refl
either false true = inr refl
either false false = inl refl

never_both : (b c : Bool) → c ≡ b → c ≡ not b → ⊥
never_both true c one two = let clash : true ≡ false = sym one ∙ two in cc
never_both false c one two = let clash : false ≡ true = sym one ∙ two in cc

below_or_next : (a n : ℕ) → a ≤ suc n → (a ≤ n) ⊎ (a ≡ suc n)
below_or_next a n low = grind arith

turn : (p : ℕ → Bool) (b : Bool) (a n : ℕ) → a ≤ n → p a ≡ b → p n ≡ not b → Turn p b a n
turn p b a zero low was is = let same : a ≡ zero = omega arith in absurd (never_both b (p a) was (ap p same ∙ is))
turn p b a (suc n) low was is =
    ⊎_elim
    (λ low'.
    ⊎_elim
    (λ still. (n, low', omega arith, still, is))
    (λ then. let found = turn p b a n low' was then in (found.0, found.1, omega (arith, found.2), found.3, found.4))
    (either b (p n)))
    (λ same. absurd (never_both b (p a) was (ap p same ∙ is)))
    (below_or_next a n low)

abbrev orders_nothing : Effect → Bool
orders_nothing Local = true
orders_nothing _ = false

abbrev is_local : Option Act → Bool
is_local None = false
is_local (Some a) = orders_nothing a.sync

at_or_above : (i r : ℕ) → i ≤ r → (i < r) ⊎ (i ≡ r)
at_or_above i r low = grind arith

module _ (steps : List Step) (l k : ℕ) (plain : is_level_lock l ≡ false) (exclusive : IsExclusive steps l k) where
  abbrev holds_at : ℕ → ℕ → Bool
  holds_at t n = has (holdings_at steps t n).held l

  abbrev writes_at : ℕ → ℕ → Bool
  writes_at t n = has (holdings_at steps t n).write_held l

  abbrev order : ℕ → ℕ → Bool
  order = happens_before (acts_of steps)

  -- steps of one thread are in order, and so are a release and an acquire of the lock, one of them to write
  own_order : (t i j : ℕ) (x y : Effect) → i < j → acts_of steps i ≡ Some (record { thread = t; sync = x }) → acts_of steps j ≡ Some (record { thread = t; sync = y }) →
      order i j ≡ true
  unfolding leads
  own_order t i j x y below one two = happens_before-leads (acts_of steps) i j below (rw (one, two) (or_left (t == t) _ (itself t)))

  lock_order : (t u i j : ℕ) (m o : Mode) → i < j → acts_of steps i ≡ Some (record { thread = t; sync = Released l m }) →
      acts_of steps j ≡ Some (record { thread = u; sync = Acquired l o }) → (same_mode o Read && same_mode m Read) ≡ false → order i j ≡ true
  unfolding leads
  lock_order t u i j m o below one two apart =
      happens_before-leads (acts_of steps) i j below
      (rw (one, two) (or_right (t == u) _ (rw (itself l, apart) refl)))

  chained : (i j n : ℕ) → order i j ≡ true → order j n ≡ true → order i n ≡ true
  chained i j n one two = happens_before-chain (acts_of steps) i j n one two

  -- the release and the acquire that put an access before a later one of another thread
  module _ (t u i : ℕ) (below : i < k) (apart : t ≡ u → ⊥) (here : acts_of steps i ≡ Some (record { thread = t; sync = Local }))
      (there : acts_of steps k ≡ Some (record { thread = u; sync = Local })) where
    by_pair : (r n : ℕ) (m o : Mode) → i ≤ r → r < suc n → i ≤ n → n < k → acts_of steps r ≡ Some (record { thread = t; sync = Released l m }) →
        acts_of steps n ≡ Some (record { thread = u; sync = Acquired l o }) → (same_mode o Read && same_mode m Read) ≡ false → order i k ≡ true
    by_pair r n m o low high low' high' gave took modes =
        chained i r k (own_order t i r Local (Released l m) first here gave)
        (chained r n k (lock_order t u r n m o second gave took modes) (own_order u n k (Acquired l o) Local high' took there))
      where
        differ : (x y : Act) → Some x ≡ Some y → x ≡ y
        differ x y same = cc

        first : i < r
        first = ⊎_elim (λ before. before) (λ same. let clash : true ≡ false = ap is_local (sym here ∙ ap (acts_of steps) same ∙ gave) in cc) (at_or_above i r low)

        second : r < n
        second = ⊎_elim (λ before. before) (λ same. absurd (apart (ap (λ x. x.thread) (differ _ _ (sym gave ∙ ap (acts_of steps) same ∙ took))))) (below_or_at r n high)

    -- where the earlier one writes
    after_write : writes_at t i ≡ true → holds_at u k ≡ true → order i k ≡ true
    after_write mine yours =
        let none : holds_at u i ≡ false = false_from_ne_true (holds_at u i) (λ is. let clash = sym mine ∙ exclusive i u t (omega arith) (λ same. apart (sym same)) is in cc) in
        let took = turn (holds_at u) false i k (omega arith) none yours in
        let act = gained steps u l took.0 plain took.3 took.4 in
        let lost_it : writes_at t (suc took.0) ≡ false = exclusive (suc took.0) u t (omega (arith, took.2)) (λ same. apart (sym same)) took.4 in
        let gave = turn (writes_at t) true i (suc took.0) (omega (arith, took.1)) mine lost_it in
        by_pair gave.0 took.0 Write act.0 gave.1 gave.2 took.1 took.2
        (accepted_act steps gave.0 t (Release l Write) (lost-write steps t l gave.0 plain gave.3 gave.4))
        (accepted_act steps took.0 u (Acquire l act.0) act.1)
        (never_read act.0)
      where
        never_read : (o : Mode) → (same_mode o Read && same_mode Write Read) ≡ false
        never_read Read = refl
        never_read Write = refl

    -- where the later one writes
    before_write : holds_at t i ≡ true → writes_at u k ≡ true → order i k ≡ true
    before_write mine yours =
        let none : writes_at u i ≡ false = exclusive i t u (omega arith) apart mine in
        let took = turn (writes_at u) false i k (omega arith) none yours in
        let act = gained-write steps u l took.0 plain took.3 took.4 in
        let lost_it : holds_at t (suc took.0) ≡ false = false_from_ne_true (holds_at t (suc took.0)) (λ is. let clash = sym took.4 ∙ exclusive (suc took.0) t u (omega (arith, took.2)) apart is in cc) in
        let gave = turn (holds_at t) true i (suc took.0) (omega (arith, took.1)) mine lost_it in
        let gift = lost steps t l gave.0 plain gave.3 gave.4 in
        by_pair gave.0 took.0 gift.0 Write gave.1 gave.2 took.1 took.2
        (accepted_act steps gave.0 t (Release l gift.0) gift.1)
        (accepted_act steps took.0 u (Acquire l Write) act)
        (never_write gift.0)
      where
        never_write : (m : Mode) → (same_mode Write Read && same_mode m Read) ≡ false
        never_write m = refl

module _ (steps : List Step) (l i k v w : ℕ) (plain : is_level_lock l ≡ false) (exclusive : IsExclusive steps l k) (below : i < k)
    (one : counts (reading_of steps i) v ≡ true) (two : counts (reading_of steps k) w ≡ true)
    (wrote : (writes (reading_of steps i) || writes (reading_of steps k)) ≡ true)
    (covers : has (cover_of (reading_of steps i)) l ≡ true) (covers' : has (cover_of (reading_of steps k)) l ≡ true) where
  abbrev t : ℕ
  t = thread_of (reading_of steps i)

  abbrev u : ℕ
  u = thread_of (reading_of steps k)

  here : acts_of steps i ≡ Some (record { thread = t; sync = Local })
  here = agree-steps steps i v one

  there : acts_of steps k ≡ Some (record { thread = u; sync = Local })
  there = agree-steps steps k w two

  first : Covered steps l i (reading_of steps i)
  first = covered steps l i v one covers

  second : Covered steps l k (reading_of steps k)
  second = covered steps l k w two covers'

  by_threads : (b : Bool) → (t == u) ≡ b → happens_before (acts_of steps) i k ≡ true
  by_threads true same =
      own_order steps l k plain exclusive t i k Local Local below here (there ∙ ap (λ x. Some (record { thread = x; sync = Local })) (sym (eqb-true t u same)))
  by_threads false other =
      let apart : t ≡ u → ⊥ = λ same. let clash : true ≡ false = sym (sym (ap (λ x. t == x) same) ∙ itself t) ∙ other in cc in
      ⊎_elim
      (λ wrote'. after_write steps l k plain exclusive t u i below apart here there (first.to_write wrote') second.holds)
      (λ wrote'. before_write steps l k plain exclusive t u i below apart here there first.holds (second.to_write wrote'))
      (or_cases (writes (reading_of steps i)) (writes (reading_of steps k)) wrote)

  -- two accesses that the lock covers, one of them a write
  pub covered-pair : happens_before (acts_of steps) i k ≡ true
  covered-pair = by_threads (t == u) refl

-- a word that the lock covers throughout an era
pub covered-word : (steps : List Step) (l w k : ℕ) → is_level_lock l ≡ false → IsExclusive steps l k →
    ((j : ℕ) → j ≤ k → counted_from (reading_of steps) w (era (reading_of steps) w (suc k)) j ≡ true → has (cover_of (reading_of steps j)) l ≡ true) →
    is_race (happens_before (acts_of steps)) (reading_of steps) w k ≡ false
covered-word steps l w k plain exclusive throughout =
    false_from_ne_true (is_race (happens_before (acts_of steps)) (reading_of steps) w k) (λ race.
    let r : Reading = reading_of steps in
    let found = race-found (happens_before (acts_of steps)) r w k race in
    let start : era r w (suc k) ≤ k = rw (era-kept r w k (not-reused (r k) w found.3)) (era-below r w k) in
    both_ways (happens_before (acts_of steps) found.0 k) found.5
    (covered-pair steps l found.0 k w w plain exclusive found.1
    ((and_parts (nat_le (era r w (suc k)) found.0) (counts (r found.0) w) found.2).1)
    found.3
    found.4
    (throughout found.0 (omega (arith, found.1)) found.2)
    (throughout k (omega arith) (and_from (nat_le (era r w (suc k)) k) (counts (r k) w) (le-leb (era r w (suc k)) k start) found.3))))
