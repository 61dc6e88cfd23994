-- An explanation explains the access at k exactly where the positions up to k agree with each of its claims.
use Rattle.std.proofs.Common.{◌≡◌, ◌<◌, ◌≤◌, ◌==◌, ◌⊎◌, ℕ, suc, cond, Bool, true, false, not, ◌&&◌, List, length, All, slice_get, slice_index_or, Option, Some, None, refl, sym, ap, ◌∙◌, arith, nat_le, ⊎_elim, inl, inr}
use Rattle.std.proofs.lemmas.Bool.{le-leb, leb-true, leb-false, and_parts, and_from, eqb-true, cases_lt, cases_eq, false_from_ne_true, both_ways}
use Rattle.std.proofs.lemmas.Option.{same_Some}
use Rattle.er_event.specs.declared.steps.Event.{Event}
use Rattle.er_event.specs.declared.steps.Event.TheVariants.{Acquire, Release, Access, Reuse, IgnoreOn, IgnoreOff, Show, Level, Sync}
use Rattle.er_event.specs.declared.steps.Kind.{Kind}
use Rattle.er_event.specs.declared.steps.Step.{Step}
use Rattle.er_event.specs.Lockset.{has}
use Rattle.er_model.specs.Search.{least_below}
use Rattle.er_model.specs.Words.{Counted, Nothing, Reading, counts, thread_of, writes, cover_of, era, counted_from, first, join}
use Rattle.er_model.specs.Threads.{is_ignoring, accepted}
use Rattle.er_model.specs.Answers.{covering, mark, mark_of, reading_of}
use Rattle.er_model.specs.Explanations.{Explanation, first_write, first_uncovered, latest, ExplainsAccess, word_of, word_in}
use Rattle.er_model.proofs.Meaning.{least_below-means}
use Rattle.er_check.specs.Claims.{IsLeast, Agrees, IsAccess, NamesAccesses}

-- a search for the least position from a start on finds the named one exactly where each position agrees
module _ (n start named : ℕ) (test passes : ℕ → Bool)
    (to : (i : ℕ) → start ≤ i → passes i ≡ true → test i ≡ true) (from : (i : ℕ) → test i ≡ true → (start ≤ i) × (passes i ≡ true)) where
  pub least-from : start ≤ named → named < n → ((i : ℕ) → i < n → IsLeast start named i (passes i)) → least_below n test ≡ Some named
  least-from low below agrees =
      (least_below-means n test named).1 (
        below,
        to named low ((agrees named below low (omega arith)).1 refl),
        (λ i sooner. false_from_ne_true (test i) (λ found.
            let at = from i found in
            let same : i ≡ named = (agrees i (omega arith) at.0 (omega arith)).0 at.1 in
            omega arith)),
      )

  no_sooner : ((i : ℕ) → i < named → test i ≡ false) → (i : ℕ) → start ≤ i → i ≤ named → passes i ≡ true → (b : Bool) → nat_le named i ≡ b → i ≡ named
  no_sooner none i low high here true at = omega (arith, leb-true named i at)
  no_sooner none i low high here false before = absurd (both_ways (test i) (none i (leb-false named i before)) (to i low here))

  pub least-parts : least_below n test ≡ Some named → (start ≤ named) × (named < n) × (passes named ≡ true) × ((i : ℕ) → IsLeast start named i (passes i))
  least-parts least =
      let found = (least_below-means n test named).0 least in
      let here = from named found.1 in (
        here.0,
        found.0,
        here.1,
        (λ i low high. (
          (λ passing. no_sooner found.2 i low high passing (nat_le named i) refl),
          (λ same. rw same here.1),
        )),
      )

-- the searches of an explanation, by what they look for from a start on
module _ (r : Reading) (w start : ℕ) where
  counted_to : (i : ℕ) → start ≤ i → counts (r i) w ≡ true → counted_from r w start i ≡ true
  counted_to i low counted = and_from (nat_le start i) (counts (r i) w) (le-leb start i low) counted

  counted_at : (i : ℕ) → counted_from r w start i ≡ true → (start ≤ i) × (counts (r i) w ≡ true)
  counted_at i found = let parts = and_parts (nat_le start i) (counts (r i) w) found in (leb-true start i parts.0, parts.1)

  to_found : (q : ℕ → Bool) (i : ℕ) → start ≤ i → (counts (r i) w && q i) ≡ true → (counted_from r w start i && q i) ≡ true
  to_found q i low passes =
      let parts = and_parts (counts (r i) w) (q i) passes in
      and_from (counted_from r w start i) (q i) (counted_to i low parts.0) parts.1

  found_at : (q : ℕ → Bool) (i : ℕ) → (counted_from r w start i && q i) ≡ true → (start ≤ i) × ((counts (r i) w && q i) ≡ true)
  found_at q i found =
      let parts = and_parts (counted_from r w start i) (q i) found in
      let at = counted_at i parts.0 in
      (at.0, and_from (counts (r i) w) (q i) at.1 parts.1)

  pub counted-from : (n named : ℕ) → start ≤ named → named < n → ((i : ℕ) → i < n → IsLeast start named i (counts (r i) w)) →
      least_below n (counted_from r w start) ≡ Some named
  counted-from n named = least-from n start named (counted_from r w start) (λ i. counts (r i) w) counted_to counted_at

  pub counted-parts : (n named : ℕ) → least_below n (counted_from r w start) ≡ Some named →
      (start ≤ named) × (named < n) × (counts (r named) w ≡ true) × ((i : ℕ) → IsLeast start named i (counts (r i) w))
  counted-parts n named = least-parts n start named (counted_from r w start) (λ i. counts (r i) w) counted_to counted_at

  pub found-from : (q : ℕ → Bool) (n named : ℕ) → start ≤ named → named < n → ((i : ℕ) → i < n → IsLeast start named i (counts (r i) w && q i)) →
      least_below n (λ i. counted_from r w start i && q i) ≡ Some named
  found-from q n named = least-from n start named (λ i. counted_from r w start i && q i) (λ i. counts (r i) w && q i) (to_found q) (found_at q)

  pub found-parts : (q : ℕ → Bool) (n named : ℕ) → least_below n (λ i. counted_from r w start i && q i) ≡ Some named →
      (start ≤ named) × (named < n) × (counts (r named) w ≡ true) × ((i : ℕ) → IsLeast start named i (counts (r i) w && q i))
  found-parts q n named found =
      let parts = least-parts n start named (λ i. counted_from r w start i && q i) (λ i. counts (r i) w && q i) (to_found q) (found_at q) found in
      (parts.0, parts.1, (and_parts (counts (r named) w) (q named) parts.2).0, parts.3)

-- a counted access is an access of its step's thread
counted_access : (t w word : ℕ) (kind : Kind) (cover : List ℕ) (b : Bool) → counts (cond b Nothing (Counted t kind word cover)) w ≡ true →
    (word == w) ≡ true
unfolding counts
counted_access t w word kind cover true counted = cc
counted_access t w word kind cover false counted = counted

counted_thread : (t w word : ℕ) (kind : Kind) (cover : List ℕ) (b : Bool) → counts (cond b Nothing (Counted t kind word cover)) w ≡ true →
    thread_of (cond b Nothing (Counted t kind word cover)) ≡ t
unfolding counts thread_of
counted_thread t w word kind cover true counted = cc
counted_thread t w word kind cover false counted = refl

counted_event : (past : List Step) (t w : ℕ) (e : Event) → counts (mark past t e) w ≡ true → (word_in e ≡ Some w) × (thread_of (mark past t e) ≡ t)
unfolding mark counts
counted_event past t w (Access kind word site) counted =
    let same : word ≡ w = eqb-true word w (counted_access t w word kind (covering past t kind) (is_ignoring past t) counted) in
    (ap Some same, counted_thread t w word kind (covering past t kind) (is_ignoring past t) counted)
counted_event past t w (Acquire l m) counted = cc
counted_event past t w (Release l m) counted = cc
counted_event past t w (Reuse range) counted = cc
counted_event past t w IgnoreOn counted = cc
counted_event past t w IgnoreOff counted = cc
counted_event past t w (Show word) counted = cc
counted_event past t w (Level n) counted = cc
counted_event past t w (Sync sync) counted = cc

counted_mark : (past : List Step) (w : ℕ) (o : Option Step) → counts (mark_of past o) w ≡ true → (word_of o ≡ Some w) × ((s : Step) → o ≡ Some s → thread_of (mark_of past o) ≡ s.thread)
unfolding counts
counted_mark past w None counted = cc
counted_mark past w (Some s) counted =
    let found = counted_event past s.thread w s.event counted in
    (found.0, (λ x is. let same : s ≡ x = same_Some s x is in found.1 ∙ ap (λ (y : Step). y.thread) same))

module _ (steps : List Step) (w : ℕ) where
  abbrev r : Reading
  r = reading_of steps

  is_access : (i : ℕ) → counts (r i) w ≡ true → word_of (slice_get steps i) ≡ Some w
  unfolding reading_of
  is_access i counted = (counted_mark (accepted steps i) w (slice_get steps i) counted).0

  by_thread : (i : ℕ) (s : Step) → slice_get steps i ≡ Some s → counts (r i) w ≡ true → thread_of (r i) ≡ s.thread
  unfolding reading_of
  by_thread i s is counted = (counted_mark (accepted steps i) w (slice_get steps i) counted).1 s is

  -- an explanation names an access first
  pub explained-first : (k : ℕ) (e : Explanation) → ExplainsAccess r w e k → word_of (slice_get steps e.first) ≡ Some w
  unfolding first
  explained-first k e explained = is_access e.first (counted-parts r w (era r w (suc k)) (suc k) e.first explained.is_first).2

  module _ (k : ℕ) (e : Explanation) (s : Step) (is : slice_get steps e.first ≡ Some s) where
    abbrev start : ℕ
    start = era r w (suc k)

    -- what agrees with each claim explains the access
    module _ (named : NamesAccesses steps w start k e) (agrees : (i : ℕ) → i ≤ k → Agrees w start s.thread e i (r i)) where
      first_found : first r w (suc k) ≡ Some e.first
      unfolding first
      first_found = counted-from r w start (suc k) e.first named.first.low (omega (arith, named.first.high)) (λ i below. (agrees i (omega arith)).first)

      -- the first access counts, so its thread is the step's
      first_counts : counts (r e.first) w ≡ true
      first_counts = ((agrees e.first named.first.high).first named.first.low (omega arith)).1 refl

      join_found : join r w (suc k) ≡ Some e.join
      unfolding join
      join_found =
          let thread : thread_of (r e.first) ≡ s.thread = by_thread e.first s is first_counts in
          rw (first_found, thread)
          (found-from r w start (λ i. not (s.thread == thread_of (r i))) (suc k) e.join named.join.low (omega (arith, named.join.high)) (λ i below. (agrees i (omega arith)).join))

      write_found : first_write r w (suc k) e.join ≡ Some e.write
      unfolding first_write
      write_found =
          found-from r w e.join (λ i. writes (r i)) (suc k) e.write named.write.low (omega (arith, named.write.high)) (λ i below. (agrees i (omega arith)).write)

      pairs_found : All (λ pair. first_uncovered r w (suc k) e.join pair.0 ≡ Some pair.1) e.uncovered
      unfolding first_uncovered
      pairs_found j d inside =
          let pair = slice_index_or e.uncovered j d in
          let at = named.uncovers j d inside in
          found-from r w (suc e.join) (λ i. not (has (cover_of (r i)) pair.0)) (suc k) pair.1 at.low (omega (arith, at.high)) (λ i below. (agrees i (omega arith)).uncovers j d inside)

      pub explains-from : latest e.write e.uncovered ≡ k → ExplainsAccess r w e k
      explains-from ends = record {
        is_first = first_found;
        is_join = join_found;
        is_write = write_found;
        each_once = (agrees e.join named.join.high).each_once refl;
        uncovers = pairs_found;
        ends_at = ends;
      }

    -- and where it is explained, each position agrees
    module _ (explained : ExplainsAccess r w e k) where
      first_parts : (start ≤ e.first) × (e.first < suc k) × (counts (r e.first) w ≡ true) × ((i : ℕ) → IsLeast start e.first i (counts (r i) w))
      unfolding first
      first_parts = counted-parts r w start (suc k) e.first explained.is_first

      join_parts : (start ≤ e.join) × (e.join < suc k) × (counts (r e.join) w ≡ true) × ((i : ℕ) → IsLeast start e.join i (counts (r i) w && not (s.thread == thread_of (r i))))
      unfolding join
      join_parts =
          let thread : thread_of (r e.first) ≡ s.thread = by_thread e.first s is first_parts.2 in
          found-parts r w start (λ i. not (s.thread == thread_of (r i))) (suc k) e.join (rw (explained.is_first, thread) at explained.is_join)

      write_parts : (e.join ≤ e.write) × (e.write < suc k) × (counts (r e.write) w ≡ true) × ((i : ℕ) → IsLeast e.join e.write i (counts (r i) w && writes (r i)))
      unfolding first_write
      write_parts = found-parts r w e.join (λ i. writes (r i)) (suc k) e.write explained.is_write

      pair_parts : (j : ℕ) (d : ℕ × ℕ) → j < length e.uncovered → (
          let pair = slice_index_or e.uncovered j d in
          (suc e.join ≤ pair.1) × (pair.1 < suc k) × (counts (r pair.1) w ≡ true) × ((i : ℕ) → IsLeast (suc e.join) pair.1 i (counts (r i) w && not (has (cover_of (r i)) pair.0))))
      unfolding first_uncovered
      pair_parts j d inside =
          let pair = slice_index_or e.uncovered j d in
          found-parts r w (suc e.join) (λ i. not (has (cover_of (r i)) pair.0)) (suc k) pair.1 (explained.uncovers j d inside)

      pub explained-names : NamesAccesses steps w start k e
      explained-names = record {
        first = record { low = first_parts.0; high = omega (arith, first_parts.1); access = is_access e.first first_parts.2 };
        join = record { low = join_parts.0; high = omega (arith, join_parts.1); access = is_access e.join join_parts.2 };
        write = record { low = write_parts.0; high = omega (arith, write_parts.1); access = is_access e.write write_parts.2 };
        uncovers = λ j d inside. (
            let at = pair_parts j d inside in
            record { low = at.0; high = omega (arith, at.1); access = is_access (slice_index_or e.uncovered j d).1 at.2 });
      }

      pub explained-agrees : (i : ℕ) → Agrees w start s.thread e i (r i)
      explained-agrees i = record {
        first = first_parts.3 i;
        join = join_parts.3 i;
        write = write_parts.3 i;
        uncovers = λ j d inside. (pair_parts j d inside).3 i;
        each_once = λ same. rw same explained.each_once;
      }

  -- what is no access of the word's era agrees with what names accesses of it
  module _ (start k t : ℕ) (e : Explanation) (named : NamesAccesses steps w start k e) (i : ℕ) (other : (i < start) ⊎ (word_of (slice_get steps i) ≡ Some w → ⊥)) where
    not_counted : (from : ℕ) → start ≤ from → from ≤ i → counts (r i) w ≡ true → ⊥
    not_counted from low high counted = ⊎_elim (λ before. omega arith) (λ none. none (is_access i counted)) other

    not_named : (from at : ℕ) → start ≤ from → IsAccess steps w from k at → i ≡ at → ⊥
    not_named from at low access same =
        ⊎_elim (λ before. omega (arith, access.low)) (λ none. none (rw same access.access)) other

    least-other : (from at : ℕ) (passes : Bool) → start ≤ from → IsAccess steps w from k at → (passes ≡ true → counts (r i) w ≡ true) → IsLeast from at i passes
    least-other from at passes low access counted above below = (
      (λ passing. absurd (not_counted from low above (counted passing))),
      (λ same. absurd (not_named from at low access same)),
    )

    pub agrees-other : Agrees w start t e i (r i)
    agrees-other = record {
      first = least-other start e.first (counts (r i) w) (omega arith) named.first (λ counted. counted);
      join = least-other start e.join (counts (r i) w && not (t == thread_of (r i))) (omega arith) named.join (λ passing. (and_parts (counts (r i) w) (not (t == thread_of (r i))) passing).0);
      write = least-other e.join e.write (counts (r i) w && writes (r i)) named.join.low named.write (λ passing. (and_parts (counts (r i) w) (writes (r i)) passing).0);
      uncovers = λ j d inside. (
          let pair = slice_index_or e.uncovered j d in
          least-other (suc e.join) pair.1 (counts (r i) w && not (has (cover_of (r i)) pair.0)) (omega (arith, named.join.low)) (named.uncovers j d inside)
          (λ passing. (and_parts (counts (r i) w) (not (has (cover_of (r i)) pair.0)) passing).0));
      each_once = λ same. absurd (not_named start e.join (omega arith) named.join same);
    }

  -- so a step agrees where, if it is an access of the word's era, it does by what its thread holds
  names_word : (o : Option ℕ) → (o ≡ Some w) ⊎ (o ≡ Some w → ⊥)
  names_word None = inr (λ never. cc)
  names_word (Some word) = ⊎_elim (λ same. inl (ap Some same)) (λ differ. inr (λ is. differ (same_Some word w is))) (cases_eq word w)

  module _ (start k t : ℕ) (e : Explanation) (named : NamesAccesses steps w start k e) (i : ℕ) (s : Step) (is : slice_get steps i ≡ Some s) where
    event-word : word_of (slice_get steps i) ≡ word_in s.event
    event-word = ap word_of is

    pub agrees-step : (start ≤ i → word_in s.event ≡ Some w → Agrees w start t e i (r i)) → Agrees w start t e i (r i)
    agrees-step by_access =
        ⊎_elim
        (λ before. agrees-other start k t e named i (inl before))
        (λ low. ⊎_elim
        (λ access. by_access low access)
        (λ none. agrees-other start k t e named i (inr (λ access. none (sym event-word ∙ access))))
        (names_word (word_in s.event)))
        (cases_lt i start)
