-- Facts of happens-before: more order gives fewer races, with no order each shared write is in one, and an era's race is reported once.
use Rattle.std.proofs.Common.{◌≡◌, ℕ, suc, ◌<◌, ◌≤◌, Bool, true, false, ◌&&◌, ◌||◌, ◌==◌, not, nat_le, List, slice_get, Option, Some, None, refl, sym, ◌∙◌, arith, ⊎_elim, inl, inr, ◌⊎◌}
use Rattle.std.proofs.lemmas.Bool.{le-leb, leb-true, eq-eqb, eqb-true, or_left, or_right, and_parts, and_from, both_ways, not-true, not_from_false, false_from_ne_true}
use Rattle.er_event.specs.declared.refusals.Refusal.{Refusal}
use Rattle.er_model.specs.Search.{every_below}
use Rattle.er_model.specs.Words.{Reading, counts, thread_of, writes, era, counted_from}
use Rattle.er_model.specs.Threads.{refusal, accepted}
use Rattle.er_event.specs.declared.steps.Step.{Step}
use Rattle.er_model.proofs.Search.{every_below-all, least_below-Some, least_below-first}
use Rattle.er_model.proofs.Meaning.{some_below-found, some_below-from, every_below-at}
use Rattle.er_model.proofs.Words.{era-kept, era-below}
use Rattle.er_model.specs.Answers.{reading_of}
use Rattle.er_order.specs.Order.{Local, Act, sync_of, act_unless, acts_of, leads, leads_from, happens_before}
use Rattle.er_order.specs.Races.{Order, is_race, had_race, is_reported}
use Rattle.er_order.proofs.Order.{happens_before-least}
use Rattle.er_order.proofs.Searches.{least-there}
use Rattle.er_order.proofs.StepLemmas.{agree-steps}
use Rattle.er_order.proofs.RaceLemmas.{not-reused, era-within, race-found, race-from}

pub more-unordered : (less more : Order) (r : Reading) (w k : ℕ) → ((j k : ℕ) → less j k ≡ true → more j k ≡ true) →
    is_race more r w k ≡ true → is_race less r w k ≡ true
more-unordered less more r w k within e =
    let found = race-found more r w k e in
    race-from less r w k
    (found.0, found.1, found.2, found.3, found.4, false_from_ne_true (less found.0 k) (λ yes'. both_ways (more found.0 k) found.5 (within found.0 k yes')))

module _ (order : Order) (r : Reading) (w n : ℕ) where
  abbrev in_era : ℕ → Bool
  in_era k = counted_from r w (era r w n) k

  -- two accesses of the era, the later one of which isn't in order
  pub pair-race : (j k : ℕ) → j < k → k < n → in_era j ≡ true → in_era k ≡ true → (writes (r j) || writes (r k)) ≡ true → order j k ≡ false → had_race order r w n ≡ true
  unfolding had_race
  pair-race j k low below at_j at_k wrote apart =
      let parts = and_parts (nat_le (era r w n) k) (counts (r k) w) at_k in
      let above = leb-true (era r w n) k parts.0 in
      let same : era r w (suc k) ≡ era r w n = era-within r w (suc k) n (omega arith) (omega arith) in
      some_below-from n (λ i. in_era i && is_race order r w i) k below
      (and_from (in_era k) (is_race order r w k) at_k (race-from order r w k (j, low, rw same at_j, parts.1, wrote, apart)))

  -- the first race of the era is reported
  pub had-reported : had_race order r w n ≡ true → (i : ℕ) × (i < n) × (era r w (suc i) ≡ era r w n) × (counts (r i) w ≡ true) × (is_reported order r w i ≡ true)
  unfolding had_race is_reported
  had-reported e =
      let some = some_below-found n (λ i. in_era i && is_race order r w i) e in
      let least = least-there n some.0 (λ i. in_era i && is_race order r w i) some.1 some.2 in
      let found = least_below-Some n (λ i. in_era i && is_race order r w i) least.0 least.1 in
      let both = and_parts (in_era least.0) (is_race order r w least.0) found.1 in
      let parts = and_parts (nat_le (era r w n) least.0) (counts (r least.0) w) both.0 in
      let above = leb-true (era r w n) least.0 parts.0 in
      let low = found.0 in
      let same : era r w (suc least.0) ≡ era r w n = era-within r w (suc least.0) n (omega arith) (omega arith) in (
        least.0,
        found.0,
        same,
        parts.1,
        and_from (is_race order r w least.0) (every_below least.0 (λ j. not (counted_from r w (era r w (suc least.0)) j && is_race order r w j))) both.1
            (rw same (every_below-all least.0 (λ j. not (in_era j && is_race order r w j))
            (λ j before. not_from_false (in_era j && is_race order r w j) (least_below-first n (λ i. in_era i && is_race order r w i) least.0 least.1 j before)))),
      )

-- and no other one of that era is
pub reported-once : (order : Order) (r : Reading) (w i k : ℕ) → i < k → era r w (suc i) ≡ era r w (suc k) → is_reported order r w i ≡ true → is_reported order r w k ≡ true → ⊥
unfolding is_reported
reported-once order r w i k below same at_i at_k =
    let first = (and_parts (is_race order r w i) (every_below i (λ j. not (counted_from r w (era r w (suc i)) j && is_race order r w j))) at_i).0 in
    let none = every_below-at k (λ j. not (counted_from r w (era r w (suc k)) j && is_race order r w j)) (and_parts (is_race order r w k) (every_below k (λ j. not (counted_from r w (era r w (suc k)) j && is_race order r w j))) at_k).1 i below in
    let found = race-found order r w i first in
    let start : era r w (suc k) ≤ i = rw (← same, era-kept r w i (not-reused (r i) w found.3)) (era-below r w i) in
    both_ways (counted_from r w (era r w (suc k)) i && is_race order r w i)
    (not-true (counted_from r w (era r w (suc k)) i && is_race order r w i) none)
    (and_from (counted_from r w (era r w (suc k)) i) (is_race order r w i) (and_from (nat_le (era r w (suc k)) i) (counts (r i) w) (le-leb (era r w (suc k)) i start) found.3) first)

-- two accesses, one of them a write, neither of which comes before the other
module _ (order : Order) (r : Reading) (w n : ℕ) where
  pub apart-race : (i k : ℕ) → i < n → k < n → counted_from r w (era r w n) i ≡ true → counted_from r w (era r w n) k ≡ true → writes (r i) ≡ true →
      (thread_of (r i) ≡ thread_of (r k) → ⊥) → order i k ≡ false → order k i ≡ false → had_race order r w n ≡ true
  apart-race i k low_i low_k at_i at_k wrote other one two =
      ⊎_elim
      (λ before. pair-race order r w n i k before low_k at_i at_k (or_left (writes (r i)) (writes (r k)) wrote) one)
      (λ rest.
      ⊎_elim
      (λ after. pair-race order r w n k i after low_i at_k at_i (or_right (writes (r k)) (writes (r i)) wrote) two)
      (λ same. absurd (other (rw same refl)))
      rest)
      (sides i k)
    where
      sides : (i k : ℕ) → (i < k) ⊎ ((k < i) ⊎ (i ≡ k))
      sides i k = grind arith

  counted_at : (i : ℕ) → counted_from r w (era r w n) i ≡ true → counts (r i) w ≡ true
  counted_at i at = (and_parts (nat_le (era r w n) i) (counts (r i) w) at).1

  -- where only a thread's own accesses come in order
  module _ (own : (j k : ℕ) → counts (r j) w ≡ true → counts (r k) w ≡ true → order j k ≡ true → thread_of (r j) ≡ thread_of (r k)) where
    pub shared-race : (i k : ℕ) → i < n → k < n → counted_from r w (era r w n) i ≡ true → counted_from r w (era r w n) k ≡ true → writes (r i) ≡ true →
        (thread_of (r i) ≡ thread_of (r k) → ⊥) → had_race order r w n ≡ true
    shared-race i k low_i low_k at_i at_k wrote other =
        apart-race i k low_i low_k at_i at_k wrote other
        (false_from_ne_true (order i k) (λ e. other (own i k (counted_at i at_i) (counted_at k at_k) e)))
        (false_from_ne_true (order k i) (λ e. other (sym (own k i (counted_at k at_k) (counted_at i at_i) e))))

-- a list whose steps hand nothing on
same_thread : Option Act → Option Act → Bool
same_thread (Some a) (Some b) = a.thread == b.thread
same_thread _ _ = false

abbrev IsIdle : Option Act → Type 0
IsIdle o = (a : Act) → o ≡ Some a → a.sync ≡ Local

or_nothing : (b : Bool) → (b || false) ≡ true → b ≡ true
or_nothing true e = refl
or_nothing false e = cc

leads_same : (o p : Option Act) → IsIdle o → IsIdle p → leads_from o p ≡ true → same_thread o p ≡ true
unfolding same_thread leads
leads_same None p one two e = cc
leads_same (Some a) None one two e = cc
leads_same (Some a) (Some b) one two e = or_nothing (a.thread == b.thread) (rw (one a refl, two b refl) at e)

same_trans : (o p q : Option Act) → same_thread o p ≡ true → same_thread p q ≡ true → same_thread o q ≡ true
unfolding same_thread
same_trans None p q e f = cc
same_trans (Some a) None q e f = cc
same_trans (Some a) (Some b) None e f = cc
same_trans (Some a) (Some b) (Some c) e f = eq-eqb a.thread c.thread (eqb-true a.thread b.thread e ∙ eqb-true b.thread c.thread f)

idle_act : (o : Option Refusal) (s : Step) → sync_of s.event ≡ Local → IsIdle (act_unless o s)
idle_act None s idle a e = let same : record { thread = s.thread; sync = sync_of s.event } ≡ a = cc in rw (← same) idle
idle_act (Some why) s idle a e = cc

module _ (steps : List Step) (idle : (k : ℕ) (s : Step) → slice_get steps k ≡ Some s → sync_of s.event ≡ Local) where
  idle_at : (k : ℕ) (o : Option Step) → slice_get steps k ≡ o → IsIdle (acts_of steps k)
  unfolding acts_of
  idle_at k None is = rw is (λ a e. cc)
  idle_at k (Some s) is = rw is (idle_act (refusal (accepted steps k) s.thread s.event) s (idle k s is))

  idle-same : (j k : ℕ) → happens_before (acts_of steps) j k ≡ true → same_thread (acts_of steps j) (acts_of steps k) ≡ true
  idle-same =
      happens_before-least (acts_of steps) (λ j k. same_thread (acts_of steps j) (acts_of steps k))
      (λ j k below led. leads_same (acts_of steps j) (acts_of steps k) (idle_at j (slice_get steps j) refl) (idle_at k (slice_get steps k) refl) led)
      (λ i j k first below led. same_trans (acts_of steps i) (acts_of steps j) (acts_of steps k) first
      (leads_same (acts_of steps j) (acts_of steps k) (idle_at j (slice_get steps j) refl) (idle_at k (slice_get steps k) refl) led))

  own_threads : (w j k : ℕ) → counts (reading_of steps j) w ≡ true → counts (reading_of steps k) w ≡ true → happens_before (acts_of steps) j k ≡ true →
      thread_of (reading_of steps j) ≡ thread_of (reading_of steps k)
  unfolding same_thread
  own_threads w j k at_j at_k e =
      let same = idle-same j k e in
      eqb-true (thread_of (reading_of steps j)) (thread_of (reading_of steps k)) (rw (agree-steps steps j w at_j, agree-steps steps k w at_k) at same)

  pub idle-race : (w n i k : ℕ) → i < n → k < n → counted_from (reading_of steps) w (era (reading_of steps) w n) i ≡ true →
      counted_from (reading_of steps) w (era (reading_of steps) w n) k ≡ true → writes (reading_of steps i) ≡ true →
      (thread_of (reading_of steps i) ≡ thread_of (reading_of steps k) → ⊥) → had_race (happens_before (acts_of steps)) (reading_of steps) w n ≡ true
  idle-race w n i k low_i low_k at_i at_k wrote other = shared-race (happens_before (acts_of steps)) (reading_of steps) w n (own_threads w) i k low_i low_k at_i at_k wrote other

-- two threads of which neither has a step that happens before one of the other's
module _ (steps : List Step) (w n i k : ℕ)
    (apart : (a b : Act) (x y : ℕ) → acts_of steps x ≡ Some a → acts_of steps y ≡ Some b →
    ((a.thread ≡ thread_of (reading_of steps i)) × (b.thread ≡ thread_of (reading_of steps k))) ⊎
    ((a.thread ≡ thread_of (reading_of steps k)) × (b.thread ≡ thread_of (reading_of steps i))) → happens_before (acts_of steps) x y ≡ false) where
  abbrev act_at : ℕ → Act
  act_at x = record { thread = thread_of (reading_of steps x); sync = Local }

  pub threads-race : i < n → k < n → counted_from (reading_of steps) w (era (reading_of steps) w n) i ≡ true →
      counted_from (reading_of steps) w (era (reading_of steps) w n) k ≡ true → writes (reading_of steps i) ≡ true →
      (thread_of (reading_of steps i) ≡ thread_of (reading_of steps k) → ⊥) → had_race (happens_before (acts_of steps)) (reading_of steps) w n ≡ true
  threads-race low_i low_k at_i at_k wrote other =
      let is_i = agree-steps steps i w (counted_at (happens_before (acts_of steps)) (reading_of steps) w n i at_i) in
      let is_k = agree-steps steps k w (counted_at (happens_before (acts_of steps)) (reading_of steps) w n k at_k) in
      apart-race (happens_before (acts_of steps)) (reading_of steps) w n i k low_i low_k at_i at_k wrote other
      (apart (act_at i) (act_at k) i k is_i is_k (inl (refl, refl)))
      (apart (act_at k) (act_at i) k i is_k is_i (inr (refl, refl)))
