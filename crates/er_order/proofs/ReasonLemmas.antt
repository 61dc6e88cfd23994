-- A reported race is unordered with the access that the search finds: another thread's access of the same word.
use Rattle.std.proofs.Common.{◌≡◌, ℕ, ◌<◌, ◌≤◌, Bool, true, false, ◌&&◌, ◌||◌, ◌==◌, not, cond, nat_le, is_some, suc, List, slice_get, Option, Some, None, Ok, refl, ap, sym, ◌∙◌, ⊎_elim, inl, inr, ◌⊎◌}
use Rattle.std.proofs.lemmas.Bool.{eq-eqb, eqb-true, or_left, and_parts, and_from, both_ways, not-true, not_from_false}
use Rattle.er_event.specs.declared.addresses.PageRange.{PageRange}
use Rattle.er_event.specs.declared.refusals.Refusal.{Refusal}
use Rattle.er_event.specs.declared.steps.Event.{Event}
use Rattle.er_event.specs.declared.steps.Event.TheVariants.{Acquire, Release, Access, Reuse, IgnoreOn, IgnoreOff, Show, Level, Sync}
use Rattle.er_event.specs.declared.steps.Kind.{Kind}
use Rattle.er_event.specs.declared.steps.Reply.{Reply}
use Rattle.er_event.specs.declared.steps.Reply.TheVariants.{Done, Quiet, Race, Ignored}
use Rattle.er_event.specs.declared.steps.Step.{Step}
use Rattle.er_model.specs.Search.{every_below}
use Rattle.er_model.specs.Words.{Counted, Nothing, Reading, counts, thread_of, writes, era, counted_from, is_within}
use Rattle.er_model.specs.Threads.{refusal, accepted, is_ignoring}
use Rattle.er_model.specs.Answers.{answer_unless, covering, mark, reading_of, reply}
use Rattle.er_model.specs.Explanations.{word_in, word_of}
use Rattle.er_model.proofs.Search.{least_below-Some}
use Rattle.er_model.proofs.Words.{era-kept}
use Rattle.er_order.specs.Order.{Effect, Local, sync_of, act_unless, act_after, acts_of, happens_before, leads}
use Rattle.er_order.specs.Races.{Order, conflicts, had_race, is_race, is_reported, last_use, is_in_use, word_in_use, reuse_reply, order_answer, order_answer_to, order_reply}
use Rattle.er_order.specs.Reasons.{last_unordered, word_raced_by, word_raced_in, word_raced, use_of, unordered_by, unordered_in, unordered_with}
use Rattle.er_order.proofs.Order.{happens_before-leads}
use Rattle.er_order.proofs.Searches.{greatest-Some, greatest-last}
use Rattle.er_order.proofs.StepLemmas.{agree-steps}
use Rattle.er_order.proofs.RaceLemmas.{greatest-there, not-reused, race-found}

-- which access is answered with a race
abbrev pub IsReportedAt : List Step → ℕ → Type 0
IsReportedAt steps k = (w : ℕ) × (word_of (slice_get steps k) ≡ Some w) × (is_reported (happens_before (acts_of steps)) (reading_of steps) w k ≡ true)

-- and which reuse
abbrev pub IsReusedAt : List Step → ℕ → Type 0
IsReusedAt steps k =
    (s : Step) × (range : PageRange) × (w : ℕ) × (slice_get steps k ≡ Some s) × (s.event ≡ Reuse range) ×
    (word_in_use (happens_before (acts_of steps)) (reading_of steps) k range ≡ Some w)

module _ (steps : List Step) (k : ℕ) where
  access_reply : (t w site : ℕ) (kind : Kind) → order_reply steps k t (Access kind w site) ≡ Race → is_reported (happens_before (acts_of steps)) (reading_of steps) w k ≡ true
  unfolding order_reply
  access_reply t w site kind race = by (is_ignoring (accepted steps k) t) (is_reported (happens_before (acts_of steps)) (reading_of steps) w k) race
    where
      by : (ignores told : Bool) → cond ignores Ignored (cond told Race Quiet) ≡ Race → told ≡ true
      by true told same = cc
      by false true same = refl
      by false false same = cc

  reused_by : (ignores : Bool) (o : Option ℕ) → cond ignores Done (reuse_reply o) ≡ Race → (w : ℕ) × (o ≡ Some w)
  reused_by true o same = cc
  reused_by false None same = cc
  reused_by false (Some w) same = (w, refl)

  reuse_found : (t : ℕ) (range : PageRange) → order_reply steps k t (Reuse range) ≡ Race → (w : ℕ) × (word_in_use (happens_before (acts_of steps)) (reading_of steps) k range ≡ Some w)
  unfolding order_reply
  reuse_found t range race = reused_by (is_ignoring (accepted steps k) t) (word_in_use (happens_before (acts_of steps)) (reading_of steps) k range) race

  race_reply : (s : Step) (e : Event) → slice_get steps k ≡ Some s → s.event ≡ e → order_reply steps k s.thread e ≡ Race → IsReportedAt steps k ⊎ IsReusedAt steps k
  unfolding order_reply
  race_reply s (Access kind w site) is event race = inl (w, ap word_of is ∙ ap word_in event, access_reply s.thread w site kind race)
  race_reply s (Reuse range) is event race = let found = reuse_found s.thread range race in inr (s, range, found.0, is, event, found.1)
  race_reply s (Acquire l m) is event race = cc
  race_reply s (Release l m) is event race = cc
  race_reply s IgnoreOn is event race = cc
  race_reply s IgnoreOff is event race = cc
  race_reply s (Show w) is event race = cc
  race_reply s (Level n) is event race = cc
  race_reply s (Sync sync) is event race = cc

  accepted_reply : (o : Option Refusal) (reply : Reply) → answer_unless o reply ≡ Ok Race → reply ≡ Race
  accepted_reply None reply same = cc
  accepted_reply (Some why) reply same = cc

  race_at : (o : Option Step) → slice_get steps k ≡ o → order_answer_to steps k o ≡ Ok Race → IsReportedAt steps k ⊎ IsReusedAt steps k
  race_at None is race = cc
  race_at (Some s) is race =
      race_reply s s.event is refl (accepted_reply (refusal (accepted steps k) s.thread s.event) (order_reply steps k s.thread s.event) race)

  -- a race is an access or a reuse
  pub race-cases : order_answer steps k ≡ Ok Race → IsReportedAt steps k ⊎ IsReusedAt steps k
  unfolding order_answer
  race-cases race = race_at (slice_get steps k) refl race

-- what the search finds, by its parts
module _ (order : Order) (r : Reading) (w k : ℕ) where
  pub unordered-parts : (j : ℕ) → last_unordered order r w k ≡ Some j → (j < k) × (conflicts r w j k ≡ true) × (order j k ≡ false)
  unfolding last_unordered
  unordered-parts j is =
      let found = greatest-Some k j (λ i. conflicts r w i k && not (order i k)) is in
      let parts = and_parts (conflicts r w j k) (not (order j k)) found.1 in
      (found.0, parts.0, not-true (order j k) parts.1)

  pub unordered-last : (i j : ℕ) → last_unordered order r w k ≡ Some j → i < k → conflicts r w i k ≡ true → order i k ≡ false → i ≤ j
  unfolding last_unordered
  unordered-last i j is below conflict apart =
      greatest-last k i j (λ i. conflicts r w i k && not (order i k)) is below (and_from (conflicts r w i k) (not (order i k)) conflict (not_from_false (order i k) apart))

  conflict-counts : (j : ℕ) → conflicts r w j k ≡ true → (counts (r j) w ≡ true) × (counts (r k) w ≡ true)
  unfolding conflicts
  conflict-counts j e =
      let parts = and_parts (counted_from r w (era r w (suc k)) j) (counts (r k) w && (writes (r j) || writes (r k))) e in
      ((and_parts (nat_le (era r w (suc k)) j) (counts (r j) w) parts.0).1, (and_parts (counts (r k) w) (writes (r j) || writes (r k)) parts.1).0)

  race_there : is_race order r w k ≡ true → (j : ℕ) × (last_unordered order r w k ≡ Some j)
  unfolding last_unordered conflicts
  race_there race =
      let found = race-found order r w k race in
      let passes : (conflicts r w found.0 k && not (order found.0 k)) ≡ true =
      and_from (conflicts r w found.0 k) (not (order found.0 k))
      (and_from (counted_from r w (era r w (suc k)) found.0) (counts (r k) w && (writes (r found.0) || writes (r k))) found.2
      (and_from (counts (r k) w) (writes (r found.0) || writes (r k)) found.3 found.4))
      (not_from_false (order found.0 k) found.5) in
      let there = greatest-there k found.0 (λ i. conflicts r w i k && not (order i k)) found.1 passes in
      (there.0, there.1)

  pub reported-there : is_reported order r w k ≡ true → (j : ℕ) × (last_unordered order r w k ≡ Some j)
  unfolding is_reported
  reported-there told =
      race_there (and_parts (is_race order r w k) (every_below k (λ j. not (counted_from r w (era r w (suc k)) j && is_race order r w j))) told).0

module _ (steps : List Step) (w : ℕ) where
  -- a counted position is an access of the word
  counted_word : (past : List Step) (t word : ℕ) (kind : Kind) (b : Bool) → is_ignoring past t ≡ b → counts (cond b Nothing (Counted t kind word (covering past t kind))) w ≡ true → Some word ≡ Some w
  unfolding counts
  counted_word past t word kind true ignores counted = cc
  counted_word past t word kind false heeds counted = let is : word ≡ w = eqb-true word w counted in rw is refl

  counted_event : (past : List Step) (t : ℕ) (e : Event) → counts (mark past t e) w ≡ true → word_in e ≡ Some w
  unfolding mark counts
  counted_event past t (Access kind word site) counted = counted_word past t word kind (is_ignoring past t) refl counted
  counted_event past t (Acquire l m) counted = cc
  counted_event past t (Release l m) counted = cc
  counted_event past t (Reuse range) counted = cc
  counted_event past t IgnoreOn counted = cc
  counted_event past t IgnoreOff counted = cc
  counted_event past t (Show v) counted = cc
  counted_event past t (Level n) counted = cc
  counted_event past t (Sync sync) counted = cc

  counted_at : (k : ℕ) (o : Option Step) → slice_get steps k ≡ o → counts (reading_of steps k) w ≡ true → word_of o ≡ Some w
  unfolding reading_of counts
  counted_at k None is counted = let never : false ≡ true = rw is at counted in cc
  counted_at k (Some s) is counted = counted_event (accepted steps k) s.thread s.event (rw is at counted)

-- an access and a reuse are never refused, and order nothing
module _ (steps : List Step) (k : ℕ) (s : Step) (here : slice_get steps k ≡ Some s) where
  acted_if : (o : Option Refusal) (e : Effect) → o ≡ None → sync_of s.event ≡ e → act_unless o s ≡ Some (record { thread = s.thread; sync = e })
  acted_if None e none is = ap (λ sync. Some (record { thread = s.thread; sync = sync })) is
  acted_if (Some why) e none is = cc

  acted_here : (e : Event) → s.event ≡ e → refusal (accepted steps k) s.thread e ≡ None → sync_of e ≡ Local → acts_of steps k ≡ Some (record { thread = s.thread; sync = Local })
  unfolding acts_of
  acted_here e event none is = ap (act_after steps k) here ∙ acted_if (refusal (accepted steps k) s.thread s.event) Local (ap (refusal (accepted steps k) s.thread) event ∙ none) (ap sync_of event ∙ is)

  acted_reuse : (range : PageRange) → s.event ≡ Reuse range → acts_of steps k ≡ Some (record { thread = s.thread; sync = Local })
  unfolding refusal
  acted_reuse range event = acted_here (Reuse range) event refl refl

  acted_word : (w : ℕ) (e : Event) → s.event ≡ e → word_in e ≡ Some w → acts_of steps k ≡ Some (record { thread = s.thread; sync = Local })
  unfolding refusal
  acted_word w (Access kind v site) event is = acted_here (Access kind v site) event refl refl
  acted_word w (Acquire l m) event is = cc
  acted_word w (Release l m) event is = cc
  acted_word w (Reuse range) event is = cc
  acted_word w IgnoreOn event is = cc
  acted_word w IgnoreOff event is = cc
  acted_word w (Show v) event is = cc
  acted_word w (Level n) event is = cc
  acted_word w (Sync sync) event is = cc

-- what the step at position k is unordered with
module _ (steps : List Step) (k : ℕ) where
  abbrev hb : Order
  hb = happens_before (acts_of steps)

  by_event : (w : ℕ) (e : Event) → word_in e ≡ Some w → unordered_by steps k e ≡ last_unordered hb (reading_of steps) w k
  by_event w (Access kind v site) is = let same : v ≡ w = cc in rw same refl
  by_event w (Acquire l m) is = cc
  by_event w (Release l m) is = cc
  by_event w (Reuse range) is = cc
  by_event w IgnoreOn is = cc
  by_event w IgnoreOff is = cc
  by_event w (Show v) is = cc
  by_event w (Level n) is = cc
  by_event w (Sync sync) is = cc

  by_step : (w : ℕ) (o : Option Step) → word_of o ≡ Some w → unordered_in steps k o ≡ last_unordered hb (reading_of steps) w k
  by_step w None is = cc
  by_step w (Some s) is = by_event w s.event is

  unordered_at : (w : ℕ) → word_of (slice_get steps k) ≡ Some w → unordered_with steps k ≡ last_unordered hb (reading_of steps) w k
  unfolding unordered_with
  unordered_at w is = by_step w (slice_get steps k) is

  module _ (s : Step) (range : PageRange) (w : ℕ) (is : slice_get steps k ≡ Some s) (event : s.event ≡ Reuse range)
      (used : word_in_use hb (reading_of steps) k range ≡ Some w) where
    pub use_at : unordered_with steps k ≡ last_use hb (reading_of steps) w k
    unfolding unordered_with
    use_at = ap (unordered_in steps k) is ∙ ap (unordered_by steps k) event ∙ ap (use_of steps k) used

    pub used-parts : (is_within w range ≡ true) × (is_in_use hb (reading_of steps) w k ≡ true)
    unfolding word_in_use
    used-parts =
        and_parts (is_within w range) (is_in_use hb (reading_of steps) w k)
        (least_below-Some (suc range.hi) (λ v. is_within v range && is_in_use hb (reading_of steps) v k) w used).1

    some_there : (o : Option ℕ) → is_some o ≡ true → (j : ℕ) × (o ≡ Some j)
    some_there None there = cc
    some_there (Some j) there = (j, refl)

    used_there : (j : ℕ) × (last_use hb (reading_of steps) w k ≡ Some j)
    unfolding is_in_use
    used_there =
        some_there (last_use hb (reading_of steps) w k)
        (and_parts (is_some (last_use hb (reading_of steps) w k)) (not (had_race hb (reading_of steps) w k)) used-parts.1).0

  pub race-unordered : order_answer steps k ≡ Ok Race → (j : ℕ) × (unordered_with steps k ≡ Some j)
  race-unordered race =
      ⊎_elim
      (λ told. let there = reported-there hb (reading_of steps) told.0 k told.2 in (there.0, unordered_at told.0 told.1 ∙ there.1))
      (λ reused.
      let there = used_there reused.0 reused.1 reused.2 reused.3 reused.4 reused.5 in
      (there.0, use_at reused.0 reused.1 reused.2 reused.3 reused.4 reused.5 ∙ there.1))
      (race-cases steps k race)

  -- the word and the access that was found
  abbrev IsUnordered : ℕ → Type 0
  IsUnordered j = (w : ℕ) × (word_of (slice_get steps k) ≡ Some w) × (last_unordered hb (reading_of steps) w k ≡ Some j)

  abbrev IsUsed : ℕ → Type 0
  IsUsed j =
      (s : Step) × (range : PageRange) × (w : ℕ) × (slice_get steps k ≡ Some s) × (s.event ≡ Reuse range) ×
      (word_in_use hb (reading_of steps) k range ≡ Some w) × (last_use hb (reading_of steps) w k ≡ Some j)

  used_by : (j : ℕ) (o : Option ℕ) → use_of steps k o ≡ Some j → (w : ℕ) × (o ≡ Some w) × (last_use hb (reading_of steps) w k ≡ Some j)
  used_by j None is = cc
  used_by j (Some w) is = (w, refl, is)

  cases_event : (j : ℕ) (s : Step) (e : Event) → slice_get steps k ≡ Some s → s.event ≡ e → unordered_by steps k e ≡ Some j → IsUnordered j ⊎ IsUsed j
  cases_event j s (Access kind w site) here event is = inl (w, ap word_of here ∙ ap word_in event, is)
  cases_event j s (Reuse range) here event is =
      let found = used_by j (word_in_use hb (reading_of steps) k range) is in
      inr (s, range, found.0, here, event, found.1, found.2)
  cases_event j s (Acquire l m) here event is = cc
  cases_event j s (Release l m) here event is = cc
  cases_event j s IgnoreOn here event is = cc
  cases_event j s IgnoreOff here event is = cc
  cases_event j s (Show w) here event is = cc
  cases_event j s (Level n) here event is = cc
  cases_event j s (Sync sync) here event is = cc

  cases_step : (j : ℕ) (o : Option Step) → slice_get steps k ≡ o → unordered_in steps k o ≡ Some j → IsUnordered j ⊎ IsUsed j
  cases_step j None here is = cc
  cases_step j (Some s) here is = cases_event j s s.event here refl is

  unordered-cases : (j : ℕ) → unordered_with steps k ≡ Some j → IsUnordered j ⊎ IsUsed j
  unfolding unordered_with
  unordered-cases j is = cases_step j (slice_get steps k) refl is

  -- the word of the step
  raced_event : (w : ℕ) (e : Event) → word_in e ≡ Some w → word_raced_by steps k e ≡ Some w
  raced_event w (Access kind v site) is = is
  raced_event w (Acquire l m) is = cc
  raced_event w (Release l m) is = cc
  raced_event w (Reuse range) is = cc
  raced_event w IgnoreOn is = cc
  raced_event w IgnoreOff is = cc
  raced_event w (Show v) is = cc
  raced_event w (Level n) is = cc
  raced_event w (Sync sync) is = cc

  raced_step : (w : ℕ) (o : Option Step) → word_of o ≡ Some w → word_raced_in steps k o ≡ Some w
  raced_step w None is = cc
  raced_step w (Some s) is = raced_event w s.event is

  pub word-raced-access : (w : ℕ) → word_of (slice_get steps k) ≡ Some w → word_raced steps k ≡ Some w
  unfolding word_raced
  word-raced-access w is = raced_step w (slice_get steps k) is

  pub word-raced-reuse : (s : Step) (range : PageRange) → slice_get steps k ≡ Some s → s.event ≡ Reuse range → word_raced steps k ≡ word_in_use hb (reading_of steps) k range
  unfolding word_raced
  word-raced-reuse s range is event = ap (word_raced_in steps k) is ∙ ap (word_raced_by steps k) event

  -- what the search for a use finds, by its parts
  use_parts : (w j : ℕ) → last_use hb (reading_of steps) w k ≡ Some j →
      (j < k) × (counted_from (reading_of steps) w (era (reading_of steps) w k) j ≡ true) × (hb j k ≡ false)
  unfolding last_use
  use_parts w j is =
      let found = greatest-Some k j (λ i. counted_from (reading_of steps) w (era (reading_of steps) w k) i && not (hb i k)) is in
      let parts = and_parts (counted_from (reading_of steps) w (era (reading_of steps) w k) j) (not (hb j k)) found.1 in
      (found.0, parts.0, not-true (hb j k) parts.1)

  -- both searches find an access of the era
  era_parts : (w j : ℕ) → last_unordered hb (reading_of steps) w k ≡ Some j →
      (j < k) × (counted_from (reading_of steps) w (era (reading_of steps) w k) j ≡ true) × (hb j k ≡ false)
  unfolding conflicts
  era_parts w j is =
      let parts = unordered-parts hb (reading_of steps) w k j is in
      let counted = (conflict-counts hb (reading_of steps) w k j parts.1).1 in
      let from = (and_parts (counted_from (reading_of steps) w (era (reading_of steps) w (suc k)) j) (counts (reading_of steps k) w && (writes (reading_of steps j) || writes (reading_of steps k))) parts.1).0 in
      (parts.0, rw (era-kept (reading_of steps) w k (not-reused (reading_of steps k) w counted)) at from, parts.2)

  module _ (j : ℕ) (is : unordered_with steps k ≡ Some j) where
    found : (w : ℕ) × (word_raced steps k ≡ Some w) × (j < k) × (counted_from (reading_of steps) w (era (reading_of steps) w k) j ≡ true) × (hb j k ≡ false)
    found =
        ⊎_elim
        (λ (u : IsUnordered j). let parts = era_parts u.0 j u.2 in (u.0, word-raced-access u.0 u.1, parts.0, parts.1, parts.2))
        (λ (u : IsUsed j). let parts = use_parts u.2 j u.6 in (u.2, word-raced-reuse u.0 u.1 u.3 u.4 ∙ u.5, parts.0, parts.1, parts.2))
        (unordered-cases j is)

    counted_there : counts (reading_of steps j) found.0 ≡ true
    counted_there = (and_parts (nat_le (era (reading_of steps) found.0 k) j) (counts (reading_of steps j) found.0) found.3).1

    pub with-use : (w : ℕ) × (word_raced steps k ≡ Some w) × (counted_from (reading_of steps) w (era (reading_of steps) w k) j ≡ true) × (hb j k ≡ false)
    with-use = (found.0, found.1, found.3, found.4)

    pub with-earlier : j < k
    with-earlier = found.2

    pub with-word : (w : ℕ) → word_raced steps k ≡ Some w → word_of (slice_get steps j) ≡ Some w
    with-word w word =
        let both : Some found.0 ≡ Some w = sym found.1 ∙ word in
        counted_at steps found.0 j (slice_get steps j) refl counted_there ∙ both

    pub with-conflict : (w : ℕ) → word_of (slice_get steps k) ≡ Some w → conflicts (reading_of steps) w j k ≡ true
    with-conflict w word = (unordered-parts hb (reading_of steps) w k j (sym (unordered_at w word) ∙ is)).1

    pub with-last : (i w : ℕ) → word_of (slice_get steps k) ≡ Some w → i < k → conflicts (reading_of steps) w i k ≡ true → hb i k ≡ false → i ≤ j
    with-last i w word below conflict apart =
        unordered-last hb (reading_of steps) w k i j (sym (unordered_at w word) ∙ is) below conflict apart

    pub with-last-use : (i w : ℕ) (s : Step) (range : PageRange) → slice_get steps k ≡ Some s → s.event ≡ Reuse range → word_raced steps k ≡ Some w → i < k →
        counted_from (reading_of steps) w (era (reading_of steps) w k) i ≡ true → hb i k ≡ false → i ≤ j
    unfolding last_use
    with-last-use i w s range here event word below counted apart =
        greatest-last k i j (λ i. counted_from (reading_of steps) w (era (reading_of steps) w k) i && not (hb i k))
        (sym (use_at s range w here event (sym (word-raced-reuse s range here event) ∙ word)) ∙ is) below
        (and_from (counted_from (reading_of steps) w (era (reading_of steps) w k) i) (not (hb i k)) counted (not_from_false (hb i k) apart))

    -- the step is an access or a reuse, so it is accepted
    acted : (s : Step) → slice_get steps k ≡ Some s → acts_of steps k ≡ Some (record { thread = s.thread; sync = Local })
    acted s here =
        ⊎_elim
        (λ (u : IsUnordered j). acted_word steps k s here u.0 s.event refl (sym (ap word_of here) ∙ u.1))
        (λ (u : IsUsed j). let both : Some u.0 ≡ Some s = sym u.3 ∙ here in let same : u.0 ≡ s = cc in acted_reuse steps k s here u.1 (ap (λ (s : Step). s.event) (sym same) ∙ u.4))
        (unordered-cases j is)

    -- a thread's own steps are in order, so this one is unordered with other threads' alone
    pub with-threads : (s : Step) → slice_get steps k ≡ Some s → thread_of (reading_of steps j) ≡ s.thread → ⊥
    with-threads s here same =
        both_ways (hb j k) found.4
        (happens_before-leads (acts_of steps) j k found.2
        (rw (agree-steps steps j found.0 counted_there, acted s here)
        (unfold leads in or_left (thread_of (reading_of steps j) == s.thread) false (eq-eqb (thread_of (reading_of steps j)) s.thread same))))
