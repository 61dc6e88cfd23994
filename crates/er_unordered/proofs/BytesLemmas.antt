-- Later steps change no answer by bytes, and which steps such answers name.
use Rattle.std.proofs.Common.{◌≡◌, ◌<◌, ◌≤◌, ◌∙◌, ℕ, suc, Bool, true, false, ◌&&◌, ◌||◌, not, cond, nat_le, is_some, List, ◌++◌, length, slice_get, Option, Some, None, Ok, refl, sym, ap, ap₂, arith}
use Rattle.std.proofs.lemmas.Bool.{and_parts, eqb-true}
use Rattle.er_event.proofs.Lists.{get_front}
use Rattle.er_event.specs.declared.addresses.PageRange.{PageRange}
use Rattle.er_event.specs.declared.refusals.Refusal.{Refusal}
use Rattle.er_event.specs.declared.steps.Event.{Event}
use Rattle.er_event.specs.declared.steps.Event.TheVariants.{Acquire, Release, Access, Reuse, IgnoreOn, IgnoreOff, Show, Level, Sync}
use Rattle.er_event.specs.declared.steps.Kind.{Kind}
use Rattle.er_event.specs.declared.steps.Reply.{Reply}
use Rattle.er_event.specs.declared.steps.Reply.TheVariants.{Done, Quiet, Race, Ignored, State}
use Rattle.er_event.specs.declared.steps.Step.{Step}
use Rattle.er_event.specs.declared.steps.WordState.{WordState}
use Rattle.er_model.proofs.Prefixes.{accepted-front, reading-front}
use Rattle.er_model.proofs.Search.{every_below-agree, least_below-agree, some_below-agree}
use Rattle.er_model.specs.Answers.{answer_unless, covering, mark, reading_of}
use Rattle.er_model.specs.Explanations.{word_in, word_of}
use Rattle.er_model.specs.Threads.{accepted, is_ignoring, refusal}
use Rattle.er_model.specs.Words.{Counted, Nothing, counts, counted_from, era, is_within, writes}
use Rattle.er_order.proofs.ReasonLemmas.{unordered-parts}
use Rattle.er_order.proofs.ReasonsGrow.{conflicts-agree, era-agree, had-agree, order-agree}
use Rattle.er_order.proofs.Searches.{greatest-Some, greatest-agree}
use Rattle.er_order.proofs.StepLemmas.{acts-front}
use Rattle.er_order.specs.ByBytes.{Touched, meet, by_bytes, is_in_use_by_bytes, word_in_use_by_bytes, reply_by_bytes, answer_to_by_bytes, answer_by_bytes, unordered_by_bytes_of, unordered_by_bytes_in, unordered_by_bytes}
use Rattle.er_order.specs.Order.{acts_of, happens_before}
use Rattle.er_order.specs.Races.{Order, conflicts, is_race, is_reported, last_use, reuse_reply}
use Rattle.er_order.specs.Reasons.{last_unordered, use_of}
use Rattle.er_report.specs.Names.{HaveStateNames}
use Rattle.er_report.specs.Report.{RacesHaveLines, may_race, may_race_at}
use Rattle.er_trace.specs.Names.{NameTable}

-- steps that come later
module _ (touched : Touched) (steps more : List Step) (k : ℕ) (below : k < length steps) where
  abbrev long : List Step
  long = steps ++ more

  abbrev after : Order
  after = by_bytes touched (happens_before (acts_of long))

  abbrev before : Order
  before = by_bytes touched (happens_before (acts_of steps))

  reading_stays : (i : ℕ) → i < suc k → reading_of long i ≡ reading_of steps i
  reading_stays i low = reading-front steps more i (omega arith)

  hb_stays : (i j : ℕ) → j ≤ k → happens_before (acts_of long) i j ≡ happens_before (acts_of steps) i j
  hb_stays i j low = order-agree (acts_of long) (acts_of steps) i j (λ x under. acts-front steps more x (omega arith))

  order_stays : (i j : ℕ) → j ≤ k → after i j ≡ before i j
  unfolding by_bytes
  order_stays i j low = ap (λ b. b || not (meet (touched i) (touched j))) (hb_stays i j low)

  race_stays : (w j : ℕ) → j ≤ k → is_race after (reading_of long) w j ≡ is_race before (reading_of steps) w j
  unfolding is_race
  race_stays w j low =
      some_below-agree j (λ i. conflicts (reading_of long) w i j && not (after i j)) (λ i. conflicts (reading_of steps) w i j && not (before i j))
      (λ i under. ap₂ (λ a b. a && not b) (conflicts-agree (reading_of long) (reading_of steps) w i j (λ x small. reading_stays x (omega arith)) under) (order_stays i j low))

  counted_stays : (w n j : ℕ) → n ≤ suc k → j < suc k → counted_from (reading_of long) w (era (reading_of long) w n) j ≡ counted_from (reading_of steps) w (era (reading_of steps) w n) j
  counted_stays w n j low under = rw (era-agree (reading_of long) (reading_of steps) w n (λ i small. reading_stays i (omega arith)), reading_stays j under) refl

  reported_stays : (w : ℕ) → is_reported after (reading_of long) w k ≡ is_reported before (reading_of steps) w k
  unfolding is_reported
  reported_stays w =
      ap₂ (λ a b. a && b) (race_stays w k (omega arith))
      (every_below-agree k (λ j. not (counted_from (reading_of long) w (era (reading_of long) w (suc k)) j && is_race after (reading_of long) w j))
      (λ j. not (counted_from (reading_of steps) w (era (reading_of steps) w (suc k)) j && is_race before (reading_of steps) w j))
      (λ j under. ap₂ (λ a b. not (a && b)) (counted_stays w (suc k) j (omega arith) (omega arith)) (race_stays w j (omega arith))))

  use_stays : (w : ℕ) → last_use (happens_before (acts_of long)) (reading_of long) w k ≡ last_use (happens_before (acts_of steps)) (reading_of steps) w k
  unfolding last_use
  use_stays w =
      greatest-agree k (λ j. counted_from (reading_of long) w (era (reading_of long) w k) j && not (happens_before (acts_of long) j k))
      (λ j. counted_from (reading_of steps) w (era (reading_of steps) w k) j && not (happens_before (acts_of steps) j k))
      (λ j under. ap₂ (λ a b. a && not b) (counted_stays w k j (omega arith) (omega arith)) (hb_stays j k (omega arith)))

  last_stays : (w : ℕ) → last_unordered after (reading_of long) w k ≡ last_unordered before (reading_of steps) w k
  unfolding last_unordered
  last_stays w =
      greatest-agree k (λ j. conflicts (reading_of long) w j k && not (after j k)) (λ j. conflicts (reading_of steps) w j k && not (before j k))
      (λ j under. ap₂ (λ a b. a && not b) (conflicts-agree (reading_of long) (reading_of steps) w j k reading_stays under) (order_stays j k (omega arith)))

  in_use_stays : (w : ℕ) → is_in_use_by_bytes touched (happens_before (acts_of long)) (reading_of long) w k ≡ is_in_use_by_bytes touched (happens_before (acts_of steps)) (reading_of steps) w k
  unfolding is_in_use_by_bytes
  in_use_stays w =
      ap₂ (λ (o : Option ℕ) b. is_some o && not b) (use_stays w)
      (had-agree (reading_of long) (reading_of steps) w after before k (λ i low. reading_stays i (omega arith)) (λ i j low high. order_stays i j (omega arith)))

  word_stays : (range : PageRange) → word_in_use_by_bytes touched (happens_before (acts_of long)) (reading_of long) k range ≡ word_in_use_by_bytes touched (happens_before (acts_of steps)) (reading_of steps) k range
  unfolding word_in_use_by_bytes
  word_stays range =
      least_below-agree (suc range.hi) (λ w. is_within w range && is_in_use_by_bytes touched (happens_before (acts_of long)) (reading_of long) w k)
      (λ w. is_within w range && is_in_use_by_bytes touched (happens_before (acts_of steps)) (reading_of steps) w k)
      (λ w low. ap (λ b. is_within w range && b) (in_use_stays w))

  accepted_stays : accepted long k ≡ accepted steps k
  accepted_stays = accepted-front steps more k (omega arith)

  reply_stays : (t : ℕ) (e : Event) → reply_by_bytes touched long k t e ≡ reply_by_bytes touched steps k t e
  unfolding reply_by_bytes
  reply_stays t (Access kind w site) =
      ap₂ (λ (past : List Step) b. cond (is_ignoring past t) Ignored (cond b Race Quiet)) accepted_stays (reported_stays w)
  reply_stays t (Reuse range) =
      ap₂ (λ (past : List Step) (o : Option ℕ). cond (is_ignoring past t) Done (reuse_reply o)) accepted_stays (word_stays range)
  reply_stays t (Acquire l m) = refl
  reply_stays t (Release l m) = refl
  reply_stays t IgnoreOn = refl
  reply_stays t IgnoreOff = refl
  reply_stays t (Show w) = refl
  reply_stays t (Level n) = refl
  reply_stays t (Sync sync) = refl

  answer_to_stays : (o : Option Step) → answer_to_by_bytes touched long k o ≡ answer_to_by_bytes touched steps k o
  answer_to_stays None = refl
  answer_to_stays (Some s) =
      ap₂ (λ (past : List Step) (reply : Reply). answer_unless (refusal past s.thread s.event) reply) accepted_stays (reply_stays s.thread s.event)

  pub answer-stays : answer_by_bytes touched (steps ++ more) k ≡ answer_by_bytes touched steps k
  unfolding answer_by_bytes
  answer-stays = ap (answer_to_by_bytes touched long k) (get_front steps more k below) ∙ answer_to_stays (slice_get steps k)

  use_of_stays : (o : Option ℕ) → use_of long k o ≡ use_of steps k o
  use_of_stays None = refl
  use_of_stays (Some w) = use_stays w

  unordered_of_stays : (e : Event) → unordered_by_bytes_of touched long k e ≡ unordered_by_bytes_of touched steps k e
  unordered_of_stays (Access kind w site) = last_stays w
  unordered_of_stays (Reuse range) = ap (use_of long k) (word_stays range) ∙ use_of_stays (word_in_use_by_bytes touched (happens_before (acts_of steps)) (reading_of steps) k range)
  unordered_of_stays (Acquire l m) = refl
  unordered_of_stays (Release l m) = refl
  unordered_of_stays IgnoreOn = refl
  unordered_of_stays IgnoreOff = refl
  unordered_of_stays (Show w) = refl
  unordered_of_stays (Level n) = refl
  unordered_of_stays (Sync sync) = refl

  unordered_in_stays : (o : Option Step) → unordered_by_bytes_in touched long k o ≡ unordered_by_bytes_in touched steps k o
  unordered_in_stays None = refl
  unordered_in_stays (Some s) = unordered_of_stays s.event

  pub unordered-stays : unordered_by_bytes touched (steps ++ more) k ≡ unordered_by_bytes touched steps k
  unfolding unordered_by_bytes
  unordered-stays = ap (unordered_by_bytes_in touched long k) (get_front steps more k below) ∙ unordered_in_stays (slice_get steps k)

-- no answer is a word's state, and only an access and a reuse are races
no-state-access : (a b : Bool) (s : WordState) → cond a Ignored (cond b Race Quiet) ≡ State s → ⊥
no-state-access true b s is = cc
no-state-access false true s is = cc
no-state-access false false s is = cc

no-state-reuse : (b : Bool) (o : Option ℕ) (s : WordState) → cond b Done (reuse_reply o) ≡ State s → ⊥
no-state-reuse true o s is = cc
no-state-reuse false None s is = cc
no-state-reuse false (Some w) s is = cc

reply-unless : (o : Option Refusal) (r s : Reply) → answer_unless o r ≡ Ok s → r ≡ s
reply-unless None r s is = cc
reply-unless (Some why) r s is = cc

module _ (touched : Touched) (steps : List Step) (k : ℕ) where
  no-state-reply : (t : ℕ) (e : Event) (s : WordState) → reply_by_bytes touched steps k t e ≡ State s → ⊥
  unfolding reply_by_bytes
  no-state-reply t (Access kind w site) s is = no-state-access _ _ s is
  no-state-reply t (Acquire l m) s is = cc
  no-state-reply t (Release l m) s is = cc
  no-state-reply t (Reuse range) s is = no-state-reuse _ _ s is
  no-state-reply t IgnoreOn s is = cc
  no-state-reply t IgnoreOff s is = cc
  no-state-reply t (Show w) s is = cc
  no-state-reply t (Level n) s is = cc
  no-state-reply t (Sync sync) s is = cc

  no-state-by : (o : Option Step) (s : WordState) → answer_to_by_bytes touched steps k o ≡ Ok (State s) → ⊥
  no-state-by None s is = cc
  no-state-by (Some step) s is =
      no-state-reply step.thread step.event s
      (reply-unless (refusal (accepted steps k) step.thread step.event) (reply_by_bytes touched steps k step.thread step.event) (State s) is)

  race-reply : (t : ℕ) (e : Event) → reply_by_bytes touched steps k t e ≡ Race → may_race e ≡ true
  unfolding reply_by_bytes
  race-reply t (Access kind w site) is = refl
  race-reply t (Reuse range) is = refl
  race-reply t (Acquire l m) is = cc
  race-reply t (Release l m) is = cc
  race-reply t IgnoreOn is = cc
  race-reply t IgnoreOff is = cc
  race-reply t (Show w) is = cc
  race-reply t (Level n) is = cc
  race-reply t (Sync sync) is = cc

  race-by : (o : Option Step) → answer_to_by_bytes touched steps k o ≡ Ok Race → may_race_at o ≡ true
  race-by None is = cc
  race-by (Some step) is =
      race-reply step.thread step.event
      (reply-unless (refusal (accepted steps k) step.thread step.event) (reply_by_bytes touched steps k step.thread step.event) Race is)

pub no-state : (touched : Touched) (names : NameTable) (steps : List Step) → HaveStateNames names (answer_by_bytes touched steps)
unfolding answer_by_bytes
no-state touched names steps k s is = absurd (no-state-by touched steps k (slice_get steps k) s is)

pub races-told : (touched : Touched) (steps : List Step) → RacesHaveLines (answer_by_bytes touched steps) steps
unfolding answer_by_bytes
races-told touched steps k race none = let clash = sym (race-by touched steps k (slice_get steps k) race) ∙ none in cc

-- a counted position is an access of the word
module _ (steps : List Step) (w : ℕ) where
  counted_word : (past : List Step) (t word : ℕ) (kind : Kind) (b : Bool) → is_ignoring past t ≡ b → counts (cond b Nothing (Counted t kind word (covering past t kind))) w ≡ true → Some word ≡ Some w
  unfolding counts
  counted_word past t word kind true ignores counted = cc
  counted_word past t word kind false heeds counted = let is : word ≡ w = eqb-true word w counted in rw is refl

  counted_event : (past : List Step) (t : ℕ) (e : Event) → counts (mark past t e) w ≡ true → word_in e ≡ Some w
  unfolding mark counts
  counted_event past t (Access kind word site) counted = counted_word past t word kind (is_ignoring past t) refl counted
  counted_event past t (Acquire l m) counted = cc
  counted_event past t (Release l m) counted = cc
  counted_event past t (Reuse range) counted = cc
  counted_event past t IgnoreOn counted = cc
  counted_event past t IgnoreOff counted = cc
  counted_event past t (Show v) counted = cc
  counted_event past t (Level n) counted = cc
  counted_event past t (Sync sync) counted = cc

  counted_at : (k : ℕ) (o : Option Step) → slice_get steps k ≡ o → counts (reading_of steps k) w ≡ true → word_of o ≡ Some w
  unfolding reading_of counts
  counted_at k None is counted = let never : false ≡ true = rw is at counted in cc
  counted_at k (Some s) is counted = counted_event (accepted steps k) s.thread s.event (rw is at counted)

-- what is named is an earlier access
module _ (touched : Touched) (steps : List Step) (k j : ℕ) where
  abbrev IsEarlier : Type 0
  IsEarlier = (w : ℕ) × (word_of (slice_get steps j) ≡ Some w) × (j < k)

  counted_from_word : (w start : ℕ) → counted_from (reading_of steps) w start j ≡ true → word_of (slice_get steps j) ≡ Some w
  counted_from_word w start counted = counted_at steps w j (slice_get steps j) refl (and_parts (nat_le start j) (counts (reading_of steps j) w) counted).1

  by_last : (order : Order) (w : ℕ) → last_unordered order (reading_of steps) w k ≡ Some j → IsEarlier
  unfolding conflicts
  by_last order w is =
      let parts = unordered-parts order (reading_of steps) w k j is in (
        w,
        counted_from_word w (era (reading_of steps) w (suc k))
            (and_parts (counted_from (reading_of steps) w (era (reading_of steps) w (suc k)) j) (counts (reading_of steps k) w && (writes (reading_of steps j) || writes (reading_of steps k))) parts.1).0,
        parts.0,
      )

  by_use : (w : ℕ) → last_use (happens_before (acts_of steps)) (reading_of steps) w k ≡ Some j → IsEarlier
  unfolding last_use
  by_use w is =
      let found = greatest-Some k j (λ i. counted_from (reading_of steps) w (era (reading_of steps) w k) i && not (happens_before (acts_of steps) i k)) is in
      (w, counted_from_word w (era (reading_of steps) w k) (and_parts (counted_from (reading_of steps) w (era (reading_of steps) w k) j) (not (happens_before (acts_of steps) j k)) found.1).0, found.0)

  by_use_of : (o : Option ℕ) → use_of steps k o ≡ Some j → IsEarlier
  by_use_of None is = cc
  by_use_of (Some w) is = by_use w is

  by_event : (e : Event) → unordered_by_bytes_of touched steps k e ≡ Some j → IsEarlier
  by_event (Access kind w site) is = by_last (by_bytes touched (happens_before (acts_of steps))) w is
  by_event (Reuse range) is = by_use_of (word_in_use_by_bytes touched (happens_before (acts_of steps)) (reading_of steps) k range) is
  by_event (Acquire l m) is = cc
  by_event (Release l m) is = cc
  by_event IgnoreOn is = cc
  by_event IgnoreOff is = cc
  by_event (Show w) is = cc
  by_event (Level n) is = cc
  by_event (Sync sync) is = cc

  by_step : (o : Option Step) → unordered_by_bytes_in touched steps k o ≡ Some j → IsEarlier
  by_step None is = cc
  by_step (Some s) is = by_event s.event is

  pub is-earlier : unordered_by_bytes touched steps k ≡ Some j → (w : ℕ) × (word_of (slice_get steps j) ≡ Some w) × (j < k)
  unfolding unordered_by_bytes
  is-earlier is = by_step (slice_get steps k) is
