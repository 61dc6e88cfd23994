-- Each answer and each word's next state follow from what the step finds.
use Rattle.std.proofs.Common.{◌≡◌, ℕ, suc, Bool, true, false, cond, ◌==◌, nat_lt, List, slice_get, Some, refl, ◌∙◌}
use Rattle.std.proofs.lemmas.Bool.{eq-eqb}
use Rattle.er_event.specs.declared.steps.Event.{Event}
use Rattle.er_event.specs.declared.steps.Event.TheVariants.{Acquire, Release, Access, Reuse, IgnoreOn, IgnoreOff, Show, Level, Sync}
use Rattle.er_event.specs.declared.steps.Kind.{Kind}
use Rattle.er_event.specs.declared.steps.Kind.TheVariants.{Read as reading, Write as writing}
use Rattle.er_event.specs.declared.addresses.PageRange.{PageRange}
use Rattle.er_event.specs.declared.steps.Reply.TheVariants.{Quiet, Race, Ignored}
use Rattle.er_event.specs.declared.steps.Step.{Step}
use Rattle.er_event.specs.declared.steps.WordState.TheVariants.{Virgin}
use Rattle.er_model.specs.Words.{Mark, Counted, Reused, Shown, Nothing, Reading, reuses, counts, thread_of, writes, cover_of, is_within, state, reported}
use Rattle.er_model.specs.Table.{advanced, moved, reports}
use Rattle.er_model.specs.Threads.{depth, accepted}
use Rattle.er_model.specs.Holdings.{holdings, holdings_at}
use Rattle.er_model.specs.Answers.{mark, reading_of, state_at, reply, answer}
use Rattle.er_model.specs.Following.{locks_for, marked, state_after, replied, answered}
use Rattle.er_model.proofs.Words.{state-reused, state-untouched, state-counted}
use Rattle.er_model.proofs.Races.{reported-state}
use Rattle.er_model.proofs.Threads.{refusal_at}

-- what the position is to the words decides, by cases
module _ (r : Reading) (w k : ℕ) where
  reuses_is : (mark : Mark) (b : Bool) → r k ≡ mark → reuses mark w ≡ b → reuses (r k) w ≡ b
  reuses_is mark b is e = rw is e

  counts_is : (mark : Mark) (b : Bool) → r k ≡ mark → counts mark w ≡ b → counts (r k) w ≡ b
  counts_is mark b is e = rw is e

  moved_access : (t word : ℕ) (kind : Kind) (cover : List ℕ) (b : Bool) → r k ≡ Counted t kind word cover → (word == w) ≡ b →
      state r w (suc k) ≡ cond b (advanced (state r w k) t kind cover) (state r w k)
  unfolding reuses counts thread_of writes cover_of
  moved_access t word kind cover true is same =
      state-counted r w k (reuses_is (Counted t kind word cover) false is refl) (counts_is (Counted t kind word cover) true is same) kind (rw is refl)
      ∙ rw is refl
  moved_access t word kind cover false is other =
      state-untouched r w k (reuses_is (Counted t kind word cover) false is refl) (counts_is (Counted t kind word cover) false is other)

  moved_reuse : (range : PageRange) (b : Bool) → r k ≡ Reused range → is_within w range ≡ b → state r w (suc k) ≡ cond b Virgin (state r w k)
  unfolding reuses counts
  moved_reuse range true is within = state-reused r w k (reuses_is (Reused range) true is within)
  moved_reuse range false is outside = state-untouched r w k (reuses_is (Reused range) false is outside) (counts_is (Reused range) false is refl)

  moved_by : (mark : Mark) → r k ≡ mark → state r w (suc k) ≡ moved (state r w k) w mark
  unfolding reuses counts
  moved_by (Counted t kind word cover) is = moved_access t word kind cover (word == w) is refl
  moved_by (Reused range) is = moved_reuse range (is_within w range) is refl
  moved_by (Shown word) is = state-untouched r w k (reuses_is (Shown word) false is refl) (counts_is (Shown word) false is refl)
  moved_by Nothing is = state-untouched r w k (reuses_is Nothing false is refl) (counts_is Nothing false is refl)

  -- the state after one more position
  pub state-moved : state r w (suc k) ≡ moved (state r w k) w (r k)
  state-moved = moved_by (r k) refl

  -- an access is reported where it makes its word's state racy
  pub reported-access : (t : ℕ) (kind : Kind) (cover : List ℕ) → r k ≡ Counted t kind w cover →
      reported r w k ≡ reports (state r w k) (advanced (state r w k) t kind cover)
  unfolding reuses
  reported-access t kind cover is =
      reported-state r w k (reuses_is (Counted t kind w cover) false is refl)
      ∙ rw (moved_access t w kind cover true is (eq-eqb w w refl)) refl

-- what a step is to the words depends on its thread's holdings alone
marked-mark : (p : List Step) (t : ℕ) (e : Event) → mark p t e ≡ marked (holdings p t) t e
unfolding mark holdings
marked-mark p t (Access reading w site) = refl
marked-mark p t (Access writing w site) = refl
marked-mark p t (Reuse range) = refl
marked-mark p t (Acquire l m) = refl
marked-mark p t (Release l m) = refl
marked-mark p t IgnoreOn = refl
marked-mark p t IgnoreOff = refl
marked-mark p t (Show w) = refl
marked-mark p t (Level n) = refl
marked-mark p t (Sync sync) = refl

pub reading-step : (steps : List Step) (k : ℕ) (s : Step) → slice_get steps k ≡ Some s → reading_of steps k ≡ marked (holdings_at steps s.thread k) s.thread s.event
unfolding reading_of
reading-step steps k s is = rw is (marked-mark (accepted steps k) s.thread s.event)

pub state-step : (steps : List Step) (k : ℕ) (s : Step) (w : ℕ) → slice_get steps k ≡ Some s →
    state_at steps w (suc k) ≡ state_after (holdings_at steps s.thread k) (state_at steps w k) w s
state-step steps k s w is = state-moved (reading_of steps) w k ∙ rw (reading-step steps k s is) refl

-- an access, by whether its thread is ignoring
reply_access : (steps : List Step) (k t w site : ℕ) (kind : Kind) (b : Bool) → nat_lt 0 (depth (accepted steps k) t) ≡ b →
    reading_of steps k ≡ cond b Nothing (Counted t kind w (locks_for (holdings_at steps t k) kind)) →
    cond b Ignored (cond (reported (reading_of steps) w k) Race Quiet) ≡
    cond b Ignored (cond (reports (state_at steps w k) (advanced (state_at steps w k) t kind (locks_for (holdings_at steps t k) kind))) Race Quiet)
reply_access steps k t w site kind true ignores is = refl
reply_access steps k t w site kind false counted is =
    rw (reported-access (reading_of steps) w k t kind (locks_for (holdings_at steps t k) kind) is) refl

reply_event : (steps : List Step) (k t : ℕ) (e : Event) → reading_of steps k ≡ marked (holdings_at steps t k) t e →
    reply steps k t e ≡ replied (holdings_at steps t k) (λ w. state_at steps w k) t e
unfolding reply holdings
reply_event steps k t (Access kind w site) is = reply_access steps k t w site kind (nat_lt 0 (depth (accepted steps k) t)) refl is
reply_event steps k t (Reuse range) is = refl
reply_event steps k t (Acquire l m) is = refl
reply_event steps k t (Release l m) is = refl
reply_event steps k t IgnoreOn is = refl
reply_event steps k t IgnoreOff is = refl
reply_event steps k t (Show w) is = refl
reply_event steps k t (Level n) is = refl
reply_event steps k t (Sync sync) is = refl

pub answer-step : (steps : List Step) (k : ℕ) (s : Step) → slice_get steps k ≡ Some s →
    answer steps k ≡ answered (holdings_at steps s.thread k) (λ w. state_at steps w k) s
unfolding answer
answer-step steps k s is =
    rw is (rw (refusal_at steps k s.thread s.event, reply_event steps k s.thread s.event (reading-step steps k s is)) refl)
