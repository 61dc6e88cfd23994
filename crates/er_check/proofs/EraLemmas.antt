-- Where a word's era begins, found by going back step by step.
use Rattle.std.proofs.Common.{◌≡◌, ℕ, suc, cond, nat_lt, Bool, true, false, List, slice_get, Some, refl, ◌∙◌, arith}
use Rattle.er_event.specs.declared.steps.Event.{Event}
use Rattle.er_event.specs.declared.steps.Event.TheVariants.{Acquire, Release, Access, Reuse, IgnoreOn, IgnoreOff, Show, Level, Sync}
use Rattle.er_event.specs.declared.steps.Kind.{Kind}
use Rattle.er_event.specs.declared.steps.Step.{Step}
use Rattle.er_model.specs.Words.{Counted, Nothing, reuses, era}
use Rattle.er_model.specs.Holdings.{Holdings, holdings_at}
use Rattle.er_model.specs.Answers.{reading_of}
use Rattle.er_model.specs.Following.{marked, locks_for}
use Rattle.er_model.proofs.AnswersLemmas.{reading-step}
use Rattle.er_model.proofs.Words.{era-kept, era-reused, era-below}
use Rattle.er_check.specs.Claims.{reused_by}

-- a step is a reuse of the word by its event alone
reused-access : (t w word : ℕ) (kind : Kind) (cover : List ℕ) (b : Bool) → reuses (cond b Nothing (Counted t kind word cover)) w ≡ false
unfolding reuses
reused-access t w word kind cover true = refl
reused-access t w word kind cover false = refl

reused-event : (h : Holdings) (t w : ℕ) (e : Event) → reuses (marked h t e) w ≡ reused_by e w
unfolding reuses
reused-event h t w (Access kind word site) = reused-access t w word kind (locks_for h kind) (nat_lt 0 h.depth)
reused-event h t w (Acquire l m) = refl
reused-event h t w (Release l m) = refl
reused-event h t w (Reuse range) = refl
reused-event h t w IgnoreOn = refl
reused-event h t w IgnoreOff = refl
reused-event h t w (Show word) = refl
reused-event h t w (Level n) = refl
reused-event h t w (Sync sync) = refl

module _ (steps : List Step) (w i : ℕ) (s : Step) (is : slice_get steps i ≡ Some s) where
  reused : reuses (reading_of steps i) w ≡ reused_by s.event w
  reused = rw (reading-step steps i s is) (reused-event (holdings_at steps s.thread i) s.thread w s.event)

  pub era-after : reused_by s.event w ≡ true → era (reading_of steps) w (suc i) ≡ suc i
  era-after is_reuse = era-reused (reading_of steps) w i (reused ∙ is_reuse)

  pub era-before : reused_by s.event w ≡ false → era (reading_of steps) w (suc i) ≡ era (reading_of steps) w i
  era-before none = era-kept (reading_of steps) w i (reused ∙ none)

pub era-start : (steps : List Step) (w : ℕ) → era (reading_of steps) w 0 ≡ 0
era-start steps w = let low = era-below (reading_of steps) w 0 in omega arith
