-- Refused steps can be left out: the list of the accepted ones says the same.
use Rattle.std.proofs.Common.{◌≡◌, ℕ, zero, suc, List, [], ◌∷◌, ◌++◌, length, slice_get, Option, Some, None, refl, sym, ◌∙◌}
use Rattle.er_event.specs.declared.steps.Event.{Event}
use Rattle.er_event.specs.declared.steps.Event.TheVariants.{Acquire, Release, Access, Reuse, IgnoreOn, IgnoreOff, Show, Level, Sync}
use Rattle.er_event.specs.declared.refusals.Refusal.{Refusal}
use Rattle.er_event.specs.declared.steps.Step.{Step}
use Rattle.er_model.specs.Words.{Nothing}
use Rattle.er_model.specs.Threads.{refusal, accepted}
use Rattle.er_model.specs.Holdings.{Holdings, holdings_at}
use Rattle.er_model.specs.Answers.{reading_of, state_at, answer_next}
use Rattle.er_model.specs.Following.{marked, StandsFor}
use Rattle.er_model.proofs.Threads.{accepted-past_end, accepted-refused, accepted-taken, holdings-step}
use Rattle.er_model.proofs.AnswersLemmas.{reading-step, state-step, state-moved}
use Rattle.er_model.proofs.Prefixes.{state-start, stands-grow, stands-answer, answer-grow}

-- a refused event is nothing to the words
refused-mark : (p : List Step) (h : Holdings) (t : ℕ) (e : Event) (why : Refusal) → refusal p t e ≡ Some why → marked h t e ≡ Nothing
unfolding refusal
refused-mark p h t (Acquire l m) why refused = refl
refused-mark p h t (Release l m) why refused = refl
refused-mark p h t IgnoreOn why refused = refl
refused-mark p h t IgnoreOff why refused = refl
refused-mark p h t (Access kind w site) why refused = cc
refused-mark p h t (Reuse range) why refused = cc
refused-mark p h t (Show w) why refused = cc
refused-mark p h t (Level n) why refused = cc
refused-mark p h t (Sync sync) why refused = cc

module _ (steps : List Step) where
  abbrev IsKept : ℕ → List Step → Type 0
  IsKept n past = StandsFor (λ t. holdings_at steps t n) (λ w. state_at steps w n) past

  quiet-state : (n : ℕ) → reading_of steps n ≡ Nothing → (w : ℕ) → state_at steps w (suc n) ≡ state_at steps w n
  quiet-state n is w = state-moved (reading_of steps) w n ∙ rw is refl

  -- nothing changes where the accepted steps stay the same
  kept-same : (n : ℕ) → accepted steps (suc n) ≡ accepted steps n → reading_of steps n ≡ Nothing → IsKept n (accepted steps n) → IsKept (suc n) (accepted steps (suc n))
  kept-same n same is kept =
      ((λ t. rw same (kept.0 t)), (λ w. rw (quiet-state n is w, same) (kept.1 w)))

  kept-taken : (n : ℕ) (s : Step) → slice_get steps n ≡ Some s → accepted steps (suc n) ≡ accepted steps n ++ s ∷ [] → IsKept n (accepted steps n) → IsKept (suc n) (accepted steps (suc n))
  kept-taken n s is longer kept =
      let grown = stands-grow (λ t. holdings_at steps t n) (λ w. state_at steps w n) (accepted steps n) s kept in
      ((λ t. holdings-step steps n s t is ∙ rw longer (grown.0 t)), (λ w. state-step steps n s w is ∙ rw longer (grown.1 w)))

  kept-by : (n : ℕ) (s : Step) → slice_get steps n ≡ Some s → (o : Option Refusal) → refusal (accepted steps n) s.thread s.event ≡ o → IsKept n (accepted steps n) → IsKept (suc n) (accepted steps (suc n))
  kept-by n s is None taken kept = kept-taken n s is (accepted-taken steps n s is taken) kept
  kept-by n s is (Some why) refused kept =
      kept-same n (accepted-refused steps n s why is refused)
      (reading-step steps n s is ∙ refused-mark (accepted steps n) (holdings_at steps s.thread n) s.thread s.event why refused) kept

  kept-step : (n : ℕ) (o : Option Step) → slice_get steps n ≡ o → IsKept n (accepted steps n) → IsKept (suc n) (accepted steps (suc n))
  unfolding reading_of
  kept-step n None is kept = kept-same n (accepted-past_end steps n is) (rw is refl) kept
  kept-step n (Some s) is kept = kept-by n s is (refusal (accepted steps n) s.thread s.event) refl kept

  -- at every point the accepted steps alone leave the same holdings and states
  pub accepted-stand : (n : ℕ) → IsKept n (accepted steps n)
  unfolding accepted
  accepted-stand zero = ((λ t. refl), (λ w. state-start (reading_of steps) w ∙ sym (state-start (reading_of []) w)))
  accepted-stand (suc n) = kept-step n (slice_get steps n) refl (accepted-stand n)

  -- and give the same answer to the next step
  pub answer-accepted : (s : Step) → answer_next (accepted steps (length steps)) s ≡ answer_next steps s
  answer-accepted s =
      stands-answer (λ t. holdings_at steps t (length steps)) (λ w. state_at steps w (length steps)) (accepted steps (length steps)) s (accepted-stand (length steps))
      ∙ sym (answer-grow steps s)
