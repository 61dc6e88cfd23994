-- A machine that stands for a list of steps stands for the longer list after one more.
use Rattle.std.proofs.Common.{◌≡◌, ℕ, List, [], ◌∷◌, ◌++◌, ◌∙◌, sym}
use Rattle.er_event.specs.declared.steps.Step.{Step}
use Rattle.er_event.specs.declared.steps.WordState.{WordState}
use Rattle.er_event.specs.declared.steps.WordState.TheVariants.{Virgin}
use Rattle.er_held.specs.Held.{nothing_held}
use Rattle.er_model.specs.Answers.{reading_of}
use Rattle.er_model.specs.Following.{state_after, StandsFor}
use Rattle.er_model.specs.Holdings.{Holdings, after_step}
use Rattle.er_model.proofs.Prefixes.{holdings-empty, state-start, stands-grow}

-- nobody has anything, and every word is virgin
pub stands-start : (holding : ℕ → Holdings) (states : ℕ → WordState) → ((t : ℕ) → holding t ≡ nothing_held) → ((w : ℕ) → states w ≡ Virgin) → StandsFor holding states []
stands-start holding states nothing virgin = (λ t. nothing t ∙ sym (holdings-empty t), λ w. virgin w ∙ sym (state-start (reading_of []) w))

-- each thread's holdings and each word's state are what the step makes of them
pub stands-next : (holding holding' : ℕ → Holdings) (states states' : ℕ → WordState) (past : List Step) (step : Step) →
    ((t : ℕ) → holding' t ≡ after_step (holding t) t step) → ((w : ℕ) → states' w ≡ state_after (holding step.thread) (states w) w step) →
    StandsFor holding states past → StandsFor holding' states' (past ++ step ∷ [])
stands-next holding holding' states states' past step held moved stands =
    let next = stands-grow holding states past step stands in
    (λ t. held t ∙ next.0 t, λ w. moved w ∙ next.1 w)
