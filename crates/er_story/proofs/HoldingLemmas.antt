-- What one thread holds goes on by one step.
use Rattle.std.proofs.Common.{◌≡◌, ◌∙◌, ◌==◌, ℕ, ◌+◌, true, false, List, slice_get, Some, add-one, sym, ap}
use Rattle.er_event.specs.declared.steps.Step.{Step}
use Rattle.er_held.specs.Held.{nothing_held}
use Rattle.er_model.proofs.Prefixes.{holdings-empty}
use Rattle.er_model.proofs.Threads.{holdings-step}
use Rattle.er_model.specs.Holdings.{Holdings, after_step, changed_unless, holdings_at, refused_by}
use Rattle.er_model.specs.Threads.{accepted}

pub held-start : (steps : List Step) (t : ℕ) (h : Holdings) → h ≡ nothing_held → h ≡ holdings_at steps t 0
unfolding accepted
held-start steps t h is = is ∙ sym (holdings-empty t)

pub held-next : (steps : List Step) (t k : ℕ) (step : Step) (before after : Holdings) → slice_get steps k ≡ Some step → before ≡ holdings_at steps t k
    → after ≡ after_step before t step → after ≡ holdings_at steps t (k + 1)
held-next steps t k step before after is held follows =
    follows ∙ ap (λ (h : Holdings). after_step h t step) held ∙ sym (holdings-step steps k step t is) ∙ ap (holdings_at steps t) (sym (add-one k))

-- by a step of its own, and by one of another thread
pub held-own : (t : ℕ) (step : Step) (before after : Holdings) → (step.thread == t) ≡ true → after ≡ changed_unless (refused_by before step.event) before step.event
    → after ≡ after_step before t step
held-own t step before after own is = rw own is

pub held-other : (t : ℕ) (step : Step) (before after : Holdings) → (step.thread == t) ≡ false → after ≡ before → after ≡ after_step before t step
held-other t step before after other is = rw other is
