-- What a machine says of a step behind the first k is what the definitions say of the step at position k.
use Rattle.std.proofs.Common.{◌≡◌, ◌<◌, ◌+◌, ◌==◌, ℕ, Bool, true, false, cond, List, [], ◌∷◌, ◌++◌, length, take, drop, slice_get, Some, refl, sym, ap, ◌∙◌, arith}
use Rattle.std.proofs.lemmas.List.{take-append-drop, length-take-le}
use Rattle.std.proofs.lemmas.Option.{slice_get_within}
use Rattle.er_event.specs.declared.steps.Event.{Event}
use Rattle.er_event.specs.declared.steps.Event.TheVariants.{Acquire, Release, Access, Reuse, IgnoreOn, IgnoreOff, Show, Level, Sync}
use Rattle.er_event.specs.declared.steps.Step.{Step}
use Rattle.er_model.proofs.Prefixes.{holdings-front, holdings-grow}
use Rattle.er_model.specs.Holdings.{Holdings, changed_unless, refused_by, holdings, holdings_at, holdings_end}
use Rattle.er_model.specs.Threads.{accepted, held}
use Rattle.er_order.specs.ByBytes.{Touched, answer_by_bytes, unordered_by_bytes}
use Rattle.er_report.specs.Report.{may_race}
use Rattle.er_batch.proofs.StepLemmas.{past-next}
use Rattle.er_unordered.proofs.BytesLemmas.{answer-stays, unordered-stays}

-- an access and a reuse leave what their thread holds
after-access : (h : Holdings) (event : Event) → (may_race event ≡ false → ⊥) → changed_unless (refused_by h event) h event ≡ h
after-access h (Access kind w site) accesses = refl
after-access h (Acquire l m) accesses = absurd (accesses refl)
after-access h (Release l m) accesses = absurd (accesses refl)
after-access h (Reuse range) accesses = refl
after-access h IgnoreOn accesses = absurd (accesses refl)
after-access h IgnoreOff accesses = absurd (accesses refl)
after-access h (Show w) accesses = absurd (accesses refl)
after-access h (Level n) accesses = absurd (accesses refl)
after-access h (Sync sync) accesses = absurd (accesses refl)

same-either : (b : Bool) (h other : Holdings) → other ≡ h → cond b other h ≡ h
same-either true h other same = same
same-either false h other same = refl

-- the step at position k
module _ (steps : List Step) (k : ℕ) (step : Step) (here : slice_get steps k ≡ Some step) where
  abbrev past : List Step
  past = take k steps

  within : k < length steps
  within = slice_get_within steps k step here

  pub long : length past ≡ k
  long = length-take-le k steps (omega (arith, within))

  next-long : length (take (k + 1) steps) ≡ k + 1
  next-long = length-take-le (k + 1) steps (omega (arith, within))

  pub bytes-here : (touched : Touched) → answer_by_bytes touched (past ++ step ∷ []) (length past) ≡ answer_by_bytes touched steps k
  bytes-here touched =
      ap (answer_by_bytes touched (past ++ step ∷ [])) long
      ∙ ap (λ (front : List Step). answer_by_bytes touched front k) (past-next steps k step here)
      ∙ sym (answer-stays touched (take (k + 1) steps) (drop (k + 1) steps) k (omega (arith, next-long)))
      ∙ ap (λ (all : List Step). answer_by_bytes touched all k) (take-append-drop (k + 1) steps)

  -- and the access that it is unordered with is the same
  pub with-here : (touched : Touched) → unordered_by_bytes touched (past ++ step ∷ []) (length past) ≡ unordered_by_bytes touched steps k
  with-here touched =
      ap (unordered_by_bytes touched (past ++ step ∷ [])) long
      ∙ ap (λ (front : List Step). unordered_by_bytes touched front k) (past-next steps k step here)
      ∙ sym (unordered-stays touched (take (k + 1) steps) (drop (k + 1) steps) k (omega (arith, next-long)))
      ∙ ap (λ (all : List Step). unordered_by_bytes touched all k) (take-append-drop (k + 1) steps)

  holdings-here : (t : ℕ) → holdings_end past t ≡ holdings_at steps t k
  holdings-here t =
      ap (holdings_at past t) long
      ∙ sym (holdings-front past (drop k steps) t k (omega (arith, long)))
      ∙ ap (λ (all : List Step). holdings_at all t k) (take-append-drop k steps)

  pub locks-here : (may_race step.event ≡ false → ⊥) → (t : ℕ) → (holdings_end (past ++ step ∷ []) t).held ≡ held (accepted steps k) t
  unfolding holdings
  locks-here accesses t =
      let same : holdings_end (past ++ step ∷ []) t ≡ holdings_at steps t k =
      holdings-grow past step t
      ∙ same-either (step.thread == t) (holdings_end past t) (changed_unless (refused_by (holdings_end past t) step.event) (holdings_end past t) step.event)
      (after-access (holdings_end past t) step.event accesses)
      ∙ holdings-here t in
      ap (λ (h : Holdings). h.held) same
