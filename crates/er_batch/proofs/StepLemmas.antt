-- What a machine says of a step that comes after the first k is what the definitions say of the step at position k.
use Rattle.std.proofs.Common.{◌≡◌, ◌<◌, ◌+◌, ◌==◌, ℕ, Bool, true, false, cond, List, [], ◌∷◌, ◌++◌, length, take, drop, slice_get, slice_index, Some, None, Result, Ok, refl, sym, ap, subst, ◌∙◌, suc, add-one, arith}
use Rattle.std.proofs.lemmas.List.{take_more, take-append-drop, length-take-le}
use Rattle.std.proofs.lemmas.Option.{slice_get_within, get_or_from_slice_get}
use Rattle.er_trace.specs.Names.{NameTable}
use Rattle.er_trace.specs.Trace.{Recording}
use Rattle.er_event.specs.declared.refusals.Refusal.{Refusal}
use Rattle.er_event.specs.declared.steps.Event.{Event}
use Rattle.er_event.specs.declared.steps.Event.TheVariants.{Acquire, Release, Access, Reuse, IgnoreOn, IgnoreOff, Show, Level, Sync}
use Rattle.er_event.specs.declared.steps.Reply.{Reply}
use Rattle.er_event.specs.declared.steps.Reply.TheVariants.{Race}
use Rattle.er_event.specs.declared.steps.Step.{Step}
use Rattle.er_explain.proofs.RaceLemmas.{race-is}
use Rattle.er_explain.proofs.FoundLemmas.{no-word}
use Rattle.er_explain.specs.Following.{cover_by, BeginsAt, CountsWhere}
use Rattle.er_event.specs.declared.steps.WordState.TheVariants.{Virgin}
use Rattle.er_model.proofs.AnswersLemmas.{reading-step}
use Rattle.er_model.specs.Following.{marked}
use Rattle.er_model.specs.Words.{Mark, Counted, Reused, Shown, Nothing}
use Rattle.er_replay.specs.Standing.{Replayed, Stands, IsFirst, holding, states}
use Rattle.er_model.proofs.Threads.{holdings-step}
use Rattle.er_model.proofs.Prefixes.{answer-front, holdings-front, holdings-grow, state-front}
use Rattle.er_model.specs.Answers.{answer, answer_next, state_at, state_end}
use Rattle.er_model.specs.Explanations.{word_in, word_of}
use Rattle.er_model.specs.Holdings.{Holdings, changed_unless, refused_by, holdings, holdings_at, holdings_end}
use Rattle.er_model.specs.Threads.{accepted, held}
use Rattle.er_report.specs.Builder.{IsStepAt, KeepsState}

-- an access leaves what its thread holds
after-access : (h : Holdings) (event : Event) → (word_in event ≡ None → ⊥) → changed_unless (refused_by h event) h event ≡ h
after-access h (Access kind w site) accesses = refl
after-access h (Acquire l m) accesses = absurd (accesses refl)
after-access h (Release l m) accesses = absurd (accesses refl)
after-access h (Reuse range) accesses = absurd (accesses refl)
after-access h IgnoreOn accesses = absurd (accesses refl)
after-access h IgnoreOff accesses = absurd (accesses refl)
after-access h (Show w) accesses = absurd (accesses refl)
after-access h (Level n) accesses = absurd (accesses refl)
after-access h (Sync sync) accesses = absurd (accesses refl)

same-either : (b : Bool) (h other : Holdings) → other ≡ h → cond b other h ≡ h
same-either true h other same = same
same-either false h other same = refl

-- nor does another step change what covers it
cover-after : (b : Bool) (h : Holdings) (event : Event) → cover_by (cond b (changed_unless (refused_by h event) h event) h) event ≡ cover_by h event
cover-after true h (Access kind w site) = refl
cover-after false h (Access kind w site) = refl
cover-after b h (Acquire l m) = refl
cover-after b h (Release l m) = refl
cover-after b h (Reuse range) = refl
cover-after b h IgnoreOn = refl
cover-after b h IgnoreOff = refl
cover-after b h (Show w) = refl
cover-after b h (Level n) = refl
cover-after b h (Sync sync) = refl

pub covers-next : (steps : List Step) (k : ℕ) (step : Step) → slice_get steps k ≡ Some step → cover_by (holdings_at steps step.thread (k + 1)) step.event ≡ cover_by (holdings_at steps step.thread k) step.event
covers-next steps k step here =
    ap (λ (n : ℕ). cover_by (holdings_at steps step.thread n) step.event) (add-one k)
    ∙ ap (λ (h : Holdings). cover_by h step.event) (holdings-step steps k step step.thread here)
    ∙ cover-after (step.thread == step.thread) (holdings_at steps step.thread k) step.event

module _ (steps : List Step) (k : ℕ) (step : Step) (here : slice_get steps k ≡ Some step) where
  abbrev past : List Step
  past = take k steps

  within : k < length steps
  within = slice_get_within steps k step here

  long : length past ≡ k
  long = length-take-le k steps (omega (arith, within))

  pub past-next : past ++ step ∷ [] ≡ take (k + 1) steps
  past-next = sym (take_more steps k step within ∙ ap (λ (s : Step). take k steps ++ s ∷ []) (get_or_from_slice_get steps k step step here))

  next-long : length (take (k + 1) steps) ≡ k + 1
  next-long = length-take-le (k + 1) steps (omega (arith, within))

  pub answer-here : answer_next past step ≡ answer steps k
  answer-here =
      ap (answer (past ++ step ∷ [])) long
      ∙ ap (λ (front : List Step). answer front k) past-next
      ∙ sym (answer-front (take (k + 1) steps) (drop (k + 1) steps) k (omega (arith, next-long)))
      ∙ ap (λ (all : List Step). answer all k) (take-append-drop (k + 1) steps)

  holdings-here : (t : ℕ) → holdings_end past t ≡ holdings_at steps t k
  holdings-here t =
      ap (holdings_at past t) long
      ∙ sym (holdings-front past (drop k steps) t k (omega (arith, long)))
      ∙ ap (λ (all : List Step). holdings_at all t k) (take-append-drop k steps)

  held-here : (t : ℕ) → answer steps k ≡ Ok Race → (holdings_end (past ++ step ∷ []) t).held ≡ held (accepted steps k) t
  unfolding holdings
  held-here t race =
      let accesses : word_in step.event ≡ None → ⊥ = λ none. no-word steps k (ap word_of here ∙ none) race in
      let same : holdings_end (past ++ step ∷ []) t ≡ holdings_at steps t k =
      holdings-grow past step t
      ∙ same-either (step.thread == t) (holdings_end past t) (changed_unless (refused_by (holdings_end past t) step.event) (holdings_end past t) step.event)
      (after-access (holdings_end past t) step.event accesses)
      ∙ holdings-here t in
      ap (λ (h : Holdings). h.held) same

  -- the states of a word there
  state-before : (w : ℕ) → state_end past w ≡ state_at steps w k
  state-before w =
      ap (state_at past w) long
      ∙ sym (state-front past (drop k steps) w k (omega (arith, long)))
      ∙ ap (λ (all : List Step). state_at all w k) (take-append-drop k steps)

  state-behind : (w : ℕ) → state_end (past ++ step ∷ []) w ≡ state_at steps w (suc k)
  state-behind w =
      ap (λ (front : List Step). state_end front w) past-next
      ∙ ap (state_at (take (k + 1) steps) w) next-long
      ∙ sym (state-front (take (k + 1) steps) (drop (k + 1) steps) w (k + 1) (omega (arith, next-long)))
      ∙ ap (λ (all : List Step). state_at all w (k + 1)) (take-append-drop (k + 1) steps)
      ∙ ap (state_at steps w) (add-one k)

  pub keeps-here : ((w : ℕ) → state_end (past ++ step ∷ []) w ≡ state_end past w) → KeepsState steps k
  keeps-here same w = sym (state-behind w) ∙ same w ∙ state-before w

  pub covers-end : cover_by (holdings_end (past ++ step ∷ []) step.thread) step.event ≡ cover_by (holdings_at steps step.thread k) step.event
  covers-end =
      ap (λ (h : Holdings). cover_by h step.event) (holdings-grow past step step.thread)
      ∙ cover-after (step.thread == step.thread) (holdings_end past step.thread) step.event
      ∙ ap (λ (h : Holdings). cover_by h step.event) (holdings-here step.thread)

  -- a machine that knows an access as the first of its word
  pub begins-here : (machine : Replayed) → Stands machine past → IsFirst (states machine) (marked (holding machine step.thread) step.thread step.event) → BeginsAt steps k
  begins-here machine stands first =
      subst (λ (m : Mark). CountsWhere m (λ w. state_at steps w k ≡ Virgin))
      (ap (λ (h : Holdings). marked h step.thread step.event) (stands.0 step.thread ∙ holdings-here step.thread) ∙ sym (reading-step steps k step here))
      (by (marked (holding machine step.thread) step.thread step.event) first)
    where
      by : (m : Mark) → IsFirst (states machine) m → CountsWhere m (λ w. state_at steps w k ≡ Virgin)
      by (Counted t kind word cover) virgin = sym (state-before word) ∙ (sym (stands.1 word) ∙ virgin)
      by (Reused range) never = never
      by (Shown word) never = never
      by Nothing never = never

pub step-at : (r : Recording) (k : ℕ) (names : NameTable) (number site : ℕ) (step : Step) (given : Result Reply Refusal) (locks : List ℕ)
    → slice_get r.steps k ≡ Some step → number ≡ slice_index r.lines k → site ≡ slice_index r.sites k → names ≡ r.names → given ≡ answer_next (take k r.steps) step
    → locks ≡ (holdings_end (take k r.steps ++ step ∷ []) step.thread).held → IsStepAt r k names number site step given locks
step-at r k names number site step given locks here line at named answered locked =
    let known : given ≡ answer r.steps k = answered ∙ answer-here r.steps k step here in
    record {
      here = here;
      line = line;
      site = at;
      named = named;
      answered = known;
      locked = λ race. locked ∙ held-here r.steps k step here step.thread (sym known ∙ race-is given race);
    }
