-- A report that lags behind by steps that have nothing to say.
use Rattle.std.proofs.Common.{◌≡◌, ◌∙◌, ◌+◌, ◌++◌, ◌∷◌, [], ℕ, List, true, is_some, Result, Some, IsTrue, slice_get, take, ap, sym, subst, arith, ⊎_elim}
use Rattle.er_event.specs.declared.refusals.Refusal.{Refusal}
use Rattle.er_event.specs.declared.steps.Reply.{Reply}
use Rattle.er_event.specs.declared.steps.Step.{Step}
use Rattle.er_model.proofs.Search.{below_or_at}
use Rattle.er_model.specs.Answers.{answer, answer_next, state_end}
use Rattle.er_replay.specs.Standing.{Replayed, Stands}
use Rattle.er_report.specs.Builder.{Built, ArePlain, IsExplained, IsReported, KeepsState, KeepStates, is_plain}
use Rattle.er_batch.proofs.StepLemmas.{answer-here, keeps-here, past-next}
use Rattle.er_batch.specs.Inner.Answering.{HasComeTo, Lags}
use Rattle.er_trace.specs.Trace.{Recording}

-- by none
pub lags-none : (builder : Built) (r : Recording) (n : ℕ) → IsReported builder r n → Lags builder r n 0
lags-none builder r n reported =
    record {
      start = n;
      behind = omega arith;
      reported = reported;
      answers = λ i from to. absurd (omega arith);
      keep = λ wanted i from to. absurd (omega arith);
    }

-- by one more
pub lags-more : (builder : Built) (r : Recording) (n plain : ℕ) → Lags builder r n plain → is_plain (answer r.steps n) ≡ true → (IsTrue (is_some builder.kept) → KeepsState r.steps n)
    → Lags builder r (n + 1) (plain + 1)
lags-more builder r n plain lags here keeps =
    let behind : lags.start + plain ≡ n = lags.behind in
    record {
      start = lags.start;
      behind = omega arith;
      reported = lags.reported;
      answers = λ i from to.
          ⊎_elim (λ low. lags.answers i from (omega arith)) (λ same. rw same here) (below_or_at i n (omega arith));
      keep = λ wanted i from to.
          ⊎_elim (λ low. lags.keep wanted i from (omega arith)) (λ same. subst (KeepsState r.steps) (sym same) (keeps wanted)) (below_or_at i n (omega arith));
    }

-- until they are added
pub lags-end : (before after : Built) (r : Recording) (n plain : ℕ) → Lags before r n plain
    → ((s : Recording) (k : ℕ) → IsReported before s k → ArePlain s.steps k plain → (IsTrue (is_some before.kept) → KeepStates s.steps k plain) → IsReported after s (k + plain))
    → IsReported after r n
lags-end before after r n plain lags adds = subst (IsReported after r) lags.behind (adds r lags.start lags.reported lags.answers lags.keep)

-- a plain answer of one step
pub one-plain : (steps : List Step) (k : ℕ) → is_plain (answer steps k) ≡ true → ArePlain steps k 1
one-plain steps k plain i from below =
    let here : i ≡ k = omega (arith, from, below) in
    ap (λ n. is_plain (answer steps n)) here ∙ plain

-- what is kept for reasons waits for the step to be explained
pub kept-on : (before after : Built) (r : Recording) (n : ℕ) → after.kept ≡ before.kept → after.rules ≡ before.rules → IsExplained before r n → IsExplained after r n
kept-on before after r n kept rules explained = rw (kept, rules) explained

-- a step that has nothing to say, and one that was added
module _ (old new : Replayed) (r : Recording) (n plain : ℕ) (step : Step) (here : slice_get r.steps n ≡ Some step) (next : Stands new (take n r.steps ++ step ∷ [])) where
  pub come-plain : (builder : Built) (given : Result Reply Refusal) → HasComeTo old builder r n plain → given ≡ answer_next (take n r.steps) step → is_plain given ≡ true
      → (IsTrue (is_some builder.kept) → (w : ℕ) → state_end (take n r.steps ++ step ∷ []) w ≡ state_end (take n r.steps) w)
      → HasComeTo new builder r (n + 1) (plain + 1)
  come-plain builder given come answered nothing keeps =
      record {
        stands = subst (Stands new) (past-next r.steps n step here) next;
        lags = lags-more builder r n plain come.lags (ap is_plain (sym (answer-here r.steps n step here) ∙ sym answered) ∙ nothing)
            (λ wanted. keeps-here r.steps n step here (keeps wanted));
      }

  pub come-told : (after : Built) → IsReported after r (n + 1) → HasComeTo new after r (n + 1) 0
  come-told after reported =
      record { stands = subst (Stands new) (past-next r.steps n step here) next; lags = lags-none after r (n + 1) reported }
