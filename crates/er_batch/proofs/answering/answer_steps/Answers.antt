-- Each step is answered as the definitions say, and added or counted, and a stop lacks what its step may want.
use Rattle.std.proofs.Common.{◌≡◌, ◌<◌, ◌+◌, ◌∙◌, ◌++◌, ◌∷◌, [], ℕ, List, length, take, slice_get, slice_index, IsFalse, Some, Result, Ok, refl, sym, ap, subst, arith}
use Rattle.std.proofs.lemmas.Option.{slice_get_read, slice_get_within}
use Rattle.er_event.proofs.Lists.{get_behind}
use Rattle.er_event.specs.declared.refusals.Refusal.{Refusal}
use Rattle.er_event.specs.declared.steps.Step.{Step}
use Rattle.er_explain.specs.Following.{cover_by}
use Rattle.er_model.specs.Answers.{answer_next}
use Rattle.er_model.specs.Holdings.{Holdings}
use Rattle.er_replay.proofs.BriefLemmas.{brief-room, if_err, refused, show-wants, whole}
use Rattle.er_replay.proofs.StopsLemmas.{lacks}
use Rattle.er_replay.specs.declared.machine.Brief.{Brief}
use Rattle.er_replay.specs.declared.machine.Brief.TheVariants as brief
use Rattle.er_replay.specs.Standing.{Replayed, Stands, found_no_room, holding, in_full, states}
use Rattle.er_report.specs.Builder.{IsReported, is_plain}
use Rattle.er_batch.specs.Inner.Answering.{HasComeTo}
use Rattle.er_text.specs.Batches.{joined}
use Rattle.er_trace.specs.Trace.{Recording}
use Rattle.er_batch.proofs.LagLemmas.{come-plain, come-told, lags-end}
use Rattle.er_batch.proofs.BatchLemmas.{number-behind, site-behind}
use Rattle.er_batch.proofs.StepLemmas.{answer-here, begins-here, covers-end, step-at}
use Rattle.er_batch.proofs.answering.answer_steps.Goals as goal
use Rattle.er_batch.proofs.answering.answer_steps.Goals.{then-says_nothing, else-says_nothing+in-Ok-First+in_ok-add_first, else-says_nothing+in_default+then-needs_no_line+in_ok-add_reason, else-says_nothing+in_default+else-needs_no_line+in_default-no_room+in_ok-added}

pub returns-in-Some-clause-run : goal.returns-in-Some-clause-run
returns-in-Some-clause-run c = λ past lines sites long each before.
    let r : Recording = joined past lines sites c.args.trace.now in
    let k : ℕ = c.loop-k.k in
    let step : Step = c.index-steps-k.result in
    let read : slice_get c.steps-steps.result.now k ≡ Some step = slice_get_read c.steps-steps.result.now _ k step refl (omega arith) c.index-steps-k.is in
    let here : slice_get r.steps (length past + k) ≡ Some step = get_behind past c.args.trace.now.steps k (length past + k) refl ∙ (rw c.steps-steps.ensures.value at read) in
    let come : HasComeTo c.loop-k.machine c.loop-k.builder r (length past + k) c.loop-k.plain = c.loop-k.invariant.run past lines sites long each before in (
      lags-end c.loop-k.builder c.add_plain.new.self r (length past + k) c.loop-k.plain come.lags c.add_plain.ensures.reported,
      slice_get_within r.steps (length past + k) step here,
      rw here (lacks (holding c.look_ahead.new.self) (states c.look_ahead.new.self) (take (length past + k) r.steps) step c.in-Some.cause c.in_full-answer.result
          (subst (λ (m : Replayed). Stands m (take (length past + k) r.steps)) (sym c.look_ahead.ensures) come.stands) c.in-Some.ensures
          (λ why so. refused (states c.take-brief.new.self) step.event c.take-brief.result.0 c.in_full-answer.result c.in_full-answer.ensures why (c.take-brief.ensures.refused why so))
          (λ none.
          if_err (states c.take-brief.new.self) step.event c.take-brief.result.0 c.in_full-answer.result c.in_full-answer.ensures _ (c.take-brief.ensures.room none)
          (λ shown. show-wants (holding c.look_ahead.new.self step.thread) (states c.look_ahead.new.self) step.thread step.event (c.take-brief.ensures.shows shown)))),
    )

pub loop-k-preserved : goal.loop-k-preserved
loop-k-preserved c =
    let k : ℕ = c.loop-k.k in
    let step : Step = c.index-steps-k.result in
    let read : slice_get c.steps-steps.result.now k ≡ Some step = slice_get_read c.steps-steps.result.now _ k step refl (omega arith) c.index-steps-k.is in
    let here : (past : List Step) → slice_get (past ++ c.args.trace.now.steps) (length past + k) ≡ Some step =
    λ past. get_behind past c.args.trace.now.steps k (length past + k) refl ∙ (rw c.steps-steps.ensures.value at read) in
    let stands : (steps : List Step) → Stands c.loop-k.machine steps → Stands c.look_ahead.new.self steps =
    λ steps known. subst (λ (m : Replayed). Stands m steps) (sym c.look_ahead.ensures) known in
    let next : IsFalse (found_no_room c.take-brief.result.0) → (steps : List Step) → Stands c.loop-k.machine steps → Stands c.take-brief.new.self (steps ++ step ∷ []) =
    λ room steps known. c.take-brief.ensures.goes_on steps (stands steps known) room in
    let answered : IsFalse (found_no_room c.take-brief.result.0) → (steps : List Step) → Stands c.loop-k.machine steps
    → in_full (states c.take-brief.new.self) step.event c.take-brief.result.0 ≡ answer_next steps step =
    λ room steps known. c.take-brief.ensures.answer steps (stands steps known) room in
    elim c.if-says_nothing.branch [
      | then-says_nothing w ↦ record {
        steps = rw (w.builder-is, w.plain-is) (let so_far = c.loop-k.invariant.steps in omega arith);
        rules = rw w.builder-is c.loop-k.invariant.rules;
        explains = rw w.builder-is c.loop-k.invariant.explains;
        run = λ past lines sites long each before.
            let r : Recording = joined past lines sites c.args.trace.now in
            let at : ℕ = length past + k in
            let come : HasComeTo c.loop-k.machine c.loop-k.builder r at c.loop-k.plain = c.loop-k.invariant.run past lines sites long each before in
            let one : at + 1 ≡ length past + (k + 1) = omega arith in
            let room = c.says_nothing.ensures.room w.if-says_nothing.true in
            let now = states c.take-brief.new.self in
            rw (w.builder-is, w.plain-is)
            (subst (λ (n : ℕ). HasComeTo c.take-brief.new.self c.loop-k.builder r n (c.loop-k.plain + 1)) one
            (come-plain c.loop-k.machine c.take-brief.new.self r at c.loop-k.plain step (here past) (next room (take at r.steps) come.stands) c.loop-k.builder
            (in_full now step.event c.take-brief.result.0) come
            (answered room (take at r.steps) come.stands) (c.says_nothing.ensures.plain w.if-says_nothing.true now step.event)
            (λ wanted.
            c.take-brief.ensures.unchanged (take at r.steps) (stands (take at r.steps) come.stands) room
            (c.says_nothing.ensures.keeps w.if-says_nothing.true (c.explains-explains.ensures ∙ sym c.loop-k.invariant.explains ∙ wanted)))));
      }
      | else-says_nothing+in-Ok-First+in_ok-add_first w ↦ record {
        steps = rw (w.builder-is, w.plain-is) (let so_far = c.loop-k.invariant.steps in let added = w.in_ok-add_first.ensures.steps in omega arith);
        rules = rw w.builder-is (w.in_ok-add_first.ensures.rules ∙ c.loop-k.invariant.rules);
        explains = rw w.builder-is (w.in_ok-add_first.ensures.explains ∙ c.loop-k.invariant.explains);
        run = λ past lines sites long each before.
            let r : Recording = joined past lines sites c.args.trace.now in
            let at : ℕ = length past + k in
            let come : HasComeTo c.loop-k.machine c.loop-k.builder r at c.loop-k.plain = c.loop-k.invariant.run past lines sites long each before in
            let first : c.take-brief.result.0 ≡ Ok brief.First = w.in-Ok-First.is ∙ ap Ok (rw w.in-Ok-First.is at w.in-Ok-First.field-0-is) in
            let room : IsFalse (found_no_room c.take-brief.result.0) = ap found_no_room first in
            let now = states c.take-brief.new.self in
            let behind : Stands c.take-brief.new.self (take at r.steps ++ step ∷ []) = next room (take at r.steps) come.stands in
            let line = ap (λ (numbers : List ℕ). slice_index numbers k) w.lines.ensures.value ∙ number-behind lines c.args.trace.now.lines (length past) k long in
            let plain = ap is_plain (sym (answer-here r.steps at step (here past)) ∙ sym (answered room (take at r.steps) come.stands)) ∙ ap (λ (b : Result Brief Refusal). is_plain (in_full now step.event b)) first in
            let reported : IsReported w.add_first.new.builder r (at + 1) =
            w.in_ok-add_first.ensures.reported r at come.lags (here past) line plain
            (λ _.
            begins-here r.steps at step (here past) c.look_ahead.new.self (stands (take at r.steps) come.stands) (c.take-brief.ensures.first first)) in
            let one : at + 1 ≡ length past + (k + 1) = omega arith in
            rw (w.builder-is, w.plain-is)
            (subst (λ (n : ℕ). HasComeTo c.take-brief.new.self w.add_first.new.builder r n 0) one
            (come-told c.loop-k.machine c.take-brief.new.self r at c.loop-k.plain step (here past) behind w.add_first.new.builder reported));
      }
      | else-says_nothing+in_default+then-needs_no_line+in_ok-add_reason w ↦ record {
        steps = rw (w.builder-is, w.plain-is) (let so_far = c.loop-k.invariant.steps in let added = w.in_ok-add_reason.ensures.steps in omega arith);
        rules = rw w.builder-is (w.in_ok-add_reason.ensures.rules ∙ c.loop-k.invariant.rules);
        explains = rw w.builder-is (w.in_ok-add_reason.ensures.explains ∙ c.loop-k.invariant.explains);
        run = λ past lines sites long each before.
            let r : Recording = joined past lines sites c.args.trace.now in
            let at : ℕ = length past + k in
            let come : HasComeTo c.loop-k.machine c.loop-k.builder r at c.loop-k.plain = c.loop-k.invariant.run past lines sites long each before in
            let room = w.needs_no_line.ensures.room w.if-needs_no_line.true in
            let now = states c.take-brief.new.self in
            let behind : Stands c.take-brief.new.self (take at r.steps ++ step ∷ []) = next room (take at r.steps) come.stands in
            let line = ap (λ (numbers : List ℕ). slice_index numbers k) w.lines-then-needs_no_line.ensures.value ∙ number-behind lines c.args.trace.now.lines (length past) k long in
            let plain = ap is_plain (sym (answer-here r.steps at step (here past)) ∙ sym (answered room (take at r.steps) come.stands)) ∙ w.needs_no_line.ensures.plain w.if-needs_no_line.true now step.event in
            let reported : IsReported w.add_reason.new.builder r (at + 1) =
            w.in_ok-add_reason.ensures.reported r at come.lags (here past) line plain
            (λ _. w.cover_in-cover.ensures ∙ ap (λ (h : Holdings). cover_by h step.event) (w.held.ensures.past (take at r.steps ++ step ∷ []) behind) ∙ covers-end r.steps at step (here past)) in
            let one : at + 1 ≡ length past + (k + 1) = omega arith in
            rw (w.builder-is, w.plain-is)
            (subst (λ (n : ℕ). HasComeTo c.take-brief.new.self w.add_reason.new.builder r n 0) one
            (come-told c.loop-k.machine c.take-brief.new.self r at c.loop-k.plain step (here past) behind w.add_reason.new.builder reported));
      }
      | else-says_nothing+in_default+else-needs_no_line+in_default-no_room+in_ok-added w ↦ record {
        steps = rw (w.builder-is, w.plain-is) (let so_far = c.loop-k.invariant.steps in let added = w.in_ok-added.ensures.steps in omega arith);
        rules = rw w.builder-is (w.in_ok-added.ensures.rules ∙ c.loop-k.invariant.rules);
        explains = rw w.builder-is (w.in_ok-added.ensures.explains ∙ c.loop-k.invariant.explains);
        run = λ past lines sites long each before.
            let r : Recording = joined past lines sites c.args.trace.now in
            let at : ℕ = length past + k in
            let come : HasComeTo c.loop-k.machine c.loop-k.builder r at c.loop-k.plain = c.loop-k.invariant.run past lines sites long each before in
            let room : IsFalse (found_no_room c.take-brief.result.0) =
            brief-room (states c.take-brief.new.self) step.event c.take-brief.result.0 w.in_full-answer.result w.in_full-answer.ensures w.in_default-no_room.ensures in
            let whole_answer = whole (states c.take-brief.new.self) step.event c.take-brief.result.0 w.in_full-answer.result w.in_full-answer.ensures w.in_default-no_room.ensures in
            let behind : Stands c.take-brief.new.self (take at r.steps ++ step ∷ []) = next room (take at r.steps) come.stands in
            let line = ap (λ (numbers : List ℕ). slice_index numbers k) w.lines-else-needs_no_line.ensures.value ∙ number-behind lines c.args.trace.now.lines (length past) k long in
            let inside : k < length w.sites.result.now = rw (w.sites.ensures.value, w.sites.ensures.one_per_step) (rw c.steps-steps.ensures.value at c.loop-k-test.true) in
            let site = site-behind w.sites.result.now sites c.args.trace.now.sites (length past) k w.index-sites-k.result w.sites.ensures.value each inside w.index-sites-k.is in
            let reported : IsReported w.add_behind-added.new.builder r (at + 1) =
            w.in_ok-added.ensures.reported r at come.lags
            (step-at r at _ _ _ step w.in_full-answer.result _ (here past) line site c.names-names.ensures (whole_answer ∙ answered room (take at r.steps) come.stands)
            (w.held-held.ensures.locks ∙ ap (λ (h : Holdings). h.held) (w.held-holder.ensures.past (take at r.steps ++ step ∷ []) behind)))
            (λ _. w.cover_in-cover-else-needs_no_line.ensures ∙ ap (λ (h : Holdings). cover_by h step.event) (w.held-holder.ensures.past (take at r.steps ++ step ∷ []) behind) ∙ covers-end r.steps at step (here past)) in
            let one : at + 1 ≡ length past + (k + 1) = omega arith in
            rw (w.builder-is, w.plain-is)
            (subst (λ (n : ℕ). HasComeTo c.take-brief.new.self w.add_behind-added.new.builder r n 0) one
            (come-told c.loop-k.machine c.take-brief.new.self r at c.loop-k.plain step (here past) behind w.add_behind-added.new.builder reported));
      }
    ]
