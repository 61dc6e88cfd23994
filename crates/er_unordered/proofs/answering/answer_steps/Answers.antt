-- Each step is answered as the definitions say, and added to the report.
use Rattle.std.proofs.Common.{◌≡◌, ◌<◌, ◌≤◌, ◌+◌, ◌∙◌, ◌++◌, ◌∷◌, [], ℕ, List, length, Err, Ok, take, slice_get, slice_index, Some, refl, sym, ap, subst, arith}
use Rattle.std.proofs.lemmas.Option.{slice_get_read}
use Rattle.std.specs.Option.{option_map}
use Rattle.er_event.proofs.Lists.{get_behind}
use Rattle.er_event.specs.declared.steps.Reply.TheVariants.{Race}
use Rattle.er_event.specs.declared.steps.Step.{Step}
use Rattle.er_model.specs.Holdings.{Holdings}
use Rattle.er_replay.proofs.ThreadsLemmas.{err_from}
use Rattle.er_batch.proofs.BatchLemmas.{number-behind, site-behind}
use Rattle.er_text.specs.Batches.{joined}
use Rattle.er_order.specs.ByBytes.{Touched, answer_by_bytes, unordered_by_bytes}
use Rattle.er_trace.specs.Trace.{Recording}
use Rattle.er_unordered.specs.Answered.{HasComeTo}
use Rattle.er_unordered.specs.Reports.{TouchAs, bytes_by}
use Rattle.er_batch.specs.Touching.{touch_on}
use Rattle.er_unordered.specs.Tags.{tag_at}
use Rattle.er_unordered.specs.Standing.{Ordered, Stands}
use Rattle.er_unordered.proofs.PassLemmas.{come-to, plain-here, start, step-here, told-plain, whole}
use Rattle.er_unordered.proofs.StoppingLemmas.{beyond-here, stop-by}
use Rattle.er_unordered.proofs.answering.answer_steps.Goals as goal
use Rattle.er_unordered.proofs.answering.answer_steps.Goals.{then-is_plain, else-is_plain+in_ok-add_told}

pub loop-k-preserved : goal.loop-k-preserved
loop-k-preserved g c =
    let k : ℕ = c.loop-k.k in
    let step : Step = c.index-steps-k.result in
    let read : slice_get c.steps-steps.result.now k ≡ Some step = slice_get_read c.steps-steps.result.now _ k step refl (omega arith) c.index-steps-k.is in
    let here : (past : List Step) → slice_get (past ++ c.args.trace.now.steps) (length past + k) ≡ Some step =
    λ past. get_behind past c.args.trace.now.steps k (length past + k) refl ∙ (rw c.steps-steps.ensures.value at read) in
    let line : (past : List Step) (lines : List ℕ) → length lines ≡ length past → (slice_index c.lines-in-loop-k.result.now k) ≡ slice_index (lines ++ c.args.trace.now.lines) (length past + k) =
    λ past lines long. ap (λ (numbers : List ℕ). slice_index numbers k) c.lines-in-loop-k.ensures.value ∙ number-behind lines c.args.trace.now.lines (length past) k long in
    let ahead : (touched : Touched) (r : Recording) (at : ℕ) → HasComeTo touched g.T.Tag.tag_of g.T.Tag.told_of c.loop-k.machine c.loop-k.builder c.loop-k.told r at → HasComeTo touched g.T.Tag.tag_of g.T.Tag.told_of c.look_ahead.new.self c.loop-k.builder c.loop-k.told r at =
    λ touched r at come. subst (λ (m : Ordered g.row.T.Denot). HasComeTo touched g.T.Tag.tag_of g.T.Tag.told_of m c.loop-k.builder c.loop-k.told r at) (sym c.look_ahead.ensures) come in
    let inside : k < length c.args.trace.now.steps = rw c.steps-steps.ensures.value at c.loop-k-test.true in
    let even : length c.args.trace.now.lines ≡ length c.args.trace.now.steps = c.lines-in-loop-k.ensures.one_per_step in
    let bytes : (touched : Touched) (n : ℕ) → TouchAs touched c.args.touches.now c.args.trace.now.lines n → touched (n + k) ≡ c.bytes_at-bytes.result =
    λ touched n touches. touches k (omega (arith, even, inside)) ∙ sym (c.bytes_at-bytes.ensures ∙ ap bytes_by (sym c.place_of-place.ensures.found) ∙ ap (λ (numbers : List ℕ). bytes_by (touch_on c.args.touches.now (slice_index numbers k))) c.lines-in-loop-k.ensures.value) in
    let goes_on : (touched : Touched) (n : ℕ) → touched n ≡ c.bytes_at-bytes.result → (past : List Step) (tags : ℕ → g.row.T.Denot) → Stands tags touched c.look_ahead.new.self past → length past ≡ n → tags (length past) ≡ g.T.Tag.tag_of (slice_index c.lines-in-loop-k.result.now k) (Some step) → Stands tags touched c.step.new.self (past ++ step ∷ []) =
    λ touched n same past tags stands at last. c.in_ok-answer.ensures.goes_on past tags touched stands (last ∙ sym c.of.ensures) (ap touched at ∙ same) in
    let answer : (touched : Touched) (n : ℕ) → touched n ≡ c.bytes_at-bytes.result → (past : List Step) (tags : ℕ → g.row.T.Denot) → Stands tags touched c.look_ahead.new.self past → length past ≡ n → c.in_ok-answer.answer.reply ≡ answer_by_bytes touched (past ++ step ∷ []) (length past) =
    λ touched n same past tags stands at. c.in_ok-answer.ensures.answer past tags touched stands (ap touched at ∙ same) in
    let named : (touched : Touched) (n : ℕ) → touched n ≡ c.bytes_at-bytes.result → (past : List Step) (tags : ℕ → g.row.T.Denot) → Stands tags touched c.look_ahead.new.self past → length past ≡ n → c.in_ok-answer.answer.reply ≡ Ok Race → c.in_ok-answer.answer.rival ≡ option_map tags (unordered_by_bytes touched (past ++ step ∷ []) (length past)) =
    λ touched n same past tags stands at race. c.in_ok-answer.ensures.named past tags touched stands (ap touched at ∙ same) race in
    elim c.if-is_plain.branch [
      | then-is_plain w ↦ record {
        steps = rw w.builder-is (let so_far = c.loop-k.invariant.steps in let added = w.add_plain.ensures.steps in omega arith);
        rules = rw w.builder-is (w.add_plain.ensures.rules ∙ c.loop-k.invariant.rules);
        later = c.place_of-place.ensures.later;
        run = λ touched past lines sites long each touches before.
            let r : Recording = joined past lines sites c.args.trace.now in
            let at : ℕ = length past + k in
            let come = ahead touched r at (c.loop-k.invariant.run touched past lines sites long each touches before) in
            let same = bytes touched (length past) touches in
            let one : at + 1 ≡ length past + (k + 1) = omega arith in
            let plain = sym c.is_plain.ensures ∙ w.if-is_plain.true in
            rw (w.builder-is, w.told-is)
            (subst (λ (n : ℕ). HasComeTo touched g.T.Tag.tag_of g.T.Tag.told_of c.step.new.self w.add_plain.new.self c.loop-k.told r n) one
            (come-to touched g.T.Tag.tag_of g.T.Tag.told_of c.look_ahead.new.self c.step.new.self c.loop-k.builder c.loop-k.told r at step (here past) come c.in_ok-answer.answer.reply c.in_ok-answer.answer.rival (slice_index c.lines-in-loop-k.result.now k) (line past lines long) (answer touched at same) (named touched at same) (goes_on touched at same)
            w.add_plain.new.self c.loop-k.told
            (w.add_plain.ensures.built_by (answer_by_bytes touched r.steps) r at come.built
            (plain-here touched g.T.Tag.tag_of g.T.Tag.told_of c.look_ahead.new.self c.step.new.self c.loop-k.builder c.loop-k.told r at step (here past) come c.in_ok-answer.answer.reply c.in_ok-answer.answer.rival (slice_index c.lines-in-loop-k.result.now k) (line past lines long) (answer touched at same) (named touched at same) (goes_on touched at same) plain))
            w.add_plain.ensures.rules
            (told-plain touched g.T.Tag.tag_of g.T.Tag.told_of c.look_ahead.new.self c.step.new.self c.loop-k.builder c.loop-k.told r at step (here past) come c.in_ok-answer.answer.reply c.in_ok-answer.answer.rival (slice_index c.lines-in-loop-k.result.now k) (line past lines long) (answer touched at same) (named touched at same) (goes_on touched at same) plain)));
      }
      | else-is_plain+in_ok-add_told w ↦ record {
        steps = rw w.builder-is (let so_far = c.loop-k.invariant.steps in let added = w.in_ok-add_told.ensures.steps in omega arith);
        rules = rw w.builder-is (w.in_ok-add_told.ensures.rules ∙ c.loop-k.invariant.rules);
        later = c.place_of-place.ensures.later;
        run = λ touched past lines sites long each touches before.
            let r : Recording = joined past lines sites c.args.trace.now in
            let at : ℕ = length past + k in
            let come = ahead touched r at (c.loop-k.invariant.run touched past lines sites long each touches before) in
            let same = bytes touched (length past) touches in
            let one : at + 1 ≡ length past + (k + 1) = omega arith in
            let inside : k < length w.sites-else-is_plain.result.now = rw (w.sites-else-is_plain.ensures.value, w.sites-else-is_plain.ensures.one_per_step) (rw c.steps-steps.ensures.value at c.loop-k-test.true) in
            let site = site-behind w.sites-else-is_plain.result.now sites c.args.trace.now.sites (length past) k w.index-sites-k.result w.sites-else-is_plain.ensures.value each inside w.index-sites-k.is in
            let given =
            step-here touched g.T.Tag.tag_of g.T.Tag.told_of c.look_ahead.new.self c.step.new.self c.loop-k.builder c.loop-k.told r at step (here past) come c.in_ok-answer.answer.reply c.in_ok-answer.answer.rival (slice_index c.lines-in-loop-k.result.now k) (line past lines long) (answer touched at same) (named touched at same) (goes_on touched at same)
            _ _ _ site c.names-names.ensures (λ past tags stands. w.held-held.ensures.locks ∙ ap (λ (h : Holdings). h.held) (w.held.ensures past tags touched stands)) in
            rw (w.builder-is, w.told-is)
            (subst (λ (n : ℕ). HasComeTo touched g.T.Tag.tag_of g.T.Tag.told_of c.step.new.self w.add_told.new.builder w.add_told.new.told r n) one
            (come-to touched g.T.Tag.tag_of g.T.Tag.told_of c.look_ahead.new.self c.step.new.self c.loop-k.builder c.loop-k.told r at step (here past) come c.in_ok-answer.answer.reply c.in_ok-answer.answer.rival (slice_index c.lines-in-loop-k.result.now k) (line past lines long) (answer touched at same) (named touched at same) (goes_on touched at same)
            w.add_told.new.builder w.add_told.new.told (w.in_ok-add_told.ensures.built touched r at come.built given) w.in_ok-add_told.ensures.rules (w.in_ok-add_told.ensures.told touched r at come.built given)));
      }
    ]

pub returns-clause-run : goal.returns-clause-run
returns-clause-run g c = λ touched past lines sites names kept run touches.
    let before : HasComeTo touched g.T.Tag.tag_of g.T.Tag.told_of c.args.machine.now c.args.builder.now c.args.told.now (joined past lines sites c.args.trace.now) (length past) =
    start touched g.T.Tag.tag_of g.T.Tag.told_of past lines sites names c.args.trace.now kept c.steps-steps.ensures.named c.lines.ensures.one_per_step c.sites.ensures.named c.sites.ensures.one_per_step c.args.machine.now c.args.builder.now c.args.told.now run in
    let come : HasComeTo touched g.T.Tag.tag_of g.T.Tag.told_of c.loop-k.machine c.loop-k.builder c.loop-k.told (joined past lines sites c.args.trace.now) (length past + c.loop-k.k) = c.loop-k.invariant.run touched past lines sites run.long run.one_each touches before in
    let low : length c.args.trace.now.steps ≤ c.loop-k.k = rw c.steps-steps.ensures.value at c.loop-k-test.false in
    let high : c.loop-k.k ≤ length c.args.trace.now.steps = rw c.steps-steps.ensures.value at c.loop-k.auto.k-end in
    let all : c.loop-k.k ≡ length c.args.trace.now.steps = omega (arith, low, high) in
    whole touched g.T.Tag.tag_of g.T.Tag.told_of past lines sites names c.args.trace.now kept c.steps-steps.ensures.named c.lines.ensures.one_per_step c.sites.ensures.named c.sites.ensures.one_per_step c.args.machine.now c.args.builder.now c.args.told.now run c.loop-k.machine c.loop-k.builder c.loop-k.told
    (subst (λ (n : ℕ). HasComeTo touched g.T.Tag.tag_of g.T.Tag.told_of c.loop-k.machine c.loop-k.builder c.loop-k.told (joined past lines sites c.args.trace.now) (length past + n)) all come)

pub returns-in_err-answer-clause-full : goal.returns-in_err-answer-clause-full
returns-in_err-answer-clause-full g c = λ touched past lines sites names kept run touches.
    let r : Recording = joined past lines sites c.args.trace.now in
    let at : ℕ = length past + c.loop-k.k in
    let before : HasComeTo touched g.T.Tag.tag_of g.T.Tag.told_of c.args.machine.now c.args.builder.now c.args.told.now r (length past) =
    start touched g.T.Tag.tag_of g.T.Tag.told_of past lines sites names c.args.trace.now kept c.steps-steps.ensures.named c.lines.ensures.one_per_step c.sites.ensures.named c.sites.ensures.one_per_step c.args.machine.now c.args.builder.now c.args.told.now run in
    let come : HasComeTo touched g.T.Tag.tag_of g.T.Tag.told_of c.loop-k.machine c.loop-k.builder c.loop-k.told r at = c.loop-k.invariant.run touched past lines sites run.long run.one_each touches before in
    let low : c.loop-k.k < length c.args.trace.now.steps = rw c.steps-steps.ensures.value at c.loop-k-test.true in
    let step : Step = c.index-steps-k.result in
    let read : slice_get c.steps-steps.result.now c.loop-k.k ≡ Some step = slice_get_read c.steps-steps.result.now _ c.loop-k.k step refl (omega arith) c.index-steps-k.is in
    let here : slice_get r.steps at ≡ Some step = get_behind past c.args.trace.now.steps c.loop-k.k at refl ∙ (rw c.steps-steps.ensures.value at read) in
    let stands : Stands (tag_at g.T.Tag.tag_of r) touched c.look_ahead.new.self (take at r.steps) = subst (λ (m : Ordered g.row.T.Denot). Stands (tag_at g.T.Tag.tag_of r) touched m (take at r.steps)) (sym c.look_ahead.ensures) come.stands in
    err_from c.from_residual.result _ _ c.from_residual.ensures.1 (λ e is.
    rw is (stop-by r.steps c.in_err-answer.field-0.0 (λ limit beyond. beyond-here limit r.steps at step here
    (c.in_err-answer.ensures.limit (take at r.steps) (tag_at g.T.Tag.tag_of r) touched stands limit (ap Err beyond)))))
