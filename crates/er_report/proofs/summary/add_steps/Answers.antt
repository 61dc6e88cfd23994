-- The report on its way is that of the steps that were added, and at the end of all that were answered.
use Rattle.std.proofs.Common.{◌≡◌, ◌≤◌, ◌<◌, ◌∙◌, ℕ, List, Option, is_some, length, slice_get, slice_index, Some, refl, sym, ap, subst, arith}
use Rattle.std.proofs.lemmas.List.{get_or_read}
use Rattle.std.proofs.lemmas.Option.{slice_get_read, slice_get_within}
use Rattle.er_trace.specs.Trace.{Recording}
use Rattle.er_event.specs.declared.steps.Step.{Step}
use Rattle.er_explain.proofs.Passes.{held-start, held-next}
use Rattle.er_explain.specs.Following.{cover_by}
use Rattle.er_journal.specs.AnswerList.{shown}
use Rattle.er_journal.specs.declared.answers.Stopped.{Stopped}
use Rattle.er_model.specs.Answers.{answer}
use Rattle.er_model.specs.Holdings.{Holdings}
use Rattle.er_report.specs.Builder.{IsBuilt, IsReported}
use Rattle.er_report.specs.Kept.{Kept}
use Rattle.er_report.specs.Report.{answered_steps}
use Rattle.er_report.proofs.BuilderLemmas.{answers_are, answered_within, built-steps, step-answered, still-explained}
use Rattle.er_report.proofs.NamedLemmas.{site_named, line_site_named}
use Rattle.er_report.proofs.summary.add_steps.Goals as goal

pub loop-k-init : goal.loop-k-init
loop-k-init c = record {
  built = c.requires.begun;
  explains = refl;
  rules = refl;
  held = held-start c.args.trace.now.steps c.args.locks.now c.requires.locks;
  within = omega arith;
}

pub add-requires : goal.add-requires
unfolding IsBuilt
add-requires c =
    let steps : List Step = c.steps-step-items.result.now in
    let here : slice_get steps c.loop-k.k ≡ Some c.step-item.result = slice_get_read steps _ c.loop-k.k c.step-item.result refl (omega arith) c.step-item.is in
    let count : c.loop-k.builder.report.steps ≡ c.loop-k.k = built-steps _ c.loop-k.builder c.args.trace.now c.loop-k.k c.loop-k.invariant.built.built in
    let level : length c.sites.result.now ≡ length c.steps-step-items.result.now =
    ap (λ (sites : List ℕ). length sites) c.sites.ensures.value ∙ c.sites.ensures.one_per_step ∙ sym (ap (λ (steps : List Step). length steps) c.steps-step-items.ensures.value) in
    let read : c.index-sites-k.result ≡ slice_index c.args.trace.now.sites c.loop-k.k =
    get_or_read c.sites.result.now c.loop-k.k c.index-sites-k.result (omega arith) c.index-sites-k.is 0 ∙ ap (λ (sites : List ℕ). slice_index sites c.loop-k.k) c.sites.ensures.value in
    record {
      room = omega arith;
      site = rw c.names-names.ensures (site_named c.args.trace.now.names c.args.trace.now.steps c.steps-step-items.ensures.named c.loop-k.k c.step-item.result
          (rw c.steps-step-items.ensures.value at here));
      at = rw (c.names-names.ensures, read) (line_site_named c.args.trace.now.names c.args.trace.now.sites c.sites.ensures.named c.loop-k.k);
    }

pub loop-k-preserved : goal.loop-k-preserved
unfolding IsBuilt
loop-k-preserved c =
    let r : Recording = c.args.trace.now in
    let k : ℕ = c.loop-k.k in
    let stop : Option Stopped = c.args.outcome.now.stopped in
    let step : Step = c.step-item.result in
    let steps : List Step = c.steps-step-items.result.now in
    let read : slice_get steps k ≡ Some step = slice_get_read steps _ k step refl (omega arith) c.step-item.is in
    let here : slice_get r.steps k ≡ Some step = rw c.steps-step-items.ensures.value at read in
    let many : length c.args.outcome.now.answers ≡ length (answered_steps r.steps stop) = answers_are r stop c.args.outcome.now.answers c.requires.answers in
    let level : length c.sites.result.now ≡ length c.steps-step-items.result.now =
    ap (λ (sites : List ℕ). length sites) c.sites.ensures.value ∙ c.sites.ensures.one_per_step ∙ sym (ap (λ (steps : List Step). length steps) c.steps-step-items.ensures.value) in
    let site : c.index-sites-k.result ≡ slice_index r.sites k =
    get_or_read c.sites.result.now k c.index-sites-k.result (omega arith) c.index-sites-k.is 0 ∙ ap (λ (sites : List ℕ). slice_index sites k) c.sites.ensures.value in
    let below : k < length c.args.outcome.now.answers = slice_get_within c.args.outcome.now.answers k (shown c.in-Some.answer) c.in-Some.ensures in
    let at = step-answered r stop k _ _ _ step (shown c.in-Some.answer) c.held.result.now _ c.args.outcome.now.answers c.requires.answers c.in-Some.ensures here
    (ap (λ (numbers : List ℕ). slice_index numbers k) c.lines.ensures.value) site c.names-names.ensures (λ _. c.held.ensures.locks ∙ ap (λ (h : Holdings). h.held) c.get-held.ensures) (c.loop-k.invariant.held step.thread) in
    record {
      built =
          c.in_ok-explain.ensures.explained r k (c.in_ok-add.ensures.built_by (answer r.steps) r k c.loop-k.invariant.built.built at)
          (still-explained c.loop-k.builder c.add.new.self r k c.in_ok-add.ensures.rules c.in_ok-add.ensures.kept c.loop-k.invariant.built.explained) at.here at.line
          (λ _. c.cover_in.ensures ∙ ap (λ (h : Holdings). cover_by h step.event) (c.get-held.ensures ∙ c.loop-k.invariant.held step.thread));
      explains = c.in_ok-explain.ensures.explains ∙ ap (λ (kept : Option Kept). is_some kept) c.in_ok-add.ensures.kept ∙ c.loop-k.invariant.explains;
      rules = c.in_ok-explain.ensures.rules ∙ c.in_ok-add.ensures.rules ∙ c.loop-k.invariant.rules;
      held = held-next r.steps k step c.loop-k.locks c.follow.new.self here c.loop-k.invariant.held c.in_ok-follow.ensures.threads;
      within = omega (arith, many, below);
    }

pub returns-in_default-clause-reported : goal.returns-in_default-clause-reported
returns-in_default-clause-reported c =
    let r : Recording = c.args.trace.now in
    let stop : Option Stopped = c.args.outcome.now.stopped in
    let answered : length c.args.outcome.now.answers ≡ length (answered_steps r.steps stop) = answers_are r stop c.args.outcome.now.answers c.requires.answers in
    let most : length (answered_steps r.steps stop) ≤ length r.steps = answered_within r.steps stop in
    let all : length c.steps-step-items.result.now ≡ length r.steps = ap (λ (steps : List Step). length steps) c.steps-step-items.ensures.value in
    let past : length (answered_steps r.steps stop) ≤ c.loop-k.k = omega arith in
    let end : c.loop-k.k ≡ length (answered_steps r.steps stop) = omega (arith, past, c.loop-k.invariant.within) in
    subst (IsReported c.loop-k.builder r) end c.loop-k.invariant.built

pub returns-after-loop-k-clause-reported : goal.returns-after-loop-k-clause-reported
returns-after-loop-k-clause-reported c =
    let r : Recording = c.args.trace.now in
    let stop : Option Stopped = c.args.outcome.now.stopped in
    let answered : length c.args.outcome.now.answers ≡ length (answered_steps r.steps stop) = answers_are r stop c.args.outcome.now.answers c.requires.answers in
    let most : length (answered_steps r.steps stop) ≤ length r.steps = answered_within r.steps stop in
    let all : length c.steps-step-items.result.now ≡ length r.steps = ap (λ (steps : List Step). length steps) c.steps-step-items.ensures.value in
    let past : length (answered_steps r.steps stop) ≤ c.loop-k.k = omega arith in
    let end : c.loop-k.k ≡ length (answered_steps r.steps stop) = omega (arith, past, c.loop-k.invariant.within) in
    subst (IsReported c.loop-k.builder r) end c.loop-k.invariant.built
