-- A step has its unusual answer or its usual one.
use Rattle.std.proofs.Common.{◌≡◌, ◌∙◌, ◌<◌, ◌+◌, ℕ, List, length, slice_get, slice_index, Some, refl, ap}
use Rattle.std.proofs.lemmas.Option.{slice_get_read}
use Rattle.er_event.specs.declared.steps.Step.{Step}
use Rattle.er_explain.specs.Following.{cover_by}
use Rattle.er_model.specs.Holdings.{Holdings}
use Rattle.er_text.specs.Batches.{joined}
use Rattle.er_trace.specs.Trace.{Recording}
use Rattle.er_batch.proofs.BatchLemmas.{number-behind, site-behind}
use Rattle.er_batch.proofs.CrewLemmas.{with-item, as-usual}
use Rattle.er_batch.proofs.StepLemmas.{covers-next}
use Rattle.er_batch.proofs.crew.add_next.Goals as goal

pub returns-in_ok-add_behind-in-Some-clause-reported : goal.returns-in_ok-add_behind-in-Some-clause-reported
returns-in_ok-add_behind-in-Some-clause-reported c = λ past lines sites long each unusual next holds lags.
    let k : ℕ = c.args.k in
    let trace : Recording = c.args.trace.now in
    let r : Recording = joined past lines sites trace in
    let step : Step = c.index-steps-k.result in
    let within : k < length c.steps.result.now = rw c.steps.ensures.value c.requires.within in
    let here : slice_get trace.steps k ≡ Some step = rw c.steps.ensures.value at (slice_get_read c.steps.result.now _ k step refl within c.index-steps-k.is) in
    let line = ap (λ (numbers : List ℕ). slice_index numbers k) c.lines.ensures.value ∙ number-behind lines trace.lines (length past) k long in
    let inside : k < length c.sites.result.now = rw (c.sites.ensures.value, c.sites.ensures.one_per_step) c.requires.within in
    let site = site-behind c.sites.result.now sites trace.sites (length past) k c.index-sites-k.result c.sites.ensures.value each inside c.index-sites-k.is in
    let found = c.in-Some.ensures unusual.rise next in
    let at = with-item past trace.steps r.lines r.sites trace.names c.args.items.now unusual k _ _ step here line site c.args.next c.in-Some.item.now found.0 found.1 in
    c.in_ok-add_behind-in-Some.ensures.reported r (length past + k) lags (rw c.names-names.ensures at)
    (λ wanted. c.cover_in-cover.ensures ∙ ap (λ (h : Holdings). cover_by h step.event) (c.held-holds.ensures.own ∙ holds wanted step.thread) ∙ covers-next r.steps (length past + k) step at.here)

pub returns-in_ok-add_behind-in-None-clause-reported : goal.returns-in_ok-add_behind-in-None-clause-reported
returns-in_ok-add_behind-in-None-clause-reported c = λ past lines sites long each unusual next holds lags.
    let k : ℕ = c.args.k in
    let trace : Recording = c.args.trace.now in
    let r : Recording = joined past lines sites trace in
    let step : Step = c.index-steps-k.result in
    let within : k < length c.steps.result.now = rw c.steps.ensures.value c.requires.within in
    let here : slice_get trace.steps k ≡ Some step = rw c.steps.ensures.value at (slice_get_read c.steps.result.now _ k step refl within c.index-steps-k.is) in
    let line = ap (λ (numbers : List ℕ). slice_index numbers k) c.lines.ensures.value ∙ number-behind lines trace.lines (length past) k long in
    let inside : k < length c.sites.result.now = rw (c.sites.ensures.value, c.sites.ensures.one_per_step) c.requires.within in
    let site = site-behind c.sites.result.now sites trace.sites (length past) k c.index-sites-k.result c.sites.ensures.value each inside c.index-sites-k.is in
    let at = as-usual past trace.steps r.lines r.sites trace.names c.args.items.now unusual k _ _ step here line site c.args.next next (c.in-None.ensures unusual.rise next) c.held-held.result.now in
    c.in_ok-add_behind-in-None.ensures.reported r (length past + k) lags (rw (c.names-names.ensures, c.usual_answer-usual.ensures) at)
    (λ wanted. c.cover_in-cover.ensures ∙ ap (λ (h : Holdings). cover_by h step.event) (c.held-holds.ensures.own ∙ holds wanted step.thread) ∙ covers-next r.steps (length past + k) step at.here)
