-- One step for each page, by rising page.
use Rattle.std.proofs.Common.{◌≡◌, ◌<◌, ◌≤◌, ℕ, Option, length, sym, ap, ◌∙◌, subst, arith}
use Rattle.er_event.specs.Span.{Span, page_count, parts_below}
use Rattle.er_trace.specs.Trace.{Recording, with_step}
use Rattle.er_event.specs.declared.addresses.PageRange.{PageRange}
use Rattle.er_event.specs.declared.steps.Event.TheVariants.{Reuse}
use Rattle.er_text.specs.Events.{with_reuses, run_parts}
use Rattle.er_text.proofs.AddingLemmas.{no_part, one_more_part}
use Rattle.er_text.proofs.adding.add_reuse.Goals as goal

pub loop-i-init : goal.loop-i-init
loop-i-init c = no_part c.args.trace.now c.args.line c.args.thread c.args.site c.in-Some.range

pub push-requires : goal.push-requires
push-requires c =
    let named : c.args.thread < length c.loop-i.trace.names.threads = subst (λ (r : Recording). c.args.thread < length r.names.threads) (sym c.loop-i.invariant) c.requires.thread in
    let known : c.args.site ≤ length c.loop-i.trace.names.sites = subst (λ (r : Recording). c.args.site ≤ length r.names.sites) (sym c.loop-i.invariant) c.requires.site in
    record { step = record { thread = named; event = tt }; site = known }

pub loop-i-preserved : goal.loop-i-preserved
loop-i-preserved c =
    c.in_ok-push.ensures.ok
    ∙ ap (λ (part : PageRange). with_step c.loop-i.trace (record { thread = c.args.thread; event = Reuse part }) c.args.line c.args.site) c.part.ensures.value
    ∙ one_more_part c.args.trace.now c.loop-i.trace c.args.line c.args.thread c.args.site c.in-Some.range c.loop-i.i c.loop-i.invariant

pub returns : goal.returns
returns c =
    let all : c.loop-i.i ≡ page_count c.in-Some.range = omega (arith, c.parts-i-end.ensures.value, c.loop-i-test.false, c.loop-i.auto.i-end) in
    c.loop-i.invariant
    ∙ ap (λ (n : ℕ). with_reuses c.args.trace.now c.args.line c.args.thread c.args.site (parts_below c.in-Some.range n)) all
    ∙ ap (λ (run : Option Span). with_reuses c.args.trace.now c.args.line c.args.thread c.args.site (run_parts run)) (sym c.in-Some.is)
