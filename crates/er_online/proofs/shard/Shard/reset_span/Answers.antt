-- Each page adds its reuse.
use Rattle.std.proofs.Common.{◌≡◌, ◌∷◌, [], ◌++◌, subst, sym}
use Rattle.std.proofs.lemmas.List.{append-nil}
use Rattle.er_event.specs.Span.{parts_below}
use Rattle.er_online.specs.Spans.{reset_call}
use Rattle.er_online.proofs.SpanLemmas.{resets-more}
use Rattle.er_online.proofs.shard.Shard.reset_span.Goals as goal

pub loop-page-init : goal.loop-page-init
unfolding parts_below
loop-page-init c = sym (append-nil c.args.self.now)

pub loop-page-preserved : goal.loop-page-preserved
loop-page-preserved c =
    resets-more c.args.self.now c.loop-page.self c.reset.new.self c.args.words c.loop-page.page c.loop-page.invariant
    (subst (λ range. c.reset.new.self ≡ c.loop-page.self ++ reset_call range ∷ []) c.part.ensures.value c.reset.ensures)
