-- Each handle leads to the next one's.
use Rattle.std.proofs.Common.{◌<◌, ◌∷◌, [], length, ◌∙◌, ap, arith}
use Rattle.std.proofs.lemmas.List.{length-set, length-append}
use Rattle.eraser_c.proofs.SettlementLemmas.{put-next}
use Rattle.eraser_c.proofs.settlement.put_back.Goals as goal

pub loop-kept-preserved : goal.loop-kept-preserved
loop-kept-preserved c =
    let one = ap length c.in-Some.ensures.steps.0 in
    let within : c.loop-kept.at < length c.loop-kept.handles = omega (arith, c.loop-kept.invariant.left, c.loop-kept.invariant.size, one) in
    record {
      size = length-set c.loop-kept.handles c.loop-kept.at c.leading_to.result ∙ c.loop-kept.invariant.size;
      at = omega (arith, c.loop-kept.invariant.at, length-append c.loop-kept.yielded (c.in-Some.kept ∷ []));
      left = omega (arith, c.loop-kept.invariant.left, one);
      back = put-next (λ boxed. boxed.value) c.loop-kept.handles c.loop-kept.at c.leading_to.result c.loop-kept.yielded c.in-Some.kept within c.leading_to.ensures c.loop-kept.invariant.back;
    }
