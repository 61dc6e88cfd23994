-- The search passes what is of earlier lines, and stops at what isn't.
use Rattle.std.proofs.Common.{◌∙◌, ap, sym, arith}
use Rattle.std.proofs.lemmas.Option.{slice_get-get_or}
use Rattle.er_batch.specs.Touching.{of_line}
use Rattle.er_unordered.proofs.TouchLemmas.{found-at, none-at, passed-at}
use Rattle.er_unordered.proofs.touching.place_of.Goals as goal

pub loop-place-preserved : goal.loop-place-preserved
loop-place-preserved c = record {
  later = λ later low.
      passed-at c.args.touches.now c.loop-place.place _ later (slice_get-get_or c.args.touches.now c.loop-place.place (record { line = 0; first = 0; last = 0 }) c.loop-place-test.true)
      (omega (arith, low, c.if-touches-place.true))
      ∙ c.loop-place.invariant.later later low;
}

pub returns-else-touches-place-clause-found : goal.returns-else-touches-place-clause-found
returns-else-touches-place-clause-found c =
    let read = slice_get-get_or c.args.touches.now c.loop-place.place (record { line = 0; first = 0; last = 0 }) c.loop-place-test.true in
    sym (c.loop-place.invariant.later c.args.line (omega arith)) ∙ found-at c.args.touches.now c.loop-place.place _ c.args.line read c.if-touches-place.false
    ∙ ap (of_line c.args.line) (sym read)

pub returns-after-loop-place-clause-found : goal.returns-after-loop-place-clause-found
returns-after-loop-place-clause-found c =
    sym (c.loop-place.invariant.later c.args.line (omega arith)) ∙ none-at c.args.touches.now c.loop-place.place c.args.line c.loop-place-test.false
