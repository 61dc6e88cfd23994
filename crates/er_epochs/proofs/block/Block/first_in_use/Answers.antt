use Rattle.std.proofs.Common.{◌+◌, ◌*◌, ◌∙◌, is_some, ap, sym, arith}
use Rattle.er_clock.specs.Counts.{count_by}
use Rattle.er_epochs.specs.Words.{known_beside, slot_at}
use Rattle.er_epochs.proofs.Lowest.{is_used, lowest_place, none_below-next}
use Rattle.er_epochs.proofs.block.Block.first_in_use.Goals as goal

pub loop-place-preserved : goal.loop-place-preserved
loop-place-preserved g c = record {
  none = none_below-next (λ i. is_used (count_by c.args.clock.now) (known_beside c.args.lists.now (c.args.number * 32 + i) (slot_at c.args.self.now i))) c.args.lo c.loop-place.place c.loop-place.invariant.none
      (ap is_some (sym (sym c.in_default.is ∙ c.last_use.ensures)));
  place = omega (arith, c.loop-place.invariant.place);
}

pub returns-in-Some-clause-lowest : goal.returns-in-Some-clause-lowest
returns-in-Some-clause-lowest g c =
    lowest_place (λ i. is_used (count_by c.args.clock.now) (known_beside c.args.lists.now (c.args.number * 32 + i) (slot_at c.args.self.now i))) c.args.lo c.args.hi c.loop-place.place c.loop-place.invariant.place
    (omega (arith, c.loop-place-test.true)) c.loop-place.invariant.none
    (ap is_some (sym c.in-Some.ensures))
