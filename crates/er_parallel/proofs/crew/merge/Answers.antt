use Rattle.std.proofs.Common.{◌≡◌, ◌∙◌, ◌++◌, ◌∷◌, [], false, List, Result, Ok, Err, if◌then◌else◌, is_ok, is_err, sym}
use Rattle.er_parallel.specs.declared.worker.Unusual.{Unusual}
use Rattle.er_parallel.proofs.MergingLemmas.{taken-count, taken-machines, merged-more}
use Rattle.er_parallel.proofs.crew.merge.Goals as goal

pushed : {T E : Type 0} (r : Result T E) (old new more : List Unusual) → new ≡ (if is_ok r then more else old) → is_err r ≡ false → new ≡ more
pushed (Ok v) old new more is fine = is
pushed (Err e) old new more is fine = cc

pub loop-item-smaller : goal.loop-item-smaller
loop-item-smaller c = taken-count c.loop-item.workers c.in-Some-take_least.item c.take_least.new.workers c.in-Some-take_least.ensures

pub loop-item-preserved : goal.loop-item-preserved
loop-item-preserved c = record {
  machines = taken-machines c.loop-item.workers c.in-Some-take_least.item c.take_least.new.workers c.in-Some-take_least.ensures ∙ c.loop-item.invariant.machines;
  merged = λ apart.
      let done = pushed c.push.result c.loop-item.items.items c.push.new.self.items (c.loop-item.items.items ++ c.in-Some-take_least.item ∷ []) c.push.ensures.items (sym c.is_err.ensures.value ∙ c.if-is_err.false) in
      rw done
      (merged-more c.args.workers.now c.loop-item.workers c.take_least.new.workers c.loop-item.items.items c.in-Some-take_least.item c.in-Some-take_least.ensures (c.loop-item.invariant.merged apart));
}

pub returns-then-is_err-clause-machines : goal.returns-then-is_err-clause-machines
returns-then-is_err-clause-machines c = taken-machines c.loop-item.workers c.in-Some-take_least.item c.take_least.new.workers c.in-Some-take_least.ensures ∙ c.loop-item.invariant.machines
