use Rattle.std.proofs.Common.{◌≡◌, ◌<◌, length, refl, sym, ◌∙◌, ap, arith, add-one, length-set}
use Rattle.std.proofs.lemmas.List.{take_more_set, take_all}
use Rattle.er_event.specs.Lockset.{level_lock, locks_from}
use Rattle.er_held.proofs.HeldLemmas.{locks-last}
use Rattle.er_held.proofs.holding.level_locks.Goals as goal

pub loop-i-init : goal.loop-i-init
unfolding locks_from
loop-i-init c = record { size = refl; first = refl }

pub loop-i-preserved : goal.loop-i-preserved
loop-i-preserved c =
    let within : c.loop-i.i < length c.loop-i.locks = rw c.loop-i.invariant.size c.loop-i-test.true in
    record {
      size = length-set c.loop-i.locks c.loop-i.i c.new.result ∙ c.loop-i.invariant.size;
      first = take_more_set c.loop-i.locks c.loop-i.i c.new.result within ∙ rw (c.loop-i.invariant.first, c.new.ensures) (sym (locks-last (level_lock 1) c.loop-i.i) ∙ ap (locks_from (level_lock 1)) (sym (add-one c.loop-i.i)));
    }

pub returns : goal.returns
returns c =
    let size = c.loop-i.invariant.size in
    let last : c.loop-i.i ≡ 31 = omega arith in
    sym (take_all c.loop-i.i c.loop-i.locks (omega arith)) ∙ c.loop-i.invariant.first ∙ ap (locks_from (level_lock 1)) last
