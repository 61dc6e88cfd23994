-- The only worker answers each step, and to read ahead changes nothing.
use Rattle.std.proofs.Common.{◌≡◌, ◌+◌, ℕ, Err, ap, arith, length, subst, sym}
use Rattle.er_parallel.proofs.TakingLemmas.{all-own}
use Rattle.er_parallel.specs.Inner.Taking.{HasCome}
use Rattle.er_replay.specs.Standing.{Replayed}
use Rattle.er_parallel.proofs.worker.answer_near.Goals as goal

pub answer_own-requires-clause-own : goal.answer_own-requires-clause-own
answer_own-requires-clause-own c = all-own c.args.share c.index-near-k.result.event c.requires.alone c.requires.share.2

pub returns-in-Err-clause-fault : goal.returns-in-Err-clause-fault
returns-in-Err-clause-fault c past come full = c.in-Err.ensures.full past
    (subst (λ (m : Replayed). HasCome (c.args.from + c.loop-k.k) past c.args.steps.now c.args.share c.loop-k.found.items m) (sym c.look_ahead.ensures) (c.loop-k.invariant past come)) (ap Err full)

pub loop-k-preserved : goal.loop-k-preserved
loop-k-preserved c past come =
    let further : c.args.from + c.loop-k.k + 1 ≡ c.args.from + (c.loop-k.k + 1) = omega arith in
    subst (λ (n : ℕ). HasCome n past c.args.steps.now c.args.share c.answer_own.new.found.items c.answer_own.new.machine) further
    (c.in_default.ensures.far past
    (subst (λ (m : Replayed). HasCome (c.args.from + c.loop-k.k) past c.args.steps.now c.args.share c.loop-k.found.items m) (sym c.look_ahead.ensures) (c.loop-k.invariant past come)))

pub returns-clause-far : goal.returns-clause-far
returns-clause-far c past come =
    let ended : c.args.from + c.loop-k.k ≡ c.args.from + length c.args.near.now = omega (arith, c.loop-k-test.false, c.loop-k.auto.k-end) in
    subst (λ (n : ℕ). HasCome n past c.args.steps.now c.args.share c.loop-k.found.items c.loop-k.machine) ended (c.loop-k.invariant past come)
