use Rattle.std.proofs.Common.{◌≡◌, List, [], Result, Ok, Err, IsErrAnd, IsErrOf, subst}
use Rattle.er_event.specs.declared.steps.Step.{Step}
use Rattle.er_parallel.specs.Faults.{AsksForSet, MayFail}
use Rattle.er_parallel.specs.declared.config.ReplayFault.{ReplayFault}
use Rattle.er_parallel.specs.declared.config.ReplayFault.TheVariants as fault
use Rattle.er_parallel.proofs.replay.replay_parallel.Goals as goal

same_fault : {T : Type 0} (why other : ReplayFault) → IsErrOf {T = T} (Err why) other → why ≡ other
same_fault why other same = cc

full_asks : {T : Type 0} (steps : List Step) (r : Result T ReplayFault) (G : ReplayFault → Type 0) → IsErrAnd r G → ((why : ReplayFault) → G why → MayFail steps why) → IsErrOf r fault.TableFull → AsksForSet steps
full_asks steps (Ok v) G is may full = absurd is
full_asks steps (Err why) G is may full = subst (λ (f : ReplayFault). MayFail steps f) (same_fault why fault.TableFull full) (may why is)

none_lost : {T : Type 0} (steps : List Step) (r : Result T ReplayFault) (G : ReplayFault → Type 0) → IsErrAnd r G → ((why : ReplayFault) → G why → MayFail steps why) → IsErrOf r fault.WorkerLost → ⊥
none_lost steps (Ok v) G is may lost = absurd is
none_lost steps (Err why) G is may lost = subst (λ (f : ReplayFault). MayFail steps f) (same_fault why fault.WorkerLost lost) (may why is)

pub gather-requires : goal.gather-requires
gather-requires g c = c.in_ok-unusual.ensures.answers [] c.in_ok-crew.ensures.none

pub returns-in_err-unusual-clause-table_full : goal.returns-in_err-unusual-clause-table_full
returns-in_err-unusual-clause-table_full g c =
    full_asks c.args.steps.now c.from_residual-in_err-unusual.result _ c.from_residual-in_err-unusual.ensures.1 (λ why is. rw is (c.in_err-unusual.ensures.fault [] c.in_ok-crew.ensures.none))

pub returns-in_err-unusual-clause-none_lost : goal.returns-in_err-unusual-clause-none_lost
returns-in_err-unusual-clause-none_lost g c =
    none_lost c.args.steps.now c.from_residual-in_err-unusual.result _ c.from_residual-in_err-unusual.ensures.1 (λ why is. rw is (c.in_err-unusual.ensures.fault [] c.in_ok-crew.ensures.none))
