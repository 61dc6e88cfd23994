use Rattle.er_order.proofs.ClockSteps.{acquired, awaited, released, signalled, started, joined, local}
use Rattle.er_order.proofs.laws.a_step_moves_its_clocks.Goals as goal

pub returns-clause-acquired : goal.returns-clause-acquired
returns-clause-acquired c = λ clocks t l u m k. acquired clocks t u l m k

pub returns-clause-awaited : goal.returns-clause-awaited
returns-clause-awaited c = λ clocks t x u k. awaited clocks t u x k

pub returns-clause-released : goal.returns-clause-released
returns-clause-released c = λ clocks t l u m k. released clocks t u l m k

pub returns-clause-signalled : goal.returns-clause-signalled
returns-clause-signalled c = λ clocks t x u k. signalled clocks t u x k

pub returns-clause-started : goal.returns-clause-started
returns-clause-started c = λ clocks t v u k. started clocks t u v k

pub returns-clause-joined : goal.returns-clause-joined
returns-clause-joined c = λ clocks t v u k. joined clocks t u v k

pub returns-clause-local : goal.returns-clause-local
returns-clause-local c = local
