use Rattle.std.proofs.Common.{Ok, refl}
use Rattle.er_load.proofs.CallLemmas.{accessed, ok-made}
use Rattle.er_load.proofs.runner.make_calls.Goals as goal

pub returns-in-Acquire-clause-made : goal.returns-in-Acquire-clause-made
returns-in-Acquire-clause-made g c = rw c.in-Acquire.is (rw c.new-lock.ensures at (ok-made _ _ _ _ _ c.acquire.ensures.ok refl))

pub returns-in-Release-clause-made : goal.returns-in-Release-clause-made
returns-in-Release-clause-made g c = rw c.in-Release.is (rw c.new-lock.ensures at (ok-made _ _ _ _ _ c.release.ensures.ok refl))

pub returns-in-IgnoreOn-clause-made : goal.returns-in-IgnoreOn-clause-made
returns-in-IgnoreOn-clause-made g c = rw c.in-IgnoreOn.is (ok-made _ _ _ _ _ c.ignore_on.ensures.ok refl)

pub returns-in-IgnoreOff-clause-made : goal.returns-in-IgnoreOff-clause-made
returns-in-IgnoreOff-clause-made g c = rw c.in-IgnoreOff.is (ok-made _ _ _ _ _ c.ignore_off.ensures.ok refl)

pub returns-in_ok-access-in-Access-clause-made : goal.returns-in_ok-access-in-Access-clause-made
returns-in_ok-access-in-Access-clause-made g c =
    rw c.in-Access.is (accessed (Ok c.in_ok-access-in-Access.field-0) _ _ _ _ c.in_ok-access-in-Access.ensures.counted c.in_ok-access-in-Access.ensures.listed)
