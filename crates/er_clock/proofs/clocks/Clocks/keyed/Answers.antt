use Rattle.er_event.specs.declared.steps.Mode.TheVariants.{Read, Write}
use Rattle.er_order.specs.Clocks.{OfThread, OfReleases, OfObject, clocks_at}
use Rattle.er_clock.proofs.clocks.Clocks.keyed.Goals as goal

pub returns : goal.returns
unfolding clocks_at
returns c (OfThread t) u = c.new.ensures t u
returns c (OfReleases l Write) u = c.new-2.ensures l u
returns c (OfReleases l Read) u = c.new-3.ensures l u
returns c (OfObject x) u = c.new-4.ensures x u
