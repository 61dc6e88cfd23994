use Rattle.std.proofs.Common.{◌≡◌, find, reverse, take}
use Rattle.er_sites.specs.Text.{may_meet}
use Rattle.er_sites.proofs.stories.met.Given as goal

abbrev pub invariant-loop-because : goal.invariant-loop-because
invariant-loop-because l = l.last ≡ find (may_meet l.lacks l.race) (reverse (take l.because-index l.race.explained))
