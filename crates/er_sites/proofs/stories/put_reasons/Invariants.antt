use Rattle.std.proofs.Common.{◌≡◌, ◌++◌, take, flat_map}
use Rattle.er_sites.specs.Text.{reason_text}
use Rattle.er_sites.proofs.stories.put_reasons.Given as goal

abbrev pub invariant-loop-because : goal.invariant-loop-because
invariant-loop-because l = l.out.items ≡ l.fn.out.items ++ flat_map (reason_text l.legend.names.now l.legend.places.now l.race.line) (take l.because-index l.race.explained)
