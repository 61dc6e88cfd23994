use Rattle.std.specs.List.{All}
use Rattle.er_detector.specs.Races.{IsRace}
use Rattle.er_detector.proofs.detector.Detector.races.Given as goal

abbrev pub invariant-loop-number : goal.invariant-loop-number
invariant-loop-number g l = All IsRace l.races.items
