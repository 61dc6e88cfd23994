-- The rule of a race does not depend on how many it takes.
use Rattle.std.proofs.Common.{ap}
use Rattle.std.proofs.Math.Seq.{map-set_same}
use Rattle.er_triage.specs.Known.{known_target}
use Rattle.er_triage.proofs.known.count_race.Goals as goal

pub returns-clause-rules : goal.returns-clause-rules
returns-clause-rules c = λ names.
    map-set_same (known_target names) c.args.known.now.items c.args.place _ c.index-race.result.now (ap (known_target names) c.index-race.ensures)
