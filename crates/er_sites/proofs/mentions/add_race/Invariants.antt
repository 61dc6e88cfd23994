use Rattle.std.proofs.Common.{◌≡◌, take, flat_map, nat_eq}
use Rattle.indexmap.specs.IndexSet.{insert_all}
use Rattle.er_places.specs.Reasons.{race_place, reason_place}
use Rattle.er_report.specs.declared.report.Because.{Because}
use Rattle.er_sites.specs.Mentions.{access_mentions}
use Rattle.er_sites.proofs.mentions.add_race.Given as goal

abbrev pub invariant-loop-because : goal.invariant-loop-because
invariant-loop-because l =
    l.numbers.keys ≡ insert_all nat_eq (insert_all nat_eq l.fn.numbers.keys (access_mentions l.of l.race.thread (race_place l.places l.race)))
    (flat_map (λ (because : Because). access_mentions l.of because.thread (reason_place l.places because)) (take l.because-index l.race.explained))
