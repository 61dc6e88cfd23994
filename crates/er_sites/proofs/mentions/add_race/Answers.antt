-- One reason more, and behind its own access all of them.
use Rattle.std.proofs.Common.{◌∙◌, ℕ, List, Option, nat_eq, ap}
use Rattle.er_places.specs.Reasons.{reason_place}
use Rattle.er_places.specs.declared.places.Place.{Place}
use Rattle.er_report.specs.declared.report.Because.{Because}
use Rattle.er_sites.proofs.MentionLemmas.{insert_next}
use Rattle.er_sites.specs.Mentions.{access_mentions}
use Rattle.indexmap.specs.IndexSet.{insert_all}
use Rattle.er_sites.proofs.mentions.add_race.Goals as goal

pub loop-because-preserved : goal.loop-because-preserved
loop-because-preserved c =
    let before : List ℕ = c.loop-because.numbers.keys in
    rw (← c.race.view_is)
    (insert_next (λ (because : Because). access_mentions c.args.of because.thread (reason_place c.args.places.now because)) c.race.inside.explained.now c.loop-because.because-index c.because-item.result c.because-item.result _
    before c.add_access-in-loop-because.new.numbers.keys c.loop-because-test.true c.because-item.is (rw (← c.race.view_is) at c.loop-because.invariant)
    (c.in_ok-add_access-2.ensures ∙ ap (λ (found : Option Place). insert_all nat_eq before (access_mentions c.args.of c.because-item.result.thread found)) c.of_reason.ensures.place))
