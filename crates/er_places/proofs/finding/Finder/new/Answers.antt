use Rattle.er_places.proofs.TextLemmas.{come-start}
use Rattle.er_places.specs.Wanted.{is_wanted}
use Rattle.er_places.proofs.finding.Finder.new.Goals as goal

pub returns-clause-come : goal.returns-clause-come
returns-clause-come c = λ wanted told.
    come-start (is_wanted wanted) c.in_ok-lines.lines c.keyed.result c.new.result c.keyed.ensures c.in_ok-lines.ensures.starts (c.new.ensures wanted) told
