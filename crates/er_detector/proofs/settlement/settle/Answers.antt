use Rattle.er_detector.specs.Settlement.{journals_of}
use Rattle.er_detector.proofs.OpenedLemmas.{err_shown}
use Rattle.er_detector.proofs.settlement.settle.Goals as goal

pub returns-clause-first : goal.returns-clause-first
returns-clause-first c =
    rw (← c.in_ok-parts.ensures.name) (err_shown c.in_ok-parts.parts.name c.in_ok-parts.parts.opened c.args.detector.max_threads c.args.seats.items (journals_of c.in_ok-parts.parts.shards.items) c.in_ok-parts.ensures.opened c.settle_parts.result c.settle_parts.ensures.first)
