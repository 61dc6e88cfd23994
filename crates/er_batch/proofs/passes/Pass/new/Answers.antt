-- What the analyst stands for before any step, the pass has come to.
use Rattle.std.proofs.Common.{[]}
use Rattle.er_batch.proofs.PassLemmas.{begun, stands-first}
use Rattle.er_batch.specs.Inner.Passes.{StandsFor}
use Rattle.er_reading.proofs.ChunkLemmas.{none_formed}
use Rattle.er_batch.proofs.passes.Pass.new.Goals as goal

pub returns-clause-come : goal.returns-clause-come
returns-clause-come g c = λ asked stands told.
    begun (StandsFor c.args.options.now.part (λ r. g.A.Analyst.stands c.args.analyst asked r []) 0) c.in_ok-lines.lines c.keyed.result c.in_ok-last.last.items c.keyed.ensures
    c.in_ok-last.ensures.empty c.in_ok-lines.ensures.starts (stands-first c.args.options.now.part _ stands) told

pub returns-clause-formed : goal.returns-clause-formed
returns-clause-formed g c = none_formed _ _ c.in_ok-last.ensures.empty
