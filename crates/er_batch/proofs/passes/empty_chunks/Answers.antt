-- One more of them.
use Rattle.std.proofs.Common.{rules, ◌++◌, ◌∷◌, []}
use Rattle.er_batch.proofs.PassLemmas.{last-empty}
use Rattle.er_reading.specs.Chunks.{AreEmpty}
use Rattle.er_batch.proofs.passes.empty_chunks.Goals as goal

pub loop-preserved : goal.loop-preserved
loop-preserved c =
    let empty : AreEmpty (c.loop.chunks.items ++ c.new.result ∷ []) = last-empty c.loop.chunks.items c.new.result c.loop.invariant.empty c.new.ensures in
    search rules
