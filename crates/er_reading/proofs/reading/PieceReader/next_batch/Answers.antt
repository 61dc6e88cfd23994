-- The last chunk has the steps behind those of the pieces.
use Rattle.std.proofs.Common.{◌≡◌, ◌++◌, ◌∷◌, List, [], Ok, subst, sym, ap, arith}
use Rattle.er_device.specs.Device.{inner_of}
use Rattle.er_reading.proofs.ChunkLemmas.{gives_moved, last_formed, none_left}
use Rattle.er_reading.specs.Chunks.{chunk_lines, chunk_sites, chunk_steps}
use Rattle.er_reading.specs.declared.chunks.Chunk.{Chunk}
use Rattle.er_text.specs.Batches.{GivesBatch}
use Rattle.er_trace.specs.Trace.{Recording}
use Rattle.er_reading.proofs.reading.PieceReader.next_batch.Goals as goal

pub returns-in-Some-clause-told : goal.returns-in-Some-clause-told
returns-in-Some-clause-told g c = λ text steps lines sites read.
    let alone : c.in-Some._others.now ≡ [] = none_left c.in-Some._others.now (omega (arith, c.split_at_mut-pieces.ensures.back_len, c.saturating_sub-front.ensures, c.in-Some.ensures.cases.1)) in
    subst (λ (ds : List Chunk). GivesBatch text (steps ++ chunk_steps (c.read_batch.new.chunks ++ c.take_all.new.self ∷ ds)) (lines ++ chunk_lines (c.read_batch.new.chunks ++ c.take_all.new.self ∷ ds))
    (sites ++ chunk_sites (c.read_batch.new.chunks ++ c.take_all.new.self ∷ ds)) c.read_batch.new.self (g.D.Read.remaining (inner_of c.read_batch.new.reader)) c.take_all.new.trace (Ok c.in_ok-batch.batch)) (sym alone)
    (gives_moved text steps lines sites c.read_batch.new.self (g.D.Read.remaining (inner_of c.read_batch.new.reader)) c.read_batch.new.trace c.take_all.new.trace c.in_ok-batch.batch c.read_batch.new.chunks
    c.take_all.new.self c.take_all.ensures.trace c.take_all.ensures.steps c.take_all.ensures.lines c.take_all.ensures.sites (c.in_ok-batch.ensures.told text steps lines sites read))

pub returns-in-Some-clause-formed : goal.returns-in-Some-clause-formed
returns-in-Some-clause-formed g c =
    let alone : c.in-Some._others.now ≡ [] = none_left c.in-Some._others.now (omega (arith, c.split_at_mut-pieces.ensures.back_len, c.saturating_sub-front.ensures, c.in-Some.ensures.cases.1)) in
    let same : c.take_all.new.trace.names ≡ c.read_batch.new.trace.names = ap (λ (r : Recording). r.names) c.take_all.ensures.trace in
    rw (alone, same) (last_formed c.read_batch.new.trace.names c.read_batch.new.chunks c.take_all.new.self c.in_ok-batch.ensures.formed c.take_all.ensures.formed)
