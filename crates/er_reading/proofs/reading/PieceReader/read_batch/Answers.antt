-- Without pieces no chunk has steps, and names that are added behind the pieces leave those of their steps.
use Rattle.std.proofs.Common.{ℕ, List, subst, sym}
use Rattle.er_device.specs.Device.{inner_of}
use Rattle.er_event.specs.declared.steps.Step.{Step}
use Rattle.er_reading.proofs.ChunkLemmas.{if_none, with_none}
use Rattle.er_reading.proofs.NamedLemmas.{formed_if, names_if}
use Rattle.er_text.specs.Batches.{GivesBatch, HasRead}
use Rattle.er_text.specs.Places.{Reached}
use Rattle.er_reading.proofs.reading.PieceReader.read_batch.Goals as goal

pub returns-then-len-eq1-clause-told : goal.returns-then-len-eq1-clause-told
returns-then-len-eq1-clause-told g c = λ text steps lines sites read.
    with_none (λ (s : List Step) (n p : List ℕ). GivesBatch text s n p c.next_batch.new.self (g.D.Read.remaining (inner_of c.next_batch.new.reader)) c.next_batch.new.trace c.next_batch.result) steps lines sites
    c.clear_all.new.chunks c.clear_all.ensures (c.next_batch.ensures.told text steps lines sites (subst (λ (r : Reached). HasRead text steps lines sites r (g.D.Read.remaining (inner_of c.args.reader.now)) c.args.trace.now) (sym c.self.view_is) read))

pub returns-then-len-eq1-clause-formed : goal.returns-then-len-eq1-clause-formed
returns-then-len-eq1-clause-formed g c = if_none c.next_batch.new.trace.names c.clear_all.new.chunks c.next_batch.result c.clear_all.ensures

pub returns-clause-formed : goal.returns-clause-formed
returns-clause-formed g c =
    formed_if c.add_ahead.new.trace.names c.next_batch-2.new.trace.names c.add_ahead.new.chunks c.next_batch-2.result c.in_ok-all.ensures.formed (names_if c.add_ahead.new.trace c.next_batch-2.new.trace c.next_batch-2.result c.next_batch-2.ensures.grows)
