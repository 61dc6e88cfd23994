-- The numbers aside, a batch is what its lines give.
use Rattle.std.proofs.Common.{◌≡◌, IfOk, sym, subst}
use Rattle.er_device.specs.Device.{inner_of}
use Rattle.er_text.specs.Batches.{GivesBatch, HasRead}
use Rattle.er_text.specs.Ending.{KnowsEnd}
use Rattle.er_text.specs.declared.reading.Batch.TheVariants.{End}
use Rattle.er_text.specs.Places.{Reached}
use Rattle.er_text.proofs.BatchLaws.{batch_gives}
use Rattle.er_text.proofs.EndingLaws.{batch_ends}
use Rattle.er_text.proofs.reading.TraceReader.next_batch.Goals as goal

pub returns-clause-told : goal.returns-clause-told
returns-clause-told g c = λ text steps lines sites read.
    let P : Reached → Type 0 = λ r. HasRead text steps lines sites r (g.R.Read.remaining (inner_of c.args.reader.now)) c.args.trace.now in
    let Q : Reached → Type 0 = λ r. GivesBatch text steps lines sites r (g.R.Read.remaining (inner_of c.read_batch-batch.new.reader)) c.read_batch-batch.new.trace c.read_batch-batch.result in
    subst Q (sym c.self.view_is) (batch_gives text steps lines sites c.take_numbers-numbers.new.self c.read_batch-batch.new.self _ _ c.args.trace.now c.read_batch-batch.new.trace c.read_batch-batch.result
    c.read_batch-batch.ensures.limit (subst P (sym c.take_numbers-numbers.ensures.same) read) c.read_batch-batch.ensures.batch c.read_batch-batch.ensures.tail)

pub returns-clause-ends : goal.returns-clause-ends
returns-clause-ends g c = λ text steps lines sites read.
    let P : Reached → Type 0 = λ r. HasRead text steps lines sites r (g.R.Read.remaining (inner_of c.args.reader.now)) c.args.trace.now in
    let Q : Reached → Type 0 = λ r. IfOk c.read_batch-batch.result (λ batch. batch ≡ End → KnowsEnd text r) in
    subst Q (sym c.self.view_is) (batch_ends text steps lines sites c.take_numbers-numbers.new.self c.read_batch-batch.new.self _ _ c.args.trace.now c.read_batch-batch.new.trace c.read_batch-batch.result
    (subst P (sym c.take_numbers-numbers.ensures.same) read) c.read_batch-batch.ensures.batch c.read_batch-batch.ensures.tail)

pub read_batch-batch-requires-clause-right : goal.read_batch-batch-requires-clause-right
read_batch-batch-requires-clause-right g c = c.take_numbers-numbers.ensures.right _ _
