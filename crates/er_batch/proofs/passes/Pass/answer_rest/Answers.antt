-- What stands for the steps so far goes on with the last batch.
use Rattle.std.proofs.Common.{List, [], IfSome}
use Rattle.er_batch.proofs.PassLemmas.{chunks-long, chunks-sited, on-kept}
use Rattle.er_batch.specs.Inner.Passes.{TellsBetween, batch_of}
use Rattle.er_batch.specs.Runs.{recorded}
use Rattle.er_parallel.proofs.CrewLemmas.{on-ok}
use Rattle.er_reading.proofs.NamedLemmas.{keeps_same}
use Rattle.er_reading.specs.Chunks.{chunk_lines, chunk_sites, chunk_steps}
use Rattle.er_reading.specs.declared.chunks.Chunk.{Chunk}
use Rattle.er_trace.specs.Trace.{Recording}
use Rattle.er_batch.proofs.passes.Pass.answer_rest.Goals as goal

pub returns-clause-answered : goal.returns-clause-answered
returns-clause-answered g c = λ asked past lines sites stands between.
    let t : Recording = c.args.self.now.trace in
    let last : List Chunk = c.args.self.now.last.items in
    let kept-between : IfSome asked.touches (λ all. TellsBetween all c.keep_last.new.self.touches.items c.keep_last.new.self.from c.args.next) =
    rw (c.keep_last.ensures.touches.0, c.keep_last.ensures.touches.1) between in
    rw (c.answer_last.ensures.part.0, c.answer_last.ensures.part.1, c.keep_last.ensures.part)
    (on-ok _ c.answer_last.result
    (λ done is.
    on-kept (λ r. g.A.Analyst.stands c.args.self.now.analyst asked r []) (λ r. g.A.Analyst.stands c.answer_last.new.self.analyst asked r []) t.names t.names t.names
    (chunk_steps last) (chunk_lines last) (chunk_sites last) c.args.self.now.of_pages c.keep_last.new.self.of_pages
    (chunks-long t.names last c.requires.formed) (chunks-sited t.names last c.requires.formed) c.args.self.now.part
    (batch_of c.keep_last.new.self.last.items t.names) c.keep_last.ensures.kept
    (λ past lines sites stands. rw c.keep_last.ensures.trace at (rw is at (c.answer_last.ensures.answered asked past lines sites t.names (rw c.keep_last.ensures.trace (keeps_same t.names))
    (rw c.as_slice.ensures.value at (c.prepare.ensures.ready asked (recorded past lines sites t.names) (rw c.keep_last.ensures.analyst stands))) kept-between)))
    c.keep_last.ensures.counted past lines sites stands))
