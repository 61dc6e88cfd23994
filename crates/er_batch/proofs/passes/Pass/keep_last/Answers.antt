-- What is kept keeps its form.
use Rattle.std.proofs.Common.{◌∙◌, List, length, ap, sym, subst}
use Rattle.er_parallel.proofs.CrewLemmas.{whole-back}
use Rattle.er_reading.specs.Chunks.{AreFormed}
use Rattle.er_reading.specs.declared.chunks.Chunk.{Chunk}
use Rattle.er_batch.proofs.passes.Pass.keep_last.Goals as goal

pub keep_chunks-self-requires : goal.keep_chunks-self-requires
keep_chunks-self-requires g c = (c.args.self.now.trace.names, subst (λ (cs : List Chunk). AreFormed c.args.self.now.trace.names cs) (sym c.as_mut_slice.ensures.value) c.requires.formed)

pub returns-in-Some-clause-formed : goal.returns-in-Some-clause-formed
returns-in-Some-clause-formed g c =
    subst (λ (cs : List Chunk). AreFormed c.args.self.now.trace.names cs)
    (sym (whole-back c.args.self.now.last.len c.keep_chunks-self.new.chunks c.args.self.now.last.items (c.keep_chunks-self.ensures.count ∙ ap length c.as_mut_slice.ensures.value) c.args.self.now.last.ok.0))
    (c.keep_chunks-self.ensures.formed c.args.self.now.trace.names (subst (λ (cs : List Chunk). AreFormed c.args.self.now.trace.names cs) (sym c.as_mut_slice.ensures.value) c.requires.formed))
