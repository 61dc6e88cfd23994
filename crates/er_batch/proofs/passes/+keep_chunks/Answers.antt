-- What is kept of the first chunk, and then of the others.
use Rattle.std.proofs.Common.{◌≡◌, ◌++◌, ◌∷◌, List, Some, append_assoc, sym, subst}
use Rattle.er_batch.proofs.PassLemmas.{counted-more, kept-chunk, kept-first, kept-none-lines, kept-none-sites}
use Rattle.er_batch.specs.Analysts.{HasCounted}
use Rattle.er_event.specs.declared.steps.Step.{Step}
use Rattle.er_parts.specs.Parts.{kept_beside}
use Rattle.er_reading.specs.Chunks.{AreFormed, chunk_lines, chunk_sites, chunk_steps}
use Rattle.er_reading.specs.declared.chunks.Chunk.{Chunk}
use Rattle.er_batch.proofs.passes.+keep_chunks.Goals as goal

pub returns-in_default-clause-lines : goal.returns-in_default-clause-lines
returns-in_default-clause-lines t c = kept-none-lines c.args.part c.args.chunks.now c.in_default.ensures.cases

pub returns-in_default-clause-sites : goal.returns-in_default-clause-sites
returns-in_default-clause-sites t c = kept-none-sites c.args.part c.args.chunks.now c.in_default.ensures.cases

pub returns-clause-lines : goal.returns-clause-lines
returns-clause-lines t c =
    let formed : AreFormed c.requires.0 (c.in-Some.first.now ∷ c.in-Some.others.now) = subst (λ (cs : List Chunk). AreFormed c.requires.0 cs) c.in-Some.ensures.cases.0 c.requires.1 in
    subst (λ (cs : List Chunk). c.keep-counted.new.lines.items ++ chunk_lines c.keep_chunks.new.chunks ≡ kept_beside c.args.part (chunk_steps cs) (chunk_lines cs)) (sym c.in-Some.ensures.cases.0)
    (kept-first c.args.part c.in-Some.first.now.steps.items (chunk_steps c.in-Some.others.now) c.in-Some.first.now.lines.items (chunk_lines c.in-Some.others.now) c.keep-counted.new.lines.items (chunk_lines c.keep_chunks.new.chunks)
    formed.0.long c.keep-counted.ensures.lines c.keep_chunks.ensures.lines)

pub returns-clause-sites : goal.returns-clause-sites
returns-clause-sites t c =
    let formed : AreFormed c.requires.0 (c.in-Some.first.now ∷ c.in-Some.others.now) = subst (λ (cs : List Chunk). AreFormed c.requires.0 cs) c.in-Some.ensures.cases.0 c.requires.1 in
    subst (λ (cs : List Chunk). c.keep-counted.new.sites.items ++ chunk_sites c.keep_chunks.new.chunks ≡ kept_beside c.args.part (chunk_steps cs) (chunk_sites cs)) (sym c.in-Some.ensures.cases.0)
    (kept-first c.args.part c.in-Some.first.now.steps.items (chunk_steps c.in-Some.others.now) c.in-Some.first.now.sites.items (chunk_sites c.in-Some.others.now) c.keep-counted.new.sites.items (chunk_sites c.keep_chunks.new.chunks)
    formed.0.one_each c.keep-counted.ensures.sites c.keep_chunks.ensures.sites)

pub returns-clause-formed : goal.returns-clause-formed
returns-clause-formed t c = λ names all.
    let formed : AreFormed names (c.in-Some.first.now ∷ c.in-Some.others.now) = subst (λ (cs : List Chunk). AreFormed names cs) c.in-Some.ensures.cases.0 all in (
      kept-chunk c.args.part names c.in-Some.first.now _ c.keep-counted.ensures.steps c.keep-counted.ensures.lines c.keep-counted.ensures.sites formed.0,
      c.keep_chunks.ensures.formed names formed.1,
    )

pub returns-clause-counted : goal.returns-clause-counted
returns-clause-counted t c = λ before so_far.
    subst (λ (steps : List Step). HasCounted (Some c.args.part) c.keep_chunks.result steps) (append_assoc before c.keep-counted.new.steps.items (chunk_steps c.keep_chunks.new.chunks))
    (c.keep_chunks.ensures.counted (before ++ c.keep-counted.new.steps.items)
    (counted-more c.args.part c.args.of_pages c.keep-counted.result c.saturating_add.result before c.keep-counted.new.steps.items so_far c.keep-counted.ensures.counted c.saturating_add.ensures))
