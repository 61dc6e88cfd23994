-- The first piece, whose steps go into a chunk if there is one, and then the others.
use Rattle.std.proofs.Common.{◌≡◌, ◌+◌, ◌++◌, ◌∷◌, ◌∙◌, ℕ, List, length, OnOk, ap, subst, rules}
use Rattle.er_event.specs.declared.steps.Step.{Step}
use Rattle.er_text.specs.Batches.{HasRead}
use Rattle.er_text.specs.Pieces.{ReadPiece}
use Rattle.er_trace.specs.Trace.{Recording}
use Rattle.er_reading.specs.Chunks.{AreEmpty, chunk_lines, chunk_sites, chunk_steps}
use Rattle.er_reading.specs.Inner.Adding.{AreReady, MayAllBeAdded}
use Rattle.er_reading.specs.declared.chunks.Chunk.{Chunk}
use Rattle.er_reading.proofs.AddedLemmas.{first_may, names_are, others_may, told_on}
use Rattle.er_reading.proofs.ChunkLemmas.{none_formed, read_moved, same_names, with_first, with_none}
use Rattle.er_reading.proofs.adding.+add_numbered.Goals as goal

pub returns-in_default-clause-told : goal.returns-in_default-clause-told
returns-in_default-clause-told t c = λ text steps numbers sites known names read front whole ready named had.
    with_none (λ (s : List Step) (n p : List ℕ). HasRead text s n p c.args.lines.now known c.args.trace.now) steps numbers sites c.args.chunks.now c.requires.empty
    (subst (λ (r : Recording). HasRead text steps numbers sites c.args.lines.now known r)
    (names_are c.args.lines.now.place.number names read c.args.pieces.now c.args.trace.now c.in_default.ensures.cases ready named) had)

pub returns-in_default-clause-formed : goal.returns-in_default-clause-formed
returns-in_default-clause-formed t c = none_formed c.args.trace.now.names c.args.chunks.now c.requires.empty

pub add_piece-requires : goal.add_piece-requires
add_piece-requires t c =
    first_may c.args.lines.now c.args.trace.now c.in-Some.first.now c.in-Some.others.now
    (subst (λ (ps : List ReadPiece). MayAllBeAdded c.args.lines.now c.args.trace.now ps) c.in-Some.ensures.cases.0 c.requires.front)

pub add_numbered-requires : goal.add_numbered-requires
add_numbered-requires t c =
    let step = c.in_ok-add_piece.ensures in
    let empty : AreEmpty (c.in-Some-split_first_mut.chunk.now ∷ c.in-Some-split_first_mut.more.now) = subst (λ (cs : List Chunk). AreEmpty cs) c.in-Some-split_first_mut.ensures.cases.0 c.requires.empty in
    let same = same_names c.add_piece.new.trace c.swap.new.trace c.in-Some-split_first_mut.chunk.now c.swap.new.self empty.0 c.swap.ensures.trace c.swap.ensures.steps c.swap.ensures.lines c.swap.ensures.sites in
    let may : MayAllBeAdded c.add_piece.new.self c.swap.new.trace c.in-Some.others.now =
    others_may c.args.lines.now c.add_piece.new.self c.args.trace.now c.swap.new.trace c.in-Some.first.now c.in-Some.others.now step.stage.0 step.stage.1 step.number step.start
    step.limit step.ahead (same ∙ ap (λ (r : Recording). r.names) step.trace)
    (subst (λ (ps : List ReadPiece). MayAllBeAdded c.args.lines.now c.args.trace.now ps) c.in-Some.ensures.cases.0 c.requires.front) in
    let shorter : length c.in-Some.others.now + 1 ≡ length c.args.pieces.now = c.in-Some.ensures.cases.1 in
    let others : AreEmpty c.in-Some-split_first_mut.more.now = empty.1 in
    search rules

pub add_numbered-requires-in-None : goal.add_numbered-requires-in-None
add_numbered-requires-in-None t c =
    let step = c.in_ok-add_piece.ensures in
    let may : MayAllBeAdded c.add_piece.new.self c.add_piece.new.trace c.in-Some.others.now =
    others_may c.args.lines.now c.add_piece.new.self c.args.trace.now c.add_piece.new.trace c.in-Some.first.now c.in-Some.others.now step.stage.0 step.stage.1 step.number step.start
    step.limit step.ahead (ap (λ (r : Recording). r.names) step.trace)
    (subst (λ (ps : List ReadPiece). MayAllBeAdded c.args.lines.now c.args.trace.now ps) c.in-Some.ensures.cases.0 c.requires.front) in
    let shorter : length c.in-Some.others.now + 1 ≡ length c.args.pieces.now = c.in-Some.ensures.cases.1 in
    search rules

pub returns-in-Some-split_first_mut-clause-told : goal.returns-in-Some-split_first_mut-clause-told
returns-in-Some-split_first_mut-clause-told t c = λ text steps numbers sites known names read front whole ready named had.
    let step = c.in_ok-add_piece.ensures in
    let empty : AreEmpty (c.in-Some-split_first_mut.chunk.now ∷ c.in-Some-split_first_mut.more.now) = subst (λ (cs : List Chunk). AreEmpty cs) c.in-Some-split_first_mut.ensures.cases.0 c.requires.empty in
    let same = same_names c.add_piece.new.trace c.swap.new.trace c.in-Some-split_first_mut.chunk.now c.swap.new.self empty.0 c.swap.ensures.trace c.swap.ensures.steps c.swap.ensures.lines c.swap.ensures.sites in
    told_on c.args.lines.now c.add_piece.new.self c.args.trace.now c.add_piece.new.trace c.in-Some.first.now c.in-Some.others.now step.stage.0 step.stage.1 step.number step.start
    step.limit step.ahead (ap (λ (r : Recording). r.names) step.trace) text steps numbers sites known
    (OnOk c.add_numbered.result (HasRead text (steps ++ (c.swap.new.self.steps.items ++ _)) (numbers ++ (c.swap.new.self.lines.items ++ _)) (sites ++ (c.swap.new.self.sites.items ++ _)) c.add_numbered.new.lines known c.add_numbered.new.trace))
    (λ names read front whole ready had. step.told text steps numbers sites known names read front whole ready had)
    (λ names read front whole ready named had.
    with_first (λ (s : List Step) (n p : List ℕ). OnOk c.add_numbered.result (HasRead text s n p c.add_numbered.new.lines known c.add_numbered.new.trace)) steps numbers sites c.swap.new.self c.add_numbered.new.chunks
    (c.add_numbered.ensures.told text _ _ _ known names read front whole ready (same ∙ named)
    (read_moved c.add_piece.new.trace c.swap.new.trace c.in-Some-split_first_mut.chunk.now c.swap.new.self empty.0 c.swap.ensures.trace c.swap.ensures.steps c.swap.ensures.lines c.swap.ensures.sites
    text steps numbers sites c.add_piece.new.self known names had)))
    names read front whole (subst (λ (ps : List ReadPiece). AreReady c.args.lines.now.place.number names read ps) c.in-Some.ensures.cases.0 ready) named had

pub returns-in-None-clause-told : goal.returns-in-None-clause-told
returns-in-None-clause-told t c = λ text steps numbers sites known names read front whole ready named had.
    let step = c.in_ok-add_piece.ensures in
    told_on c.args.lines.now c.add_piece.new.self c.args.trace.now c.add_piece.new.trace c.in-Some.first.now c.in-Some.others.now step.stage.0 step.stage.1 step.number step.start
    step.limit step.ahead (ap (λ (r : Recording). r.names) step.trace) text steps numbers sites known
    (OnOk c.add_numbered-in-None.result (HasRead text (steps ++ chunk_steps c.add_numbered-in-None.new.chunks) (numbers ++ chunk_lines c.add_numbered-in-None.new.chunks) (sites ++ chunk_sites c.add_numbered-in-None.new.chunks) c.add_numbered-in-None.new.lines known c.add_numbered-in-None.new.trace))
    (λ names read front whole ready had. step.told text steps numbers sites known names read front whole ready had)
    (λ names read front whole ready named had. c.add_numbered-in-None.ensures.told text steps numbers sites known names read front whole ready named had)
    names read front whole (subst (λ (ps : List ReadPiece). AreReady c.args.lines.now.place.number names read ps) c.in-Some.ensures.cases.0 ready) named had
