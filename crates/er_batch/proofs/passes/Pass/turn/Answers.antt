-- The batch that was read takes the place of the one that is answered, and the last one is answered too.
use Rattle.std.proofs.Common.{rules, ◌≡◌, ◌≤◌, ◌++◌, ℕ, List, [], Option, Some, IfSome, Ok, length, ap, sym, subst, ◌∙◌}
use Rattle.er_batch.proofs.PassLemmas.{chunks-long, chunks-sited, moved, on-kept, on-moved, part, whole}
use Rattle.er_batch.proofs.TouchLemmas.{answered-on, between-on, handed-on, tells-any}
use Rattle.er_batch.specs.Inner.Passes.{HasEnded, StandsFor, Tells, TellsBetween, batch_of}
use Rattle.er_batch.specs.Runs.{recorded}
use Rattle.er_device.specs.Device.{inner_of}
use Rattle.er_event.specs.declared.steps.Step.{Step}
use Rattle.er_lines.specs.Touches.{HasHanded, StaysKnown}
use Rattle.er_parallel.proofs.CrewLemmas.{whole-back}
use Rattle.er_reading.proofs.NamedLemmas.{still_formed}
use Rattle.er_reading.specs.Chunks.{AreFormed, chunk_lines, chunk_sites, chunk_steps}
use Rattle.er_reading.specs.declared.chunks.Chunk.{Chunk}
use Rattle.er_text.specs.Batches.{GivesBatch, HasRead}
use Rattle.er_text.specs.Named.{KeepsNames}
use Rattle.er_trace.specs.Names.{NameTable}
use Rattle.er_trace.specs.Trace.{Recording, without_steps}
use Rattle.er_batch.proofs.passes.Pass.turn.Goals as goal

pub answer_last-requires-clause-formed : goal.answer_last-requires-clause-formed
answer_last-requires-clause-formed g c κs within =
    let kept : KeepsNames c.args.self.now.trace.names c.prepare.new.beside.4.now.names = search rules in
    still_formed _ _ kept _ c.keep_last.ensures.formed

pub returns-in-More-clause-come : goal.returns-in-More-clause-come
returns-in-More-clause-come g c = λ asked told tells come more.
    let t : Recording = c.args.self.now.trace in
    let u : Recording = c.prepare.new.beside.4.now in
    let before : List Chunk = c.args.self.now.last.items in
    let read : List Chunk = c.prepare.new.beside.5.now in
    let known : Option (List ℕ) = g.D.Read.remaining (inner_of c.args.reader.now) in
    let rest : Option (List ℕ) = g.D.Read.remaining (inner_of c.reader-1.given.0) in
    let same : g.D.Read.remaining c.hand_out.new.reader ≡ rest = c.hand_out.ensures.text ∙ ap g.D.Read.remaining c.inner_mut.ensures.value in
    let kept : KeepsNames t.names u.names = search rules in
    let gives : (text : List ℕ) (past : List Step) (lines sites : List ℕ) → HasRead text past lines sites c.args.self.now.lines known t
    → GivesBatch text (past ++ chunk_steps read) (lines ++ chunk_lines read) (sites ++ chunk_sites read) c.prepare.new.beside.0.now rest u (Ok c.in_ok-batch.batch) = search rules in
    let some : 1 ≤ length c.as_mut_slice-chunks.result.now = search rules in
    let empty : u ≡ without_steps u = search rules in
    let count : length read ≡ length c.as_mut_slice-chunks.result.now = search rules in
    let whole-read = whole-back c.keep_last.new.self.fresh.len read c.keep_last.new.self.fresh.items (count ∙ ap length c.as_mut_slice-chunks.ensures.value) c.keep_last.new.self.fresh.ok.0 in
    let next-is = c.in_ok-answer_last.ensures.next in
    let back : c.answer_last.new.self.last.items ≡ read = search rules in
    let stays : StaysKnown (g.S.Shortcut.touches (inner_of c.args.reader.now)) (g.S.Shortcut.touches (inner_of c.reader-1.given.0)) = search rules in
    let handed : IfSome (g.S.Shortcut.touches (inner_of c.reader-1.given.0)) (λ o. HasHanded o (g.S.Shortcut.touches c.hand_out.new.reader) c.args.self.now.touches.items c.hand_out.new.others.items c.in_ok-next.next) =
    rw (c.inner_mut.ensures.value, c.keep_last.ensures.touches.0) at c.in_ok-next.ensures.handed in
    let known-now : IfSome asked.touches (λ all. Tells all c.hand_out.new.others.items (g.S.Shortcut.touches c.hand_out.new.reader) c.keep_last.new.self.from c.in_ok-next.next) =
    subst (λ (n : ℕ). IfSome asked.touches (λ all. Tells all c.hand_out.new.others.items (g.S.Shortcut.touches c.hand_out.new.reader) n c.in_ok-next.next)) (sym c.keep_last.ensures.touches.1)
    (handed-on asked.touches _ _ _ _ _ _ _ stays handed tells) in
    let told-between : IfSome asked.touches (λ all. TellsBetween all c.hand_out.new.others.items c.keep_last.new.self.from c.in_ok-next.next) = between-on asked.touches _ _ _ _ known-now in
    rw (c.answer_last.ensures.part.0, c.answer_last.ensures.part.1, c.keep_last.ensures.part)
    (moved (StandsFor c.args.self.now.part (λ r. g.A.Analyst.stands c.answer_last.new.self.analyst asked r []) c.keep_last.new.self.of_pages) told rest _ c.prepare.new.beside.0.now _ u _ read _ same c.answer_last.ensures.lines
    c.in_ok-answer_last.ensures.trace back
    (part (StandsFor c.args.self.now.part (λ r. g.A.Analyst.stands c.args.self.now.analyst asked r []) c.args.self.now.of_pages)
    (StandsFor c.args.self.now.part (λ r. g.A.Analyst.stands c.answer_last.new.self.analyst asked r []) c.keep_last.new.self.of_pages) told c.args.self.now.lines c.prepare.new.beside.0.now known rest t u
    before read c.in_ok-batch.batch come gives empty
    (on-kept (λ r. g.A.Analyst.stands c.args.self.now.analyst asked r []) (λ r. g.A.Analyst.stands c.answer_last.new.self.analyst asked r []) t.names t.names u.names
    (chunk_steps before) (chunk_lines before) (chunk_sites before) c.args.self.now.of_pages c.keep_last.new.self.of_pages
    (chunks-long t.names before c.requires.formed) (chunks-sited t.names before c.requires.formed) c.args.self.now.part
    (batch_of c.keep_last.new.self.last.items t.names) c.keep_last.ensures.kept
    (λ past lines sites stands. c.in_ok-answer_last.ensures.answered asked past lines sites t.names kept
    (rw c.as_slice.ensures.value at (c.prepare.ensures.ready asked (recorded past lines sites t.names) (rw c.keep_last.ensures.analyst stands))) told-between)
    c.keep_last.ensures.counted)
    c.in-More.is))

pub returns-in_ok-answer_rest-in-End-clause-ended : goal.returns-in_ok-answer_rest-in-End-clause-ended
returns-in_ok-answer_rest-in-End-clause-ended g c = λ asked told tells come ended.
    let gives : (text : List ℕ) (past : List Step) (lines sites : List ℕ) → HasRead text past lines sites c.args.self.now.lines (g.D.Read.remaining (inner_of c.args.reader.now)) c.args.self.now.trace
    → GivesBatch text (past ++ chunk_steps c.prepare.new.beside.5.now) (lines ++ chunk_lines c.prepare.new.beside.5.now) (sites ++ chunk_sites c.prepare.new.beside.5.now) c.prepare.new.beside.0.now (g.D.Read.remaining (inner_of c.reader-1.given.0)) c.prepare.new.beside.4.now (Ok c.in_ok-batch.batch) = search rules in
    let t : Recording = c.args.self.now.trace in
    let u : Recording = c.prepare.new.beside.4.now in
    let v : Recording = c.answer_last.new.self.trace in
    let before : List Chunk = c.args.self.now.last.items in
    let read : List Chunk = c.prepare.new.beside.5.now in
    let fresh : List Chunk = c.answer_last.new.self.last.items in
    let known : Option (List ℕ) = g.D.Read.remaining (inner_of c.args.reader.now) in
    let rest : Option (List ℕ) = g.D.Read.remaining (inner_of c.reader-1.given.0) in
    let kept : KeepsNames t.names u.names = search rules in
    let limit : c.prepare.new.beside.0.now.place.limit ≡ c.args.self.now.lines.place.limit = search rules in
    let some : 1 ≤ length c.as_mut_slice-chunks.result.now = search rules in
    let empty : u ≡ without_steps u = search rules in
    let formed : AreFormed u.names read = search rules in
    let count : length read ≡ length c.as_mut_slice-chunks.result.now = search rules in
    let whole-read = whole-back c.keep_last.new.self.fresh.len read c.keep_last.new.self.fresh.items (count ∙ ap length c.as_mut_slice-chunks.ensures.value) c.keep_last.new.self.fresh.ok.0 in
    let next-is = c.in_ok-answer_last.ensures.next in
    let back : c.answer_last.new.self.last.items ≡ read = search rules in
    let same : v ≡ u = c.in_ok-answer_last.ensures.trace in
    let fresh-formed : AreFormed v.names fresh = subst (λ (cs : List Chunk). AreFormed v.names cs) (sym back) (subst (λ (r : Recording). AreFormed r.names read) (sym same) formed) in
    let between : Recording → Type 0 = StandsFor c.answer_last.new.self.part (λ r. g.A.Analyst.stands c.answer_last.new.self.analyst asked r []) c.answer_last.new.self.of_pages in
    let last : Recording → Type 0 = StandsFor c.answer_last.new.self.part (λ r. g.A.Analyst.stands c.answer_rest.new.self.analyst asked r []) c.answer_rest.new.self.of_pages in
    let stays : StaysKnown (g.S.Shortcut.touches (inner_of c.args.reader.now)) (g.S.Shortcut.touches (inner_of c.reader-1.given.0)) = search rules in
    let handed : IfSome (g.S.Shortcut.touches (inner_of c.reader-1.given.0)) (λ o. HasHanded o (g.S.Shortcut.touches c.hand_out.new.reader) c.args.self.now.touches.items c.hand_out.new.others.items c.in_ok-next.next) =
    rw (c.inner_mut.ensures.value, c.keep_last.ensures.touches.0) at c.in_ok-next.ensures.handed in
    let known-now : IfSome asked.touches (λ all. Tells all c.hand_out.new.others.items (g.S.Shortcut.touches c.hand_out.new.reader) c.keep_last.new.self.from c.in_ok-next.next) =
    subst (λ (n : ℕ). IfSome asked.touches (λ all. Tells all c.hand_out.new.others.items (g.S.Shortcut.touches c.hand_out.new.reader) n c.in_ok-next.next)) (sym c.keep_last.ensures.touches.1)
    (handed-on asked.touches _ _ _ _ _ _ _ stays handed tells) in
    let told-between : IfSome asked.touches (λ all. TellsBetween all c.hand_out.new.others.items c.keep_last.new.self.from c.in_ok-next.next) = between-on asked.touches _ _ _ _ known-now in
    let known-then : IfSome asked.touches (λ all. Tells all c.answer_last.new.self.touches.items (g.S.Shortcut.touches c.hand_out.new.reader) c.answer_last.new.self.from c.in_ok-next.next) =
    answered-on asked.touches _ _ _ _ _ _ c.in_ok-answer_last.ensures.from c.in_ok-answer_last.ensures.touches known-now in
    let between-then : IfSome asked.touches (λ all. TellsBetween all c.answer_last.new.self.touches.items c.answer_last.new.self.from c.in_ok-next.next) = between-on asked.touches _ _ _ _ known-then in
    let names : c.answer_rest.new.self.trace.names ≡ u.names = ap (λ (r : Recording). r.names) (c.in_ok-answer_rest-in-End.ensures.trace ∙ same) in
    rw c.answer_rest.ensures.part
    (subst (λ (used : NameTable). HasEnded last told c.args.self.now.lines.place.limit used) (sym names)
    (whole (StandsFor c.args.self.now.part (λ r. g.A.Analyst.stands c.args.self.now.analyst asked r []) c.args.self.now.of_pages) between told c.args.self.now.lines c.prepare.new.beside.0.now known rest t u
    before read c.in_ok-batch.batch come gives empty
    (λ past lines sites stands. rw (c.answer_last.ensures.part.0, c.answer_last.ensures.part.1, c.keep_last.ensures.part)
    (on-kept (λ r. g.A.Analyst.stands c.args.self.now.analyst asked r []) (λ r. g.A.Analyst.stands c.answer_last.new.self.analyst asked r []) t.names t.names u.names
    (chunk_steps before) (chunk_lines before) (chunk_sites before) c.args.self.now.of_pages c.keep_last.new.self.of_pages
    (chunks-long t.names before c.requires.formed) (chunks-sited t.names before c.requires.formed) c.args.self.now.part
    (batch_of c.keep_last.new.self.last.items t.names) c.keep_last.ensures.kept
    (λ past lines sites stands. c.in_ok-answer_last.ensures.answered asked past lines sites t.names kept
    (rw c.as_slice.ensures.value at (c.prepare.ensures.ready asked (recorded past lines sites t.names) (rw c.keep_last.ensures.analyst stands))) told-between)
    c.keep_last.ensures.counted past lines sites stands))
    last
    (on-moved between last u v read fresh same back
    (λ past lines sites stands. rw c.answer_rest.ensures.part at (c.in_ok-answer_rest-in-End.ensures.answered asked past lines sites stands between-then)))
    c.in-End.is limit))

pub returns-in-More-clause-touches : goal.returns-in-More-clause-touches
returns-in-More-clause-touches g c = λ all tells.
    let stays : StaysKnown (g.S.Shortcut.touches (inner_of c.args.reader.now)) (g.S.Shortcut.touches (inner_of c.reader-1.given.0)) = search rules in
    let handed : IfSome (g.S.Shortcut.touches (inner_of c.reader-1.given.0)) (λ o. HasHanded o (g.S.Shortcut.touches c.hand_out.new.reader) c.args.self.now.touches.items c.hand_out.new.others.items c.in_ok-next.next) =
    rw (c.inner_mut.ensures.value, c.keep_last.ensures.touches.0) at c.in_ok-next.ensures.handed in
    let known-now : IfSome (Some all) (λ all. Tells all c.hand_out.new.others.items (g.S.Shortcut.touches c.hand_out.new.reader) c.keep_last.new.self.from c.in_ok-next.next) =
    subst (λ (n : ℕ). IfSome (Some all) (λ all. Tells all c.hand_out.new.others.items (g.S.Shortcut.touches c.hand_out.new.reader) n c.in_ok-next.next)) (sym c.keep_last.ensures.touches.1)
    (handed-on (Some all) _ _ _ _ _ _ _ stays handed tells) in
    let known-then : IfSome (Some all) (λ all. Tells all c.answer_last.new.self.touches.items (g.S.Shortcut.touches c.hand_out.new.reader) c.answer_last.new.self.from c.in_ok-next.next) =
    answered-on (Some all) _ _ _ _ _ _ c.in_ok-answer_last.ensures.from c.in_ok-answer_last.ensures.touches known-now in
    tells-any all _ _ _ _ known-then

pub returns-in_ok-answer_rest-in-End-clause-touches : goal.returns-in_ok-answer_rest-in-End-clause-touches
returns-in_ok-answer_rest-in-End-clause-touches g c = λ all tells.
    let stays : StaysKnown (g.S.Shortcut.touches (inner_of c.args.reader.now)) (g.S.Shortcut.touches (inner_of c.reader-1.given.0)) = search rules in
    let handed : IfSome (g.S.Shortcut.touches (inner_of c.reader-1.given.0)) (λ o. HasHanded o (g.S.Shortcut.touches c.hand_out.new.reader) c.args.self.now.touches.items c.hand_out.new.others.items c.in_ok-next.next) =
    rw (c.inner_mut.ensures.value, c.keep_last.ensures.touches.0) at c.in_ok-next.ensures.handed in
    let known-now : IfSome (Some all) (λ all. Tells all c.hand_out.new.others.items (g.S.Shortcut.touches c.hand_out.new.reader) c.keep_last.new.self.from c.in_ok-next.next) =
    subst (λ (n : ℕ). IfSome (Some all) (λ all. Tells all c.hand_out.new.others.items (g.S.Shortcut.touches c.hand_out.new.reader) n c.in_ok-next.next)) (sym c.keep_last.ensures.touches.1)
    (handed-on (Some all) _ _ _ _ _ _ _ stays handed tells) in
    let known-then : IfSome (Some all) (λ all. Tells all c.answer_last.new.self.touches.items (g.S.Shortcut.touches c.hand_out.new.reader) c.answer_last.new.self.from c.in_ok-next.next) =
    answered-on (Some all) _ _ _ _ _ _ c.in_ok-answer_last.ensures.from c.in_ok-answer_last.ensures.touches known-now in
    tells-any all _ _ _ _ (answered-on (Some all) _ _ _ _ _ _ c.in_ok-answer_rest-in-End.ensures.from c.in_ok-answer_rest-in-End.ensures.touches known-then)
