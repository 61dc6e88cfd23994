-- What was added stands behind what was asked for.
use Rattle.std.proofs.Common.{subst}
use Rattle.er_device.specs.Device.{inner_of, has_failed}
use Rattle.eraser.specs.Notes.{AddsNotesOn}
use Rattle.eraser.proofs.NoteLemmas.{noted}
use Rattle.eraser.proofs.command.note.Goals as goal

pub returns-clause-notes : goal.returns-clause-notes
returns-clause-notes g c = (
  c.args.ended.notes.items,
  c.requires.notes,
  (c.args.ended.ending, c.args.ended.unordered, noted c.args.hints c.args.ended.notes.items c.notes_of-notes.result.items c.args.ended.ending c.args.ended.unordered _ _ _ c.notes_of-notes.ensures (rw c.deref.ensures.value at c.put.ensures)),
)

pub returns-clause-silent : goal.returns-clause-silent
returns-clause-silent g c none =
    let noted = noted c.args.hints c.args.ended.notes.items c.notes_of-notes.result.items c.args.ended.ending c.args.ended.unordered _ _ _ c.notes_of-notes.ensures (rw c.deref.ensures.value at c.put.ensures) in
    subst (λ asked. AddsNotesOn c.args.hints c.args.ended.ending c.args.ended.unordered asked (g.E.Write.contents (inner_of c.args.errors.now)) (g.E.Write.contents (inner_of c.put.new.errors)) (has_failed c.put.new.errors)) none noted
