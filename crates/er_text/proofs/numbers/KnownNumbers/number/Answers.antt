-- A number that was found stays right, and so does one that is noted.
use Rattle.std.proofs.Common.{rules}
use Rattle.er_text.proofs.KnownLemmas.{known_same, new_number, right_grown}
use Rattle.er_text.proofs.numbers.KnownNumbers.number.Goals as goal

pub returns-in-Some-clause-small : goal.returns-in-Some-clause-small
returns-in-Some-clause-small g c = let is = rw c.in-Some.is at c.find.ensures _ _ c.requires.right in is.small

pub returns-in-Some-clause-trace : goal.returns-in-Some-clause-trace
returns-in-Some-clause-trace g c = let is = rw c.in-Some.is at c.find.ensures _ _ c.requires.right in known_same c.args.kind c.args.trace.now _ is.known

pub returns-clause-right : goal.returns-clause-right
returns-clause-right g c =
    let of = g.S.Shortcut.names_of c.args.reader.now in
    let grown = right_grown of c.args.kind c.args.trace.now c.number_in.new.trace (of c.args.kind c.args.name) c.args.self.now (search rules) c.requires.right in
    c.note.ensures of c.number_in.new.trace.names grown (new_number of c.args.kind c.args.trace.now c.number_in.new.trace c.args.name c.in_ok-number.number c.requires.some (search rules) (search rules) (search rules))
