-- A right record leaves all names names of their kind.
use Rattle.std.proofs.Common.{◌≡◌, true}
use Rattle.er_binary.specs.States.{is_right}
use Rattle.er_binary.proofs.WordsLaws.{after_named}
use Rattle.er_binary.proofs.state.State.take_other.Goals.{then-has_thread, else-has_thread}
use Rattle.er_binary.proofs.state.State.take_other.Goals as goal

pub returns-clause-named : goal.returns-clause-named
returns-clause-named c = λ named.
    let s = c.args.self.now in
    let right : is_right s c.args.kind c.args.number c.split_at.result.0.now c.split_at.result.1.now ≡ true =
    elim c.if-has_thread.branch [ then-has_thread w ↦ cc (w.is_right.ensures, w.value-is, c.if-not-is_right.false) | else-has_thread w ↦ cc (w.value-is, c.if-not-is_right.false) ] in
    rw c.in_ok-add.ensures.ok (after_named s c.args.kind c.args.number c.split_at.result.0.now c.split_at.result.1.now right named)
