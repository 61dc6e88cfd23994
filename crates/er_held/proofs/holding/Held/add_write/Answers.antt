-- The lock goes into both sets if they are kept apart, or comes out of the first again.
use Rattle.std.proofs.Common.{◌≡◌, ◌<◌, false, length, ◌∙◌, ap, arith}
use Rattle.er_event.specs.Lockset.{has, without_lock}
use Rattle.er_model.specs.Holdings.{acquired_among}
use Rattle.er_held.specs.Inner.Holding.{IsHolding}
use Rattle.er_held.proofs.HeldLemmas.{holding-insert_both, fewer, without-with_lock}
use Rattle.er_held.proofs.holding.Held.add_write.Goals as goal

pub invariant_of-self-then-not-self : goal.invariant_of-self-then-not-self
invariant_of-self-then-not-self c =
    let room : length (acquired_among c.self.inside.any_mode) < 64 = rw (← c.self.view_is) at c.requires.room in
    let it : IsHolding c.self.inside.any_mode c.self.inside.any_mode c.self.inside.level = rw c.if-not-self.true at c.self.invariant in
    rw (c.if-not-self.true, c.in_ok-insert_at.ensures.ok) (holding-insert_both c.self.inside.any_mode c.self.inside.any_mode c.self.inside.level c.args.lock it c.requires.plain room)

pub invariant_of-self-in-Ok : goal.invariant_of-self-in-Ok
invariant_of-self-in-Ok c =
    let room : length (acquired_among c.self.inside.any_mode) < 64 = rw (← c.self.view_is) at c.requires.room in
    let it : IsHolding c.self.inside.any_mode c.self.inside.write_mode c.self.inside.level = rw c.if-not-self.false at c.self.invariant in
    rw (c.if-not-self.false, c.in_ok-insert_at.ensures.ok, c.in-Ok.ensures.ok)
    (holding-insert_both c.self.inside.any_mode c.self.inside.write_mode c.self.inside.level c.args.lock it c.requires.plain room)

pub invariant_of-self-in-Err : goal.invariant_of-self-in-Err
invariant_of-self-in-Err c =
    let free : has c.self.inside.any_mode c.args.lock ≡ false = rw (← c.self.view_is) at c.requires.free in
    let undone : c.remove.new.self ≡ c.self.inside.any_mode =
    c.remove.ensures.removed ∙ ap (without_lock c.args.lock) c.in_ok-insert_at.ensures.ok ∙ without-with_lock c.args.lock c.self.inside.any_mode free in
    rw (undone, c.in-Err.ensures.err) c.self.invariant

pub returns-in-Err-clause-err : goal.returns-in-Err-clause-err
returns-in-Err-clause-err c =
    let free : has c.self.inside.any_mode c.args.lock ≡ false = rw (← c.self.view_is) at c.requires.free in
    let undone : c.remove.new.self ≡ c.self.inside.any_mode =
    c.remove.ensures.removed ∙ ap (without_lock c.args.lock) c.in_ok-insert_at.ensures.ok ∙ without-with_lock c.args.lock c.self.inside.any_mode free in
    rw (undone, c.in-Err.ensures.err) c.self.view_is

pub returns-in-Err-clause-inline : goal.returns-in-Err-clause-inline
returns-in-Err-clause-inline c small =
    let it : IsHolding c.self.inside.any_mode c.self.inside.write_mode c.self.inside.level = rw c.if-not-self.false at c.self.invariant in
    let small : length c.self.inside.any_mode < 8 = rw (← c.self.view_is) at small in
    c.in-Err.ensures.inline (omega (arith, small, fewer c.self.inside.any_mode c.self.inside.write_mode c.self.inside.level it))
