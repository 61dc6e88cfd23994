-- The locks of write mode stay as they are, and are kept apart from now on.
use Rattle.std.proofs.Common.{◌<◌, length}
use Rattle.er_model.specs.Holdings.{acquired_among}
use Rattle.er_held.specs.Inner.Holding.{IsHolding}
use Rattle.er_held.proofs.HeldLemmas.{holding-insert}
use Rattle.er_held.proofs.holding.Held.add_read.Goals as goal
use Rattle.er_held.proofs.holding.Held.add_read.Goals.{then-not-self+in_ok-self-inside, else-not-self}

pub invariant_of-self-2 : goal.invariant_of-self-2
invariant_of-self-2 c =
    let room : length (acquired_among c.self.inside.any_mode) < 64 = rw (← c.self.view_is) at c.requires.room in
    elim c.if-not-self.branch [
      | then-not-self+in_ok-self-inside w ↦
          let it : IsHolding c.self.inside.any_mode c.self.inside.any_mode c.self.inside.level = rw w.if-not-self.true at c.self.invariant in
          let added = rw w.self-inside-is at c.in_ok-insert_at.ensures.ok in
          rw (w.self-inside-is, added, w.in_ok-self-inside.ensures.ok) (holding-insert c.self.inside.any_mode c.self.inside.any_mode c.self.inside.level c.args.lock it c.requires.plain room)
      | else-not-self w ↦
          let it : IsHolding c.self.inside.any_mode c.self.inside.write_mode c.self.inside.level = rw w.if-not-self.false at c.self.invariant in
          let added = rw w.self-inside-is at c.in_ok-insert_at.ensures.ok in
          rw (w.self-inside-is, added, w.if-not-self.false) (holding-insert c.self.inside.any_mode c.self.inside.write_mode c.self.inside.level c.args.lock it c.requires.plain room)
    ]
