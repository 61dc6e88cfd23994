use Rattle.std.proofs.Common.{◌≡◌, ◌≤◌, ◌-◌, ◌∙◌, refl, arith}
use Rattle.er_model.specs.Holdings.{at_level}
use Rattle.er_held.specs.Inner.Holding.{IsHolding}
use Rattle.er_held.proofs.HeldLemmas.{holding-room, write_room, holding-level, level-cut}
use Rattle.er_held.proofs.holding.Held.lower_level.Goals as goal
use Rattle.er_held.proofs.holding.Held.lower_level.Goals.{then-self, else-self}

pub overflow_sub-len : goal.overflow_sub-len
overflow_sub-len c =
    let room = holding-room c.self.inside.any_mode _ c.self.inside.level c.self.invariant in
    omega (arith, room, c.len.ensures, c.number.ensures.value, c.number-2.ensures.value, c.from-fewer.ensures)

pub overflow_sub-len-then-self : goal.overflow_sub-len-then-self
overflow_sub-len-then-self c =
    let it : IsHolding c.self.inside.any_mode c.self.inside.write_mode c.self.inside.level = rw c.if-self.true at c.self.invariant in
    let room = write_room c.self.inside.any_mode c.self.inside.write_mode c.self.inside.level it in
    omega (arith, room, c.len-then-self.ensures, c.number.ensures.value, c.number-2.ensures.value, c.from-fewer.ensures)

pub invariant_of-self : goal.invariant_of-self
invariant_of-self c =
    let below : c.args.level ≤ c.self.inside.level = rw (← c.self.view_is) at c.requires in
    let fewer : c.from-fewer.result ≡ c.self.inside.level - c.args.level = c.from-fewer.ensures ∙ rw (c.number.ensures.value, c.number-2.ensures.value) refl in
    let any : c.truncate.new.self ≡ at_level c.args.level c.self.inside.any_mode =
    level-cut c.self.inside.level c.args.level c.self.inside.any_mode _ c.len.result c.from-fewer.result c.self.invariant.any below c.len.ensures fewer c.truncate.ensures in
    let limit = c.self.invariant.limit in
    elim c.if-self.branch [
      | then-self w ↦
          let it : IsHolding c.self.inside.any_mode c.self.inside.write_mode c.self.inside.level = rw w.if-self.true at c.self.invariant in
          let write : w.truncate-then-self.new.self ≡ at_level c.args.level c.self.inside.write_mode =
          level-cut c.self.inside.level c.args.level c.self.inside.write_mode _ w.len-then-self.result c.from-fewer.result it.write below w.len-then-self.ensures fewer w.truncate-then-self.ensures in
          rw (w.self-inside-is, w.if-self.true, any, write) (holding-level c.self.inside.any_mode c.self.inside.write_mode c.self.inside.level c.args.level it (omega arith))
      | else-self w ↦
          let it : IsHolding c.self.inside.any_mode c.self.inside.any_mode c.self.inside.level = rw w.if-self.false at c.self.invariant in
          rw (w.self-inside-is, w.if-self.false, any) (holding-level c.self.inside.any_mode c.self.inside.any_mode c.self.inside.level c.args.level it (omega arith))
    ]

pub returns : goal.returns
returns c =
    let below : c.args.level ≤ c.self.inside.level = rw (← c.self.view_is) at c.requires in
    let fewer : c.from-fewer.result ≡ c.self.inside.level - c.args.level = c.from-fewer.ensures ∙ rw (c.number.ensures.value, c.number-2.ensures.value) refl in
    let any : c.truncate.new.self ≡ at_level c.args.level c.self.inside.any_mode =
    level-cut c.self.inside.level c.args.level c.self.inside.any_mode _ c.len.result c.from-fewer.result c.self.invariant.any below c.len.ensures fewer c.truncate.ensures in
    elim c.if-self.branch [
      | then-self w ↦
          let it : IsHolding c.self.inside.any_mode c.self.inside.write_mode c.self.inside.level = rw w.if-self.true at c.self.invariant in
          let write : w.truncate-then-self.new.self ≡ at_level c.args.level c.self.inside.write_mode =
          level-cut c.self.inside.level c.args.level c.self.inside.write_mode _ w.len-then-self.result c.from-fewer.result it.write below w.len-then-self.ensures fewer w.truncate-then-self.ensures in
          rw (w.self-inside-is, ← c.self.view_is, w.if-self.true, any, write) refl
      | else-self w ↦ rw (w.self-inside-is, ← c.self.view_is, w.if-self.false, any) refl
    ]
