-- The level locks between the two levels go behind both sets.
use Rattle.std.proofs.Common.{◌≡◌, ◌≤◌, refl, ◌∙◌}
use Rattle.er_model.specs.Holdings.{at_level}
use Rattle.er_held.specs.Inner.Holding.{IsHolding}
use Rattle.er_held.proofs.HeldLemmas.{locks-between, level-increasing, level-joined, holding-level}
use Rattle.er_held.proofs.holding.Held.raise_level.Goals as goal
use Rattle.er_held.proofs.holding.Held.raise_level.Goals.{else-self, then-self+in_default}

pub extend-requires : goal.extend-requires
extend-requires c =
    let above : c.self.inside.level ≤ c.args.level = rw (← c.self.view_is) at c.requires in
    let more = locks-between _ _ _ _ _ c.level_locks-locks.ensures (c.from.ensures ∙ c.number.ensures.value) (c.from-2.ensures ∙ c.number-2.ensures.value) above c.number-2.ensures.limit in
    level-increasing c.self.inside.level c.args.level c.self.inside.any_mode _ c.self.invariant.any above more

pub extend-requires-then-self : goal.extend-requires-then-self
extend-requires-then-self c =
    let it : IsHolding c.self.inside.any_mode c.self.inside.write_mode c.self.inside.level = rw c.if-self.true at c.self.invariant in
    let above : c.self.inside.level ≤ c.args.level = rw (← c.self.view_is) at c.requires in
    let more = locks-between _ _ _ _ _ c.level_locks-locks.ensures (c.from.ensures ∙ c.number.ensures.value) (c.from-2.ensures ∙ c.number-2.ensures.value) above c.number-2.ensures.limit in
    level-increasing c.self.inside.level c.args.level c.self.inside.write_mode _ it.write above more

pub invariant_of-self-2 : goal.invariant_of-self-2
invariant_of-self-2 c =
    let above : c.self.inside.level ≤ c.args.level = rw (← c.self.view_is) at c.requires in
    let more = locks-between _ _ _ _ _ c.level_locks-locks.ensures (c.from.ensures ∙ c.number.ensures.value) (c.from-2.ensures ∙ c.number-2.ensures.value) above c.number-2.ensures.limit in
    let any : c.extend.new.self ≡ at_level c.args.level c.self.inside.any_mode =
    c.in_ok-extend.ensures.ok ∙ level-joined c.self.inside.level c.args.level c.self.inside.any_mode _ c.self.invariant.any above more in
    elim c.if-self.branch [
      | else-self w ↦
          let it : IsHolding c.self.inside.any_mode c.self.inside.any_mode c.self.inside.level = rw w.if-self.false at c.self.invariant in
          rw (w.self-inside-is, w.if-self.false, any) (holding-level c.self.inside.any_mode c.self.inside.any_mode c.self.inside.level c.args.level it c.number-2.ensures.limit)
      | then-self+in_default w ↦
          let it : IsHolding c.self.inside.any_mode c.self.inside.write_mode c.self.inside.level = rw w.if-self.true at c.self.invariant in
          let write : w.extend-then-self.new.self ≡ at_level c.args.level c.self.inside.write_mode =
          w.in_default.ensures.ok ∙ level-joined c.self.inside.level c.args.level c.self.inside.write_mode _ it.write above more in
          rw (w.self-inside-is, w.if-self.true, any, write) (holding-level c.self.inside.any_mode c.self.inside.write_mode c.self.inside.level c.args.level it c.number-2.ensures.limit)
    ]

pub returns-clause-ok : goal.returns-clause-ok
returns-clause-ok c =
    let above : c.self.inside.level ≤ c.args.level = rw (← c.self.view_is) at c.requires in
    let more = locks-between _ _ _ _ _ c.level_locks-locks.ensures (c.from.ensures ∙ c.number.ensures.value) (c.from-2.ensures ∙ c.number-2.ensures.value) above c.number-2.ensures.limit in
    let any : c.extend.new.self ≡ at_level c.args.level c.self.inside.any_mode =
    c.in_ok-extend.ensures.ok ∙ level-joined c.self.inside.level c.args.level c.self.inside.any_mode _ c.self.invariant.any above more in
    elim c.if-self.branch [
      | else-self w ↦ rw (w.self-inside-is, ← c.self.view_is, w.if-self.false, any) refl
      | then-self+in_default w ↦
          let it : IsHolding c.self.inside.any_mode c.self.inside.write_mode c.self.inside.level = rw w.if-self.true at c.self.invariant in
          let write : w.extend-then-self.new.self ≡ at_level c.args.level c.self.inside.write_mode =
          w.in_default.ensures.ok ∙ level-joined c.self.inside.level c.args.level c.self.inside.write_mode _ it.write above more in
          rw (w.self-inside-is, ← c.self.view_is, w.if-self.true, any, write) refl
    ]
