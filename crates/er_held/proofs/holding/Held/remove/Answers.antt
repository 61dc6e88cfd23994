-- The lock comes out of both sets. If they are then as long as each other, they are the same.
use Rattle.std.proofs.Common.{◌≡◌, ◌∙◌, ap, refl}
use Rattle.er_event.specs.Lockset.{without_lock}
use Rattle.er_held.specs.Inner.Holding.{IsHolding}
use Rattle.er_held.proofs.HeldLemmas.{holding-remove, apart}
use Rattle.er_held.proofs.holding.Held.remove.Goals as goal

pub invariant_of-self : goal.invariant_of-self
invariant_of-self c =
    let removed_at : c.remove_at.new.self ≡ without_lock c.args.lock c.self.inside.any_mode =
    c.remove_at.ensures ∙ ap (λ l. without_lock l c.self.inside.any_mode) (rw (← c.self.view_is) at c.requires.place.1) in
    let it : IsHolding c.self.inside.any_mode c.self.inside.write_mode c.self.inside.level = rw c.if-self.true at c.self.invariant in
    let less = holding-remove c.self.inside.any_mode c.self.inside.write_mode c.self.inside.level c.args.lock it c.requires.plain in
    let parted = apart (without_lock c.args.lock c.self.inside.any_mode) (without_lock c.args.lock c.self.inside.write_mode) c.self.inside.level less in
    rw (c.len.ensures, c.len-then-self.ensures, removed_at, c.remove-self-inside.ensures.removed, parted) less

pub invariant_of-self-else-self : goal.invariant_of-self-else-self
invariant_of-self-else-self c =
    let removed_at : c.remove_at.new.self ≡ without_lock c.args.lock c.self.inside.any_mode =
    c.remove_at.ensures ∙ ap (λ l. without_lock l c.self.inside.any_mode) (rw (← c.self.view_is) at c.requires.place.1) in
    let it : IsHolding c.self.inside.any_mode c.self.inside.any_mode c.self.inside.level = rw c.if-self.false at c.self.invariant in
    rw (c.if-self.false, removed_at) (holding-remove c.self.inside.any_mode c.self.inside.any_mode c.self.inside.level c.args.lock it c.requires.plain)

pub returns-then-self : goal.returns-then-self
returns-then-self c =
    let removed_at : c.remove_at.new.self ≡ without_lock c.args.lock c.self.inside.any_mode =
    c.remove_at.ensures ∙ ap (λ l. without_lock l c.self.inside.any_mode) (rw (← c.self.view_is) at c.requires.place.1) in
    let it : IsHolding c.self.inside.any_mode c.self.inside.write_mode c.self.inside.level = rw c.if-self.true at c.self.invariant in
    let less = holding-remove c.self.inside.any_mode c.self.inside.write_mode c.self.inside.level c.args.lock it c.requires.plain in
    let parted = apart (without_lock c.args.lock c.self.inside.any_mode) (without_lock c.args.lock c.self.inside.write_mode) c.self.inside.level less in
    rw (← c.self.view_is, c.if-self.true, c.len.ensures, c.len-then-self.ensures, removed_at, c.remove-self-inside.ensures.removed, parted) refl
