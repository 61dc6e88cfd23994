use Rattle.std.proofs.Common.{get_or, refl, sym, ◌∙◌, subst, arith}
use Rattle.std.specs.List.Sorted.{IsStrictlyIncreasing}
use Rattle.er_event.proofs.LocksetLemmas.{increasing-remove, without_standing}
use Rattle.er_event.proofs.locks.Lockset.remove_at.Goals as goal

pub invariant_of-self : goal.invariant_of-self
invariant_of-self c =
    let within = rw (← c.self.view_is) at c.requires in
    (subst IsStrictlyIncreasing (sym c.remove.ensures.items) (increasing-remove c.self.inside.rising.items c.args.place within c.self.invariant.0), omega (arith, c.remove.ensures.capacity, c.self.invariant.1))

pub returns : goal.returns
returns c =
    let xs = c.self.inside.rising.items in
    let within = rw (← c.self.view_is) at c.requires in
    rw (← c.self.view_is) (c.remove.ensures.items ∙ without_standing xs (get_or xs c.args.place 0) c.args.place c.self.invariant.0 (record { within = within; here = refl }))
