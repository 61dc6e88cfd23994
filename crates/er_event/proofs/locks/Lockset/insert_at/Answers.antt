use Rattle.std.proofs.Common.{◌≡◌, length, sym, ◌∙◌, subst, arith}
use Rattle.std.specs.List.Sorted.{IsStrictlyIncreasing}
use Rattle.er_event.specs.Lockset.{with_lock}
use Rattle.er_event.proofs.LocksetLemmas.{increasing-with_lock, insert_last}
use Rattle.er_event.proofs.locks.Lockset.insert_at.Goals as goal
use Rattle.er_event.proofs.locks.Lockset.insert_at.Goals.{In_ok-push, In_ok-insert}

pushed : (c : In_ok-push) → c.push.new.self.items ≡ with_lock c.args.lock c.self.inside.rising.items
pushed c =
    let last : c.args.place ≡ length c.self.inside.rising.items = c.if-place-len.true ∙ c.len.ensures.value in
    c.in_ok-push.ensures.ok ∙ insert_last _ _ _ last ∙ rw (c.self.view_is) c.requires.1

put : (c : In_ok-insert) → c.insert.new.self.items ≡ with_lock c.args.lock c.self.inside.rising.items
put c = c.in_ok-insert.ensures.ok ∙ rw (c.self.view_is) c.requires.1

pub invariant_of-self : goal.invariant_of-self
invariant_of-self c =
    (subst IsStrictlyIncreasing (sym (pushed c)) (increasing-with_lock _ _ c.self.invariant.0), omega (arith, c.in_ok-push.ensures.capacity, c.self.invariant.1))

pub invariant_of-self-in-Continue-branch-2 : goal.invariant_of-self-in-Continue-branch-2
invariant_of-self-in-Continue-branch-2 c =
    (subst IsStrictlyIncreasing (sym (put c)) (increasing-with_lock _ _ c.self.invariant.0), omega (arith, c.in_ok-insert.ensures.capacity, c.self.invariant.1))
