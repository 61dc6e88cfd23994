use Rattle.std.proofs.Common.{◌≡◌, ◌==◌, ℕ, max, cond, ap, ◌∙◌, arith}
use Rattle.er_event.proofs.Results.{on_ok}
use Rattle.er_clock.specs.Clock.{count_in}
use Rattle.er_clock.specs.Counts.{known_to}
use Rattle.er_clock.proofs.Counts.{known-taken, taken-to}
use Rattle.er_clock.proofs.threads.ThreadClocks.take_both.Goals as goal

pub returns-then-is_empty-clause-ok : goal.returns-then-is_empty-clause-ok
returns-then-is_empty-clause-ok c =
    on_ok c.take.result _ _ c.take.ensures.ok (λ new t u.
    new t u ∙ ap (λ k. cond (t == c.args.thread) (max (known_to c.args.self.now t u) k) (known_to c.args.self.now t u)) (one_alone u))
  where
    one_alone : (u : ℕ) → count_in c.args.one.now u ≡ max (count_in c.args.one.now u) (count_in c.args.other.now u)
    one_alone u = let none = c.is_empty.ensures c.if-is_empty.true u in omega (arith, none)

module _ (c : goal.After-join-3) where
  -- what is carried is of each thread the greater count
  carried : (u : ℕ) → count_in c.join-2.new.self u ≡ max (count_in c.args.one.now u) (count_in c.args.other.now u)
  carried u =
      let first = c.in_ok-join-2.ensures.ok u in
      let second = c.in_ok-join.ensures.ok u in
      let third = c.clear.ensures u in
      omega (arith, first, second, third)

pub returns-clause-ok : goal.returns-clause-ok
returns-clause-ok c =
    on_ok c.join-3.result _ _ c.join-3.ensures.ok (λ new t u.
    rw (← carried c u, ← c.self.view_is)
    (taken-to c.self.inside.table c.join-3.new.self t u (count_in c.join-2.new.self u) (t == c.args.thread)
    (known-taken c.self.inside.table c.join-3.new.self c.args.thread c.number.result (count_in c.join-2.new.self) c.number.ensures.value new t u)))
