use Rattle.std.proofs.Common.{◌≡◌, ◌+◌, ◌&&◌, ◌==◌, ℕ, cond, max, ap, refl, ◌∙◌, arith}
use Rattle.er_clock.specs.Clock.{count_in}
use Rattle.er_clock.specs.Table.{known_by}
use Rattle.er_clock.specs.Counts.{ClockMap, known_to}
use Rattle.er_clock.proofs.Counts.{ready-known, risen, ticked-to}
use Rattle.er_clock.proofs.threads.ThreadClocks.give.Goals as goal
use Rattle.er_clock.proofs.threads.ThreadClocks.give.Goals.{After-get}

pub swap-requires : goal.swap-requires
swap-requires c = (c.args.thread, rw c.number-2.ensures.value c.in_ok-prepare.ensures.begun)

-- what the thread gives is what it knows
given : (c : After-get) (u : ℕ) → count_in c.get.result.now u ≡ known_to c.args.self.now c.args.thread u
given c u =
    c.get.ensures u ∙ ap (λ number. known_by c.prepare.new.table number u) c.number.ensures.value
    ∙ ready-known c.prepare.new.table c.args.thread c.in_ok-prepare.ensures.begun u ∙ c.prepare.ensures.same c.args.thread u
    ∙ ap (λ (clocks : ClockMap). known_to clocks c.args.thread u) c.self.view_is

pub join-requires : goal.join-requires
join-requires c covered u = let same = given (goal.at.join-requires c).After-get u in let less = c.requires covered u in omega (arith, same, less)

pub returns-clause-ok : goal.returns-clause-ok
returns-clause-ok c t u =
    ticked-to c.prepare.new.table c.swap.new.self c.args.thread c.in_ok-prepare.ensures.begun
    (risen c.prepare.new.table c.prepare.new.table c.swap.new.self c.args.thread c.number-2.result c.prepare.new.next c.number-2.ensures.value (λ v. refl) c.in_ok-prepare.ensures.risen c.swap.ensures) t u
    ∙ ap (λ k. k + cond (t == c.args.thread && c.args.thread == u) 1 0) (c.prepare.ensures.same t u ∙ ap (λ (clocks : ClockMap). known_to clocks t u) c.self.view_is)

pub returns-clause-given : goal.returns-clause-given
returns-clause-given c n u =
    c.in_ok-join.ensures.ok n u
    ∙ ap (λ k. cond (c.args.number == n) (max (known_by c.args.clocks.now n u) k) (known_by c.args.clocks.now n u)) (given (goal.at.returns-clause-given c).After-get u)
