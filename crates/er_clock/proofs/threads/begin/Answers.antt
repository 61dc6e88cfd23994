use Rattle.std.proofs.Common.{◌≡◌, ℕ, max, cond, ap, ◌∙◌, refl, arith}
use Rattle.std.proofs.lemmas.Bool.{eq-eqb}
use Rattle.er_clock.specs.Clock.{count_in}
use Rattle.er_clock.specs.Table.{known_by}
use Rattle.er_clock.specs.Counts.{own_begun}
use Rattle.er_clock.proofs.Counts.{begun-same, known-taken}
use Rattle.er_clock.proofs.threads.begin.Goals as goal
use Rattle.er_clock.proofs.threads.begin.Goals.{After-join}

-- the clock that is taken in has the thread's first count alone
own : (c : After-join) (u : ℕ) → count_in c.tick.new.self u ≡ own_begun c.args.thread u
own c u = let one = c.in_ok-tick.ensures.ok u in let none = c.clear.ensures u in omega (arith, one, none)

pub returns-clause-same : goal.returns-clause-same
returns-clause-same c = begun-same c.args.table.now c.join.new.self c.args.thread c.tick.new.self (own (goal.at.returns-clause-same c).After-join)
    (known-taken c.args.table.now c.join.new.self c.args.thread c.number-2.result (count_in c.tick.new.self) c.number-2.ensures.value c.in_ok-join.ensures.ok)

pub returns-clause-begun : goal.returns-clause-begun
returns-clause-begun c =
    let itself = eq-eqb c.args.thread c.args.thread refl in
    let taken : known_by c.join.new.self c.args.thread c.args.thread ≡ max (known_by c.args.table.now c.args.thread c.args.thread) (count_in c.tick.new.self c.args.thread) =
    known-taken c.args.table.now c.join.new.self c.args.thread c.number-2.result (count_in c.tick.new.self) c.number-2.ensures.value c.in_ok-join.ensures.ok c.args.thread c.args.thread
    ∙ ap (λ b. cond b (max (known_by c.args.table.now c.args.thread c.args.thread) (count_in c.tick.new.self c.args.thread)) (known_by c.args.table.now c.args.thread c.args.thread)) itself in
    let first : count_in c.tick.new.self c.args.thread ≡ 1 = own (goal.at.returns-clause-begun c).After-join c.args.thread ∙ ap (λ b. cond b 1 0) itself in
    omega (arith, taken, first)

pub returns-in_err-join-clause-same : goal.returns-in_err-join-clause-same
returns-in_err-join-clause-same c t u = ap (λ k. max k (own_begun t u)) (c.in_err-join.ensures.err t u)
