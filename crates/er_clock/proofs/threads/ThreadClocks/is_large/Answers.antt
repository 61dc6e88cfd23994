use Rattle.std.proofs.Common.{◌≡◌, ◌∙◌, ◌≤◌, ◌<◌, ℕ, Option, Some, None, IfSome, is_some, true, ap, sym, arith}
use Rattle.er_clock.specs.Clock.{count_in}
use Rattle.er_clock.specs.Table.{known_by}
use Rattle.er_clock.proofs.threads.ThreadClocks.is_large.Goals as goal

-- what was found
found : (o : Option ℕ) (f : ℕ → ℕ) → IfSome o (λ u. (128 ≤ u) × (0 < f u)) → is_some o ≡ true → (u : ℕ) × (128 ≤ u) × (0 < f u)
found None f is some = absurd (cc)
found (Some u) f is some = (u, is.0, is.1)

pub returns-then-is_full : goal.returns-then-is_full
returns-then-is_full c some =
    let later = found c.later.result (count_in c.get.result.now) c.later.ensures (sym c.is_some.ensures ∙ some) in
    let same : count_in c.get.result.now later.0 ≡ known_by c.args.self.now c.args.thread later.0 =
    c.get.ensures later.0 ∙ ap (λ number. known_by c.self.inside.table number later.0) c.number.ensures.value ∙ ap (λ clocks. known_by clocks c.args.thread later.0) c.self.view_is in
    let high : 128 ≤ later.0 = later.1 in
    let some_count : 0 < count_in c.get.result.now later.0 = later.2 in
    (later.0, high, omega (arith, same, some_count))
