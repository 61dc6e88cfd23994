use Rattle.std.proofs.Common.{◌≡◌, All, length, refl, sym, ap, arith, ◌∙◌}
use Rattle.std.proofs.lemmas.List.{take_all}
use Rattle.std.proofs.lemmas.List.Elements.{All-get_or, All-more, All-same}
use Rattle.er_event.specs.Lockset.{IsRising}
use Rattle.er_event.proofs.LocksetLemmas.{rising_from_increasing}
use Rattle.er_model.specs.Explanations.{Explanation, times_listed}
use Rattle.er_check.proofs.PairLemmas.{pair-count}
use Rattle.er_check.proofs.OnceLemmas.{once-from, once-each, once-many}
use Rattle.er_check.proofs.checking.list_once.Goals as goal

pub returns-then-len-locks : goal.returns-then-len-locks
returns-then-len-locks c =
    let pairs = c.args.explanation.now.uncovered in
    let locks = c.args.locks.now in
    let count = pair-count c.explanation.inside.uncovered.items pairs (ap (λ (e : Explanation). e.uncovered) c.explanation.view_is) in
    let up : IsRising locks = rising_from_increasing locks c.as_slice-locks.ensures.rising in (
      λ yes. cc,
      λ once. (let many = once-many locks pairs up once in absurd (c.if-len-locks.true (omega (arith, count, many, c.len.ensures, ap length c.as_slice-locks.ensures.locks)))),
    )

pub returns-then-times_listed-ne1 : goal.returns-then-times_listed-ne1
returns-then-times_listed-ne1 c =
    let pairs = c.args.explanation.now.uncovered in
    let locks = c.args.locks.now in
    let up : IsRising locks = rising_from_increasing locks c.as_slice-locks.ensures.rising in (
      λ yes. cc,
      λ once. (let each : All (λ l. times_listed pairs l ≡ 1) c.as_slice-locks.result.now = rw c.as_slice-locks.ensures.locks (once-each locks pairs up once) in
          absurd (c.if-times_listed-ne1.true (c.times_listed.ensures ∙ rw c.lock-item.is (All-get_or (λ l. times_listed pairs l ≡ 1) c.as_slice-locks.result.now c.loop-lock.lock-index c.lock-item.result c.loop-lock-test.true each)))),
    )

pub loop-lock-preserved : goal.loop-lock-preserved
loop-lock-preserved c =
    let pairs = c.args.explanation.now.uncovered in
    let here : times_listed pairs c.lock-item.result ≡ 1 = sym c.times_listed.ensures ∙ c.if-times_listed-ne1.false in
    All-more (λ l. times_listed pairs l ≡ 1) c.as_slice-locks.result.now c.loop-lock.lock-index c.lock-item.result c.loop-lock-test.true c.loop-lock.invariant
    (ap (times_listed pairs) (sym c.lock-item.is) ∙ here)

pub returns : goal.returns
returns c =
    let pairs = c.args.explanation.now.uncovered in
    let locks = c.args.locks.now in
    let count = pair-count c.explanation.inside.uncovered.items pairs (ap (λ (e : Explanation). e.uncovered) c.explanation.view_is) in
    let up : IsRising locks = rising_from_increasing locks c.as_slice-locks.ensures.rising in
    let many : length pairs ≡ length locks = omega (arith, count, c.if-len-locks.false, c.len.ensures, ap length c.as_slice-locks.ensures.locks) in
    let whole = sym (take_all c.loop-lock.lock-index c.as_slice-locks.result.now c.loop-lock-test.false) in
    let each = All-same (λ l. times_listed pairs l ≡ 1) c.as_slice-locks.result.now _ whole c.loop-lock.invariant in
    (λ yes. once-from locks pairs up many (rw c.as_slice-locks.ensures.locks at each), λ once. refl)
