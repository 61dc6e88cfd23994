use Rattle.std.proofs.Common.{◌≡◌, ◌≢◌, ◌≤◌, ◌∙◌, ◌+◌, ◌-◌, ◌/◌, cond, slice_index, refl, sym, arith}
use Rattle.std.proofs.lemmas.Bool.{eqb-false}
use Rattle.std.proofs.lemmas.List.{get_or_default}
use Rattle.std.specs.List.Sorted.{IsStrictlyIncreasing}
use Rattle.er_event.specs.Inner.Places.{BelongsAt}
use Rattle.er_event.proofs.LocksetLemmas.{has_belonging, insert_belonging}
use Rattle.er_held.specs.Inner.Halving.{IsWithin}
use Rattle.er_held.proofs.PlaceLemmas.{narrowed, halved, belongs}
use Rattle.er_held.proofs.holding.place_of.Goals as goal
use Rattle.er_held.proofs.holding.place_of.Goals.{After-from, Joined-le, then-le, else-le}

-- the first lock of the half that is left
chosen : (c : Joined-le) → c.if-le.base ≡ cond c.le.result (c.loop.base + c.loop.size / 2) c.loop.base
chosen c = elim c.if-le.branch [ then-le w ↦ rw w.if-le.true w.base-is | else-le w ↦ rw w.if-le.false w.base-is ]

pub loop-preserved : goal.loop-preserved
loop-preserved c =
    let locks = c.as_slice-locks.result.now in
    let middle = c.loop.base + c.loop.size / 2 in
    let within = c.loop.invariant.0 in
    let inside = within.inside in
    let some = within.some in
    let here : c.index-locks-middle.result ≡ slice_index locks middle = c.index-locks-middle.is ∙ get_or_default locks middle c.index-locks-middle.result 0 (omega arith) in (
      narrowed locks c.args.lock c.loop.base (rw c.as_slice-locks.ensures.locks c.as_slice-locks.ensures.rising)
          c.loop.size (c.loop.size / 2) c.if-le.base c.le.result within refl (rw here at (sym c.le.ensures)) (chosen c),
      halved c.loop.size c.loop.counter c.loop-test.true c.loop.invariant.1,
    )

-- where the lock belongs
place : (c : After-from) → BelongsAt c.args.set.now c.args.lock (c.loop.base + c.from.result)
place c =
    let locks = c.as_slice-locks.result.now in
    let halvings : 7 - c.loop.counter ≡ 0 = omega (arith, c.loop-test.false) in
    let most : c.loop.size ≤ 1 = rw halvings at c.loop.invariant.1 in
    let one : c.loop.size ≡ 1 = omega (arith, c.loop.invariant.0.some, most) in
    let within : IsWithin locks c.args.lock c.loop.base 1 = rw one at c.loop.invariant.0 in
    let inside = within.inside in
    let here : c.index-locks-base-2.result ≡ slice_index locks c.loop.base = c.index-locks-base-2.is ∙ get_or_default locks c.loop.base c.index-locks-base-2.result 0 (omega arith) in
    let first : c.index-locks-base.result ≡ slice_index locks c.loop.base = c.index-locks-base.is ∙ get_or_default locks c.loop.base c.index-locks-base.result 0 (omega arith) in
    let other : slice_index locks c.loop.base ≢ c.args.lock = rw first at (eqb-false c.index-locks-base.result c.args.lock (sym c.eq.ensures ∙ c.if-eq.false)) in
    let rises : IsStrictlyIncreasing locks = rw c.as_slice-locks.ensures.locks c.as_slice-locks.ensures.rising in
    rw (c.from.ensures, ← c.as_slice-locks.ensures.locks) (belongs locks c.args.lock c.loop.base rises c.lt.result within other (rw here at (sym c.lt.ensures)))

pub returns-clause-found : goal.returns-clause-found
returns-clause-found c = sym (has_belonging c.args.set.now c.args.lock (c.loop.base + c.from.result) (place c))

pub returns-clause-belongs : goal.returns-clause-belongs
returns-clause-belongs c = ((place c).within, insert_belonging c.args.set.now c.args.lock (c.loop.base + c.from.result) (place c))
