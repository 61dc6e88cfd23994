use Rattle.std.proofs.Common.{◌∙◌, sym, refl, arith}
use Rattle.er_settle.proofs.NumberLemmas.{given, missing, given-more}
use Rattle.er_settle.proofs.seat_checks.are_complete.Goals as goal

pub loop-number-preserved : goal.loop-number-preserved
loop-number-preserved c = given-more c.args.seats.now c.loop-number.number-counter c.loop-number.invariant
    (given c.args.seats.now c.args.index.now c.loop-number.number-counter c.requires.index (sym c.contains_key.ensures ∙ c.if-not-contains_key.false))

pub returns-then-not-contains_key : goal.returns-then-not-contains_key
returns-then-not-contains_key c = (λ t. cc, λ all. absurd (missing c.args.opened c.args.seats.now c.args.index.now c.loop-number.number-counter c.requires.index c.loop-number-test.true (sym c.contains_key.ensures ∙ c.if-not-contains_key.true) all))

pub returns : goal.returns
returns c = (λ t n below. c.loop-number.invariant n (omega (arith, c.loop-number-test.false)), λ all. refl)
