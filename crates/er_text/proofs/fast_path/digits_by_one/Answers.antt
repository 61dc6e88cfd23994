-- Each step reads one digit more, and 12 of them stay below 2 ^ 48.
use Rattle.std.proofs.Common.{◌≡◌, ◌<◌, ◌^◌, arith}
use Rattle.er_text.proofs.FastPathLemmas.{no_digit, digit_more, few_small, hex_found}
use Rattle.er_text.proofs.fast_path.digits_by_one.Goals as goal

pub loop-i-init : goal.loop-i-init
loop-i-init c = no_digit c.args.bytes.now

pub returns-then-digit-ge16 : goal.returns-then-digit-ge16
returns-then-digit-ge16 c =
    hex_found c.args.bytes.now c.loop-i.value c.loop-i.i c.loop-i.invariant (omega (arith, c.min-most.ensures, c.loop-i.auto.i-end)) (omega (arith, c.min-most.ensures, c.loop-i.auto.i-end))

pub overflow_mul-value : goal.overflow_mul-value
overflow_mul-value c =
    let small : c.loop-i.value < 2 ^ 48 = few_small c.loop-i.value c.loop-i.i c.loop-i.invariant.small (omega (arith, c.min-most.ensures, c.loop-i.auto.i-end)) in
    omega (arith, small)

pub overflow_add-value : goal.overflow_add-value
overflow_add-value c =
    let small : c.loop-i.value < 2 ^ 48 = few_small c.loop-i.value c.loop-i.i c.loop-i.invariant.small (omega (arith, c.min-most.ensures, c.loop-i.auto.i-end)) in
    omega (arith, small, c.if-digit-ge16.false)

pub loop-i-preserved : goal.loop-i-preserved
loop-i-preserved c =
    let low : c.class_of-digit.result < 16 = omega (arith, c.if-digit-ge16.false) in
    rw c.from.ensures (digit_more c.args.bytes.now c.loop-i.value c.class_of-digit.result c.loop-i.i c.loop-i.invariant (omega (arith, c.min-most.ensures, c.loop-i-test.true)) (c.class_of-digit.ensures.digit low) low)

pub returns : goal.returns
returns c =
    let all : c.loop-i.i ≡ c.min-most.result = omega (arith, c.loop-i-test.false, c.loop-i.auto.i-end) in
    rw (← all) (hex_found c.args.bytes.now c.loop-i.value c.loop-i.i c.loop-i.invariant (omega (arith, c.min-most.ensures, all)) (omega (arith, c.min-most.ensures, all)))
