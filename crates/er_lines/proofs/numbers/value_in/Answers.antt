use Rattle.std.proofs.Common.{sym, ◌∙◌, arith}
use Rattle.er_lines.proofs.NumberLemmas.{grows_too_large, is_value, some_bytes}
use Rattle.er_lines.proofs.numbers.value_in.Goals as goal

pub returns-in_err-checked_mul : goal.returns-in_err-checked_mul
returns-in_err-checked_mul c =
    c.from_residual.ensures
    ∙ grows_too_large c.args.radix c.loop-byte.value c.args.digits.now c.loop-byte.byte-index (omega arith)
    c.loop-byte-test.true c.loop-byte.invariant.value (omega (arith, c.in_err-checked_mul.ensures))

pub returns-in_err-value : goal.returns-in_err-value
returns-in_err-value c =
    c.from_residual-in_err-value.ensures
    ∙ grows_too_large c.args.radix c.loop-byte.value c.args.digits.now c.loop-byte.byte-index (omega arith)
    c.loop-byte-test.true c.loop-byte.invariant.value (omega (arith, c.in_err-value.ensures, c.in_ok-checked_mul.ensures, c.digit_value-digit.ensures))

pub returns : goal.returns
returns c =
    is_value c.args.radix c.loop-byte.value c.args.digits.now c.loop-byte.byte-index
    (some_bytes c.args.digits.now (sym c.is_empty.ensures ∙ c.if-is_empty.false)) c.loop-byte-test.false
    c.loop-byte.invariant.digits c.loop-byte.invariant.value c.loop-byte.invariant.small
