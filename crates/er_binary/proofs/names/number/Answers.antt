-- One byte more in front of those that were taken.
use Rattle.std.proofs.Common.{◌≡◌, ◌<◌, ◌≤◌, ◌-◌, ◌^◌, ◌+◌, ◌*◌, ℕ, suc, length, drop, get_or, ap, ◌∙◌, arith}
use Rattle.er_binary.specs.Numbers.{number}
use Rattle.er_binary.proofs.NumberLemmas.{number_step, grows, fits_8}
use Rattle.er_binary.proofs.names.number.Goals as goal

pub overflow_mul-value : goal.overflow_mul-value
overflow_mul-value c =
    let few : length c.args.bytes.now - c.loop-at.at ≤ 7 = omega arith in
    omega (arith, fits_8 c.loop-at.value (length c.args.bytes.now - c.loop-at.at) c.loop-at.invariant.bound few)

pub overflow_add-value : goal.overflow_add-value
overflow_add-value c =
    let few : length c.args.bytes.now - c.loop-at.at ≤ 7 = omega arith in
    omega (arith, fits_8 c.loop-at.value (length c.args.bytes.now - c.loop-at.at) c.loop-at.invariant.bound few)

pub loop-at-preserved : goal.loop-at-preserved
loop-at-preserved c =
    let bytes = c.args.bytes.now in
    let at = c.loop-at.at in
    let byte : c.from-in-loop-at.result ≡ get_or bytes (at - 1) 0 = c.from-in-loop-at.ensures in
    let small : c.from-in-loop-at.result < 256 = omega arith in
    let more : suc (length bytes - at) ≡ length bytes - (at - 1) = omega arith in
    let power = ap (λ (k : ℕ). 256 ^ k) more in record {
      within = omega arith;
      value = ap (λ (v : ℕ). v * 256 + c.from-in-loop-at.result) c.loop-at.invariant.value ∙ ap (λ (b : ℕ). number (drop at bytes) * 256 + b) byte ∙ number_step bytes at c.loop-at-test.true c.loop-at.invariant.within;
      bound = omega (arith, power, grows c.loop-at.value c.from-in-loop-at.result (length bytes - at) c.loop-at.invariant.bound small);
    }
