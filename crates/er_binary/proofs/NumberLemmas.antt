-- The number of bytes, taken one by one from the last.
use Rattle.std.proofs.Common.{◌≡◌, ℕ, suc, ◌+◌, ◌-◌, ◌*◌, ◌^◌, ◌<◌, ◌≤◌, List, length, drop, get_or, ap, arith}
use Rattle.std.proofs.Math.Seq.{drop-cons}
use Rattle.std.proofs.Math.Nat.{pow-le-pow_right, pow-suc}
use Rattle.er_binary.specs.Numbers.{number}

pub number_step : (bytes : List ℕ) (at : ℕ) → 0 < at → at ≤ length bytes → number (drop at bytes) * 256 + get_or bytes (at - 1) 0 ≡ number (drop (at - 1) bytes)
number_step bytes at some within =
    let next : suc (at - 1) ≡ at = omega arith in
    let less : at - 1 < length bytes = omega arith in
    let whole = ap number (drop-cons bytes (at - 1) 0 less) in
    let rest : number (drop (suc (at - 1)) bytes) ≡ number (drop at bytes) = ap (λ (k : ℕ). number (drop k bytes)) next in
    omega (arith, whole, rest)

-- so many bytes hold a number below a power of 256
pub grows : (value byte k : ℕ) → value < 256 ^ k → byte < 256 → value * 256 + byte < 256 ^ suc k
grows value byte k less small = let power = pow-suc 256 k in omega (arith, power)

pub fits_8 : (value k : ℕ) → value < 256 ^ k → k ≤ 7 → value * 256 + 255 < 2 ^ 64
fits_8 value k less few = let most : 256 ^ k ≤ 256 ^ 7 = pow-le-pow_right {n = 256} (omega arith) {i = k} {j = 7} few in omega (arith, most, less)
