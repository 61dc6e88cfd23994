-- Where there is no space among the first eight bytes, one stands among the next eight.
use Rattle.std.proofs.Common.{◌≡◌, ℕ, List, ◌≤◌, ◌+◌, ◌++◌, ◌∷◌, length, take, drop, length-take, ap, subst, ◌∙◌, arith, rules}
use Rattle.er_trace.specs.Inner.Recent.{unpacked, bytes_of}
use Rattle.er_trace.proofs.DigitLemmas.{far_space}
use Rattle.er_trace.proofs.recent.ShortName.before_space.Goals as goal

pub returns-clause-bytes : goal.returns-clause-bytes
returns-clause-bytes c =
    let bytes = c.args.bytes.now in
    let last = c.in_ok-last.last in
    let front : c.in_ok-front.front.now ≡ take 8 bytes = search rules in
    let back : c.in_ok-front.back.now ≡ drop 8 bytes = search rules in
    let long : 8 ≤ length bytes = search rules in
    let size : length c.in_ok-front.front.now ≡ 8 = let few = length-take 8 bytes in let same = ap length front in omega (arith, few, same, long) in
    let P : ℕ → Type 0 = λ n. unpacked n c.packed_eight.result ≡ c.in_ok-front.front.now in
    let Q : List ℕ → Type 0 = λ b. b ≡ bytes_of last ++ 32 ∷ drop (last.len + 1) b in
    far_space bytes c.packed_eight.result last (subst P size c.packed_eight.ensures ∙ front) c.in_ok-last.ensures.within.0 (subst Q back c.in_ok-last.ensures.bytes)
