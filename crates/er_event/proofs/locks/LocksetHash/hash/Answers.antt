use Rattle.std.proofs.Common.{◌≡◌, ◌+◌, ◌*◌, ◌^◌, ◌≤◌, ◌%◌, ℕ, length, get_or, take, sym, ap, ◌∙◌, arith}
use Rattle.std.specs.List.{fold}
use Rattle.std.specs.Hash as fed
use Rattle.er_event.specs.Lockset.{hashed}
use Rattle.er_event.proofs.LocksetLemmas.{pair_fed, last_fed}
use Rattle.er_event.proofs.locks.LocksetHash.hash.Goals as goal

pub loop-pair-preserved : goal.loop-pair-preserved
loop-pair-preserved g c =
    let parts = c.in-Some.ensures.cases in
    let rest = c.loop-pair.rest.now in
    let long : 2 ≤ length rest = omega (arith, parts.2) in
    let first : c.from.result ≡ get_or (take 2 rest) 0 c.index-pair-0.result = c.from.ensures ∙ c.number.ensures ∙ ap (λ p. get_or p 0 c.index-pair-0.result) parts.0 in
    let second : c.from-in-Some.result ≡ get_or (take 2 rest) 1 c.index-pair-1.result = c.from-in-Some.ensures ∙ c.number-in-Some.ensures ∙ ap (λ p. get_or p 1 c.index-pair-1.result) parts.0 in
    let word : c.from.result + (c.from-in-Some.result * 4294967296) % 18446744073709551616 ≡ c.from.result + c.from-in-Some.result * 2 ^ 32 = omega (arith, c.from-in-Some.ensures, c.number-in-Some.type_inv) in
    record {
      same = ap (λ s. fold g.H.Hasher.write s (hashed c.in-Some.more.now)) (c.write_u64.ensures ∙ ap (λ (w : ℕ). g.H.Hasher.write c.loop-pair.state (fed.le_bytes 8 w)) word)
          ∙ ap (λ xs. fold g.H.Hasher.write (g.H.Hasher.write c.loop-pair.state (fed.le_bytes 8 (c.from.result + c.from-in-Some.result * 2 ^ 32))) (hashed xs)) parts.1
          ∙ pair_fed g.H.Hasher.write c.loop-pair.state rest c.from.result c.from-in-Some.result c.index-pair-0.result c.index-pair-1.result long first second ∙ c.loop-pair.invariant.same;
    }

pub returns : goal.returns
returns g c = c.hash.ensures ∙ ap (fold g.H.Hasher.write c.loop-pair.state) (sym (last_fed c.loop-pair.rest.now c.in_default.ensures.cases)) ∙ c.loop-pair.invariant.same
