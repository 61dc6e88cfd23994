-- One word more is mixed in, and at last the rest.
use Rattle.std.proofs.Common.{◌≡◌, ◌≤◌, ℕ, List, length, take, ap, ◌∙◌, arith}
use Rattle.std.specs.Int.{from_le_bytes, w64}
use Rattle.er_binary.specs.Meaning.{mixed, mixed_all}
use Rattle.er_binary.proofs.WordLemmas.{word_mixed}
use Rattle.er_binary.proofs.decoder.checksum.Goals as goal

pub loop-word-preserved : goal.loop-word-preserved
loop-word-preserved c =
    let sum = c.loop-word.sum in
    let rest = c.loop-word.rest.now in
    let parts = c.in-Some.ensures.cases in
    let long : 8 ≤ length rest = omega (arith, parts.2) in
    let word : c.from_le_bytes.result ≡ from_le_bytes w64 (take 8 rest) = c.from_le_bytes.ensures ∙ ap (λ (t : List ℕ). from_le_bytes w64 t) parts.0 in record {
      same = ap (λ (s : ℕ). mixed_all s c.in-Some.more.now) (c.mixed-sum-in-Some.ensures ∙ ap (λ (n : ℕ). mixed sum n) word)
          ∙ ap (λ (t : List ℕ). mixed_all (mixed sum (from_le_bytes w64 (take 8 rest))) t) parts.1 ∙ word_mixed sum rest long ∙ c.loop-word.invariant.same;
    }
