-- One word more is taken.
use Rattle.std.proofs.Common.{◌≡◌, ◌≤◌, ℕ, List, length, take, ap, ◌∙◌, arith}
use Rattle.std.specs.Int.{from_le_bytes, w64}
use Rattle.er_merge.specs.Headings.{digest_after, digest_with}
use Rattle.er_merge.proofs.DigestLemmas.{word_digested}
use Rattle.er_merge.proofs.headings.digest_after.Goals as goal

pub loop-word-preserved : goal.loop-word-preserved
loop-word-preserved c =
    let sum = c.loop-word.sum in
    let rest = c.loop-word.rest.now in
    let parts = c.in-Some.ensures.cases in
    let long : 8 ≤ length rest = omega (arith, parts.2) in
    let word : c.from_le_bytes.result ≡ from_le_bytes w64 (take 8 rest) = c.from_le_bytes.ensures ∙ ap (λ (t : List ℕ). from_le_bytes w64 t) parts.0 in record {
      same = ap (λ (s : ℕ). digest_after s c.in-Some.more.now) (c.digest_with-sum.ensures ∙ ap (λ (n : ℕ). digest_with sum n) word)
          ∙ ap (λ (t : List ℕ). digest_after (digest_with sum (from_le_bytes w64 (take 8 rest))) t) parts.1 ∙ word_digested sum rest long ∙ c.loop-word.invariant.same;
    }
