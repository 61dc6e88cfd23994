-- A lane is set where a byte is a gap, and the lowest set bit is the first. If none is set, the search gives its place.
use Rattle.std.proofs.Common.{◌≡◌, ℕ, ◌≤◌, length, position, unwrap_or, eqb, bit_or, ap, ◌∙◌, arith, rules, tests}
use Rattle.std.proofs.lemmas.Simd.{zip2_splat, zip2_of_maps, length-chunk}
use Rattle.std.specs.Int.Count.{count_trailing_zeros}
use lib.Lanes.{chunk}
use Rattle.std.proofs.lemmas.Iterator.{YieldsList-from_slice}
use Rattle.std.proofs.lemmas.Iterator.Search.{position_from_yields_List}
use Rattle.er_lines.specs.Lines.{is_gap}
use Rattle.er_lines.proofs.BlockLemmas.{first_in_block, mask_of_lanes, either_lane}
use Rattle.er_lines.proofs.WordLemmas.{place_of, place_le}
use Rattle.er_lines.proofs.bytes.word_len.Goals as goal

pub returns-then-len-lt16-clause-place : goal.returns-then-len-lt16-clause-place
returns-then-len-lt16-clause-place c =
    let bytes = c.args.bytes.now in
    let room = c.if-bytes-ge16.true in
    let v = chunk 0 16 bytes in
    let long = length-chunk 0 16 bytes room in
    let few : length v ≤ 64 = omega (arith, long) in
    let lanes = zip2_of_maps bit_or _ _ v (zip2_splat {Y = ℕ} _ v 16 32 long) (zip2_splat {Y = ℕ} _ v 16 9 long) in
    let mask = mask_of_lanes is_gap v _ _ few lanes (λ x. either_lane (eqb x 32) (eqb x 9)) in
    ap (count_trailing_zeros 64) mask ∙ first_in_block is_gap bytes 16 room (omega arith) (rw mask at c.if-len-lt16.true)

pub returns-clause-place : goal.returns-clause-place
returns-clause-place c =
    let bytes = c.args.bytes.now in
    let found : c.position-gap.result ≡ position is_gap bytes = position_from_yields_List is_gap _ _ c.position-gap.result c.position-gap.ensures.ran (YieldsList-from_slice _ c.iter.ensures.rest) (λ x b q k. search (rules, tests)) in
    c.unwrap_or.ensures ∙ ap (λ r. unwrap_or r (length bytes)) found ∙ place_of is_gap bytes

pub returns-clause-bound : goal.returns-clause-bound
returns-clause-bound c =
    let bytes = c.args.bytes.now in
    let found : c.position-gap.result ≡ position is_gap bytes = position_from_yields_List is_gap _ _ c.position-gap.result c.position-gap.ensures.ran (YieldsList-from_slice _ c.iter.ensures.rest) (λ x b q k. search (rules, tests)) in
    let place = c.unwrap_or.ensures ∙ ap (λ r. unwrap_or r (length bytes)) found ∙ place_of is_gap bytes in
    omega (arith, place, place_le is_gap bytes)
