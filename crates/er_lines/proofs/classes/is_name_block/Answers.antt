-- A lane is set where a byte is none of a sign, a letter and an underscore.
use Rattle.std.proofs.Common.{ℕ, leb, cond, bit_and, refl}
use Rattle.std.proofs.lemmas.Simd.{zip2_splat, zip2_of_maps, splat_is_map, length-chunk}
use lib.Lanes.{chunk}
use Rattle.er_lines.proofs.BlockLemmas.{clear_block}
use Rattle.er_lines.proofs.classes.is_name_block.Goals as goal

pub returns : goal.returns
returns c none =
    let v = chunk c.args.at 16 c.args.bytes.now in
    let long = length-chunk c.args.at 16 c.args.bytes.now c.requires in
    let sign = zip2_of_maps (λ a b. cond (leb a b) 255 0) _ _ v (splat_is_map v 16 14 long) (zip2_splat {Y = ℕ} _ v 16 45 long) in
    let letter = zip2_of_maps (λ a b. cond (leb a b) 255 0) _ _ v (splat_is_map v 16 26 long) (zip2_of_maps _ _ _ v (zip2_splat {Y = ℕ} _ v 16 32 long) (splat_is_map v 16 97 long)) in
    clear_block c.args.bytes.now c.args.at _ _ c.requires c.type_inv.bytes none
    (zip2_of_maps bit_and _ _ v (zip2_of_maps bit_and _ _ v sign letter) (zip2_splat {Y = ℕ} _ v 16 95 long)) refl
