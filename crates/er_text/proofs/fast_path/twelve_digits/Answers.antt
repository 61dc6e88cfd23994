-- Each lane is a map of its byte, and each pair of lanes one byte of the number.
use Rattle.std.proofs.Common.{◌≡◌, ℕ, ◌+◌, ◌-◌, ◌*◌, ◌/◌, ◌%◌, ◌^◌, ltb, cond, bit_or, map, w64, refl, ap, ◌∙◌}
use Rattle.std.specs.Prelude.{replicate}
use Rattle.std.specs.Int.{from_be_bytes}
use Rattle.std.proofs.lemmas.Simd.{zip2_splat, zip2_of_maps, splat_is_map, length-chunk}
use lib.Lanes.{chunk, zip2, sel_l, top, number_l, digits_l}
use Rattle.er_text.proofs.DigitLanes.{twelve_found, chosen_lanes}
use Rattle.er_text.proofs.fast_path.twelve_digits.Goals as goal

abbrev less : ℕ → ℕ → ℕ
less a b = cond (ltb a b) 255 0

abbrev minus : ℕ → ℕ → ℕ
minus a b = (a + (256 - b)) % 256

abbrev plus : ℕ → ℕ → ℕ
plus a b = (a + b) % 256

pub returns : goal.returns
returns c =
    let d = c.args.bytes.now in
    let v = chunk 0 16 d in
    let long = length-chunk 0 16 d c.requires in
    let ns = zip2 minus v (replicate 16 48) in
    let ls = zip2 minus (zip2 bit_or v (replicate 16 32)) (replicate 16 97) in
    let values = zip2 plus ls (replicate 16 10) in
    let ds = sel_l (map (top 7) (zip2 less ns values)) ns values in
    let ws = digits_l 65536 8 (number_l 256 ds) in
    let products = zip2 (λ a b. a * b % 65536) ws (replicate 8 4097) in
    let told : c.from_be_bytes.result ≡ from_be_bytes w64 (zip2 (λ a b. a / 2 ^ b) products (replicate 8 8)) = c.from_be_bytes.ensures in
    let numerals = zip2_splat minus v 16 48 long in
    let letters = zip2_of_maps minus _ _ v (zip2_splat bit_or v 16 32 long) (splat_is_map v 16 97 long) in
    let more = zip2_of_maps plus _ _ v letters (splat_is_map v 16 10 long) in
    let bytes = zip2_of_maps (λ a b. a / 2 ^ b) (λ w. w * 4097 % 65536) (λ _. 8) ws (zip2_splat (λ a b. a * b % 65536) ws 8 4097 refl) (splat_is_map ws 8 8 refl) in
    twelve_found d _ ds _ _ (λ w. w * 4097 % 65536 / 256) c.from_be_bytes.result c.requires c.type_inv.bytes c.if-are_digits-ne4095.false
    (zip2_of_maps bit_or _ _ v (zip2_of_maps less _ _ v numerals (splat_is_map v 16 10 long)) (zip2_of_maps less _ _ v letters (splat_is_map v 16 6 long)))
    (chosen_lanes v (zip2 less ns values) ns values _ _ _ (zip2_of_maps less _ _ v numerals more) numerals more)
    refl refl (λ w. refl) (told ∙ ap (from_be_bytes w64) bytes)
