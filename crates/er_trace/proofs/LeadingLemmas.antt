-- A name in front of a space, which is compared with the bytes of other lines.
use Rattle.std.proofs.Common.{◌≡◌, ℕ, zero, suc, ◌+◌, ◌-◌, ◌*◌, ◌/◌, ◌<◌, ◌≤◌, ◌^◌, List, [], ◌∷◌, ◌++◌, take, drop, refl, sym, ap, ◌∙◌, append_assoc, arith}
use Rattle.std.specs.Int.Bits.{bit_and}
use Rattle.std.proofs.lemmas.List.{take-take, take-append-drop}
use Rattle.std.proofs.lemmas.Nat.{and_mask}
use Rattle.std.proofs.Math.Seq.{take-append-add}
use Rattle.er_trace.specs.declared.recent.Leading.{Leading}
use Rattle.er_trace.specs.Names.{with_name}
use Rattle.er_trace.specs.Inner.Recent.{unpacked, IsLed, LeadsRight}
use Rattle.er_trace.proofs.DigitLemmas.{unpacked_low, unpacked_take}
use Rattle.er_trace.proofs.NumberLemmas.{still, kept}

mask_is : (len : ℕ) → len < 8 → 18446744073709551615 / 2 ^ (56 - 8 * len) ≡ 2 ^ (8 * (len + 1)) - 1
mask_is zero few = refl
mask_is (suc zero) few = refl
mask_is (suc (suc zero)) few = refl
mask_is (suc (suc (suc zero))) few = refl
mask_is (suc (suc (suc (suc zero)))) few = refl
mask_is (suc (suc (suc (suc (suc zero))))) few = refl
mask_is (suc (suc (suc (suc (suc (suc zero)))))) few = refl
mask_is (suc (suc (suc (suc (suc (suc (suc zero))))))) few = refl
mask_is (suc (suc (suc (suc (suc (suc (suc (suc len)))))))) few = absurd (omega (arith, few))

-- under such a mask a number shows the bytes in front
shown : (bytes : List ℕ) (block len : ℕ) → unpacked 8 block ≡ take 8 bytes → len < 8
    → unpacked (len + 1) (bit_and block (18446744073709551615 / 2 ^ (56 - 8 * len))) ≡ take (len + 1) bytes
shown bytes block len front few =
    let le : len + 1 ≤ 8 = omega (arith, few) in
    rw (mask_is len few, and_mask block (8 * (len + 1)))
    (unpacked_low (len + 1) block ∙ sym (unpacked_take (len + 1) 8 block le) ∙ ap (take (len + 1)) front ∙ take-take (len + 1) 8 bytes le)

-- bytes that show the same begin with the same name
pub led_again : (names : List (List ℕ)) (old bytes : List ℕ) (first block number len : ℕ) → len < 8 → unpacked 8 first ≡ take 8 old → unpacked 8 block ≡ take 8 bytes
    → bit_and block (18446744073709551615 / 2 ^ (56 - 8 * len)) ≡ bit_and first (18446744073709551615 / 2 ^ (56 - 8 * len)) → IsLed names old number len → IsLed names bytes number len
led_again names old bytes first block number len few front back same led =
    let behind = 32 ∷ drop (len + 1) old in
    let whole : take (len + 1) old ≡ led.name ++ 32 ∷ [] =
    ap (take (len + 1)) led.front ∙ ap (λ (k : ℕ). take (k + 1) (led.name ++ behind)) (sym led.size) ∙ take-append-add led.name behind 1 in
    let both : take (len + 1) bytes ≡ take (len + 1) old = sym (shown bytes block len back few) ∙ ap (unpacked (len + 1)) same ∙ shown old first len front few in
    record {
      name = led.name;
      plain = led.plain;
      small = led.small;
      size = led.size;
      front =
          sym (take-append-drop (len + 1) bytes) ∙ ap (λ (b : List ℕ). b ++ drop (len + 1) bytes) (both ∙ whole)
          ∙ append_assoc led.name (32 ∷ []) (drop (len + 1) bytes);
    }

-- also once a name is there
pub still_leads : (names : List (List ℕ)) (later : List ℕ) (leading : Leading) → LeadsRight names leading → LeadsRight (with_name names later) leading
still_leads names later leading right = λ bytes block long front fits.
    let led = right bytes block long front fits in
    let plain = led.plain in
    record {
      name = led.name;
      plain = record {
        known = still names led.name later plain.known;
        is = plain.is ∙ sym (kept names led.name later plain.known);
        some = plain.some;
        short = plain.short;
        plain = plain.plain;
      };
      small = led.small;
      size = led.size;
      front = led.front;
    }
