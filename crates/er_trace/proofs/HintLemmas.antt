-- A name that stands at a place has this place as its number.
use Rattle.std.proofs.Common.{String, ◌≡◌, ℕ, ◌<◌, false, List, map, length, get_or, refl, sym, ap, ◌∙◌, arith}
use Rattle.std.specs.List.{IsDistinct}
use Rattle.std.specs.Str.{bytes_eq}
use Rattle.std.specs.String.{string_bytes, string_eq, string_eq_equiv}
use Rattle.std.proofs.lemmas.Slice.Eq.{bytes_eq-Decides}
use Rattle.std.proofs.lemmas.List.Sums.{position_or_len_is}
use Rattle.std.proofs.lemmas.Map.Keys.{apart_from_distinct}
use Rattle.std.proofs.lemmas.Map.Views.{list_any-from_Contains}
use Rattle.er_trace.specs.Names.{most_names}
use Rattle.er_trace.specs.Inner.Recent.{Knows}
use Rattle.er_trace.proofs.NamesLemmas.{known_at, number_at}

pub placed : {Y : Type 0} (keys : List (String Y)) (i : ℕ) (found : String Y) → IsDistinct string_eq keys → i < length keys → get_or keys i found ≡ found → i < most_names
    → Knows (map string_bytes keys) (string_bytes found) i
placed keys i found distinct within at small =
    let apart : (k : ℕ) → k < i → bytes_eq (string_bytes found) (string_bytes (get_or keys k found)) ≡ false = λ k before.
    string_eq_equiv.symm found (get_or keys k found) ∙ ap (string_eq (get_or keys k found)) (sym at) ∙ apart_from_distinct string_eq keys k i found distinct before within in
    record {
      known = sym (known_at (string_bytes found) keys) ∙ list_any-from_Contains string_eq_equiv found keys (i, within, at);
      is = sym (number_at (string_bytes found) keys)
          ∙ position_or_len_is (λ k. bytes_eq (string_bytes found) (string_bytes k)) keys i found (omega (arith, within)) apart
          (λ _. ap (λ k. bytes_eq (string_bytes found) (string_bytes k)) at ∙ (bytes_eq-Decides (string_bytes found) (string_bytes found)).1 refl);
      small = small;
    }
