-- The five parts, one behind another.
use Rattle.std.proofs.Common.{◌≡◌, ◌==◌, ◌∙◌, ℕ, false, List, [], ◌∷◌, ◌++◌, length, codes, refl, ap}
use Rattle.er_json.specs.Sarif.{function_text}
use Rattle.er_print.proofs.DigitLemmas.{put_five}
use Rattle.er_print.specs.Styles.{string_text}
use Rattle.er_json.proofs.locations.put_function.Goals as goal

some_name : (before name behind : List ℕ) → false ≡ (length name == 0)
    → before ++ codes "{\"fullyQualifiedName\":" ++ string_text name ++ codes ",\"kind\":\"function\"}" ++ behind ≡ function_text before name behind
unfolding function_text
some_name before [] behind some = absurd (cc)
some_name before (byte ∷ name) behind some = refl

pub returns : goal.returns
returns c =
    put_five c.args.out.now.items _ _ _ _ _ c.args.before.now (codes "{\"fullyQualifiedName\":") (string_text c.args.function.now) (codes ",\"kind\":\"function\"}") c.args.behind.now
    c.in_ok-extend_from_slice.ensures.items c.in_ok-extend_from_slice-2.ensures.items c.in_ok-put_string.ensures c.in_ok-extend_from_slice-3.ensures.items c.in_ok-extend_from_slice-4.ensures.items
    ∙ ap (λ (text : List ℕ). c.args.out.now.items ++ text) (some_name c.args.before.now c.args.function.now c.args.behind.now c.if-is_empty.ensures)
