use Rattle.std.proofs.Common.{◌≡◌, ◌<◌, ℕ, true, List, map, get_or, length, subst, sym, ap, ◌∙◌, arith, rules}
use Rattle.std.specs.Str.{bytes_eq}
use Rattle.std.specs.String.{string_bytes}
use Rattle.std.proofs.lemmas.List.{length-map}
use Rattle.std.proofs.lemmas.Slice.Eq.{bytes_eq-Decides}
use Rattle.er_trace.specs.Names.{most_names}
use Rattle.er_trace.specs.Inner.Recent.{Knows}
use Rattle.er_trace.proofs.HintLemmas.{placed}
use Rattle.er_trace.proofs.list.NameList.is_at.Goals as goal

pub returns-in-Some : goal.returns-in-Some
returns-in-Some c is =
    let keys = c.self.inside.names.keys in
    let found = c.in-Some.found.now in
    let all = c.as_slice.ensures.keys in
    let shown = c.in-Some.ensures.lookup in
    let place : c.args.number < length c.as_slice.result.now = shown.3.0 in
    let many : length c.as_slice.result.now ≡ length keys = ap length all in
    let within : c.args.number < length keys = omega (arith, place, many) in
    let at : get_or keys c.args.number found ≡ found = ap (λ xs. get_or xs c.args.number found) (sym all) ∙ sym shown.1 in
    let test : bytes_eq c.as_bytes.result.now c.args.name.now ≡ true = search rules in
    let same : string_bytes found ≡ c.args.name.now = sym c.as_bytes.ensures.value ∙ (bytes_eq-Decides c.as_bytes.result.now c.args.name.now).0 test in
    let size : length (map string_bytes keys) ≡ length keys = length-map keys string_bytes in
    let small : c.args.number < most_names = omega (arith, within, size, c.self.invariant) in
    let P : List (List ℕ) → Type 0 = λ names. Knows names c.args.name.now c.args.number in
    let Q : List ℕ → Type 0 = λ name. Knows (map string_bytes keys) name c.args.number in
    subst P c.self.view_is (subst Q same (placed keys c.args.number found c.as_slice.ensures.unique within at small))
