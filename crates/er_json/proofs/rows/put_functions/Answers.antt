-- One of the functions is known, so all are put.
use Rattle.std.proofs.Common.{◌≡◌, ◌∙◌, ◌||◌, ◌++◌, ℕ, Bool, true, false, cond, List, [], flat_map, option_copied, codes, refl, ap}
use Rattle.std.specs.List.{list_any}
use Rattle.er_json.proofs.PutLemmas.{put_four}
use Rattle.er_json.specs.Document.{function_item, is_known, name_value}
use Rattle.er_places.specs.Names.{call_function, function_of}
use Rattle.er_places.specs.Places.{PlaceTable}
use Rattle.er_json.proofs.rows.put_functions.Goals as goal

abbrev knows : PlaceTable → List ℕ → List ℕ → Bool
knows table own calls = is_known own || list_any (λ (call : ℕ). is_known (call_function table call)) calls

abbrev all_of : PlaceTable → List ℕ → List ℕ → List ℕ
all_of table own calls = codes ",\"functions\":[" ++ name_value own ++ flat_map (function_item table) calls ++ codes "]"

if_known : (known : Bool) (text : List ℕ) → true ≡ known → text ≡ cond known text []
if_known true text is = refl
if_known false text is = absurd (cc)

pub returns : goal.returns
returns c =
    let old : List ℕ = c.args.out.now.items in
    let table : PlaceTable = c.args.places.now in
    let own : List ℕ = c.function_of-own.result.now in
    let calls : List ℕ = c.calls_of-calls.result.now in
    put_four old _ _ _ _ (codes ",\"functions\":[") (name_value own) (flat_map (function_item table) calls) (codes "]") c.in_ok-extend_from_slice.ensures.items c.in_ok-put_name.ensures
    c.in_ok-put_call_functions.ensures c.in_ok-extend_from_slice-2.ensures.items
    ∙ ap (λ (text : List ℕ). old ++ text) (if_known (knows table own calls) (all_of table own calls) c.if-not-is_one_known.ensures)
    ∙ ap (λ (own : List ℕ). old ++ cond (knows table own calls) (all_of table own calls) []) c.function_of-own.ensures
    ∙ ap (λ (calls : List ℕ). old ++ cond (knows table (function_of table (option_copied c.args.place)) calls) (all_of table (function_of table (option_copied c.args.place)) calls) []) c.calls_of-calls.ensures
