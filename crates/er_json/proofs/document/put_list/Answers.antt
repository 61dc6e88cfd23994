-- The items but for their first comma.
use Rattle.std.proofs.Common.{◌≡◌, ◌∙◌, ◌≤◌, ℕ, List, [], ◌∷◌, ◌++◌, length, drop, codes, refl, ap, arith}
use Rattle.er_json.proofs.PutLemmas.{put_three, rest_all}
use Rattle.er_json.specs.Document.{list_member}
use Rattle.er_json.proofs.document.put_list.Goals as goal

some_items : (heading items : List ℕ) → 1 ≤ length items → heading ++ drop 1 items ++ codes "]" ≡ list_member heading items
some_items heading [] some = absurd (omega arith)
some_items heading (comma ∷ items) some = refl

pub returns : goal.returns
returns c =
    put_three c.args.out.now.items _ _ _ c.args.heading.now (drop 1 c.args.items.now) (codes "]") c.in_ok-extend_from_slice.ensures.items
    (rw (rest_all 1 c.args.items.now) at c.in_ok-extend_from_slice-2.ensures.items)
    c.in_ok-extend_from_slice-3.ensures.items
    ∙ ap (λ (text : List ℕ). c.args.out.now.items ++ text) (some_items c.args.heading.now c.args.items.now c.in-len1-up.len_at_least)
