-- The result of one more rule.
use Rattle.std.proofs.Common.{◌≡◌, ◌∙◌, ◌+◌, ◌<◌, ◌==◌, ℕ, Bool, true, false, cond, List, [], ◌∷◌, ◌++◌, length, map, get_or, slice_get, Option, option_map, Some, None, refl, sym, ap, append_assoc, add-one}
use Rattle.std.proofs.lemmas.List.{append-nil}
use Rattle.std.proofs.lemmas.Option.{slice_get-map, slice_get_read}
use Rattle.er_json.proofs.RowLemmas.{row_more}
use Rattle.er_json.specs.Document.{rows_text}
use Rattle.er_json.specs.Inner.Sections.{has_none, next_text}
use Rattle.er_rules.specs.Rules.{Target, target_of}
use Rattle.er_rules.specs.declared.rules.Rule.{Rule}
use Rattle.er_json.specs.Sarif.{suppressed_at, suppressed_below, suppressed_of}
use Rattle.er_print.specs.declared.lines.ReportKind.{ReportKind}

-- the results up to the next rule
pub suppressed_next : (of : ReportKind) (counts : List ℕ) (rules : List Rule) (k : ℕ) (rule : Rule) → k < length rules → rule ≡ get_or rules k rule
    → suppressed_below of counts (map target_of rules) (k + 1) ≡ suppressed_below of counts (map target_of rules) k ++ suppressed_of of (k + 1) (slice_get counts k) (target_of rule)
unfolding suppressed_below
suppressed_next of counts rules k rule within is =
    let here : slice_get (map target_of rules) k ≡ Some (target_of rule) = slice_get-map target_of rules k ∙ ap (option_map target_of) (slice_get_read rules (length rules) k rule refl within is) in
    ap (λ (n : ℕ). suppressed_below of counts (map target_of rules) n) (add-one k)
    ∙ ap (λ (target : Option Target). suppressed_below of counts (map target_of rules) k ++ suppressed_at of counts k target) here

one_more : (b : Bool) (row : List ℕ) (rows : List (List ℕ)) → rows_text (rows ++ cond b [] (row ∷ [])) ≡ rows_text rows ++ next_text (has_none rows) (cond b [] (row ∷ []))
one_more true row rows = simp append-nil
one_more false row rows = row_more rows row

-- their text
pub suppressed_more : (of : ReportKind) (number : ℕ) (count : Option ℕ) (target : Target) (rows : List (List ℕ))
    → rows_text (rows ++ suppressed_of of number count target) ≡ rows_text rows ++ next_text (has_none rows) (suppressed_of of number count target)
suppressed_more of number None target rows = simp append-nil
suppressed_more of number (Some count) target rows = one_more (count == 0) _ rows

-- a text of rows goes on
pub text_goes_on : (rows more : List (List ℕ)) (old was now : List ℕ) (is_first : Bool) → rows_text (rows ++ more) ≡ rows_text rows ++ next_text (has_none rows) more
    → is_first ≡ has_none rows → was ≡ old ++ rows_text rows → now ≡ was ++ next_text is_first more → now ≡ old ++ rows_text (rows ++ more)
text_goes_on rows more old was now is_first step first so_far put =
    put ∙ ap (λ (text : List ℕ). text ++ next_text is_first more) so_far
    ∙ ap (λ (b : Bool). (old ++ rows_text rows) ++ next_text b more) first
    ∙ append_assoc old (rows_text rows) _ ∙ ap (λ (text : List ℕ). old ++ text) (sym step)
