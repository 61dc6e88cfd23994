-- The text of lines, as contracts compare them.
use Rattle.std.proofs.Common.{◌≡◌, ◌+◌, ◌<◌, ◌≤◌, ℕ, List, [], ◌∷◌, ◌++◌, length, take, get_or, map, flat_map, refl, sym, ap, ◌∙◌}
use Rattle.std.proofs.lemmas.List.{flat_map_more, take_all, take_more}
use Rattle.er_trace.specs.Names.{NameTable}
use Rattle.er_report.specs.Lines.{line_view}
use Rattle.er_report.specs.declared.report.Line.{Line}
use Rattle.er_print.specs.Printed.{line_text}
use Rattle.er_print.specs.declared.lines.ReportKind.{ReportKind}

pub told-lines : (of : ReportKind) (names : NameTable) (lines : List Line) → flat_map (λ (line : Line). line_text of names (line_view line)) lines ≡ flat_map (line_text of names) (map line_view lines)
told-lines of names [] = refl
told-lines of names (line ∷ lines) = ap (λ (rest : List ℕ). line_text of names (line_view line) ++ rest) (told-lines of names lines)

-- the text of one more thing is put behind those before it
pub one_more : {X : Type 0} (text : X → List ℕ) (xs : List X) (k : ℕ) (d x : X) (old before after : List ℕ) → k < length xs → x ≡ get_or xs k d
    → before ≡ old ++ flat_map text (take k xs) → after ≡ before ++ text x → after ≡ old ++ flat_map text (take (k + 1) xs)
one_more {X} text xs k d x old before after within here so_far put =
    let next : take (k + 1) xs ≡ take k xs ++ x ∷ [] = take_more xs k d within ∙ ap (λ (y : X). take k xs ++ y ∷ []) (sym here) in
    put ∙ ap (λ (front : List ℕ). front ++ text x) so_far ∙ flat_map_more text old (take k xs) x
    ∙ sym (ap (λ (all : List X). old ++ flat_map text all) next)

-- the text of all of them is there
pub no_more : {X : Type 0} (text : X → List ℕ) (old whole : List ℕ) (xs : List X) (k : ℕ) → length xs ≤ k
    → whole ≡ old ++ flat_map text (take k xs) → whole ≡ old ++ flat_map text xs
no_more {X} text old whole xs k past so_far = so_far ∙ ap (λ (all : List X). old ++ flat_map text all) (take_all k xs past)
