-- The last comment of lines that are read apart, behind those before them.
use Rattle.std.proofs.Common.{◌≡◌, ℕ, ◌+◌, ◌<◌, true, false, cond, List, [], ◌∷◌, ◌++◌, Option, Some, None, IfSome, refl, subst, ap, ◌∙◌, arith}
use Rattle.er_trace.specs.Trace.{Recording}
use Rattle.er_text.specs.declared.endings.Lost.{Lost}
use Rattle.er_text.specs.declared.verbs.Version.{Version}
use Rattle.er_text.specs.Ending.{lost_in, comment_past, comment_after}
use Rattle.er_lines.specs.Lines.{Line, placed_from, width, is_comment}
use Rattle.er_text.specs.Inner.Pieces.{AreRead, comment_behind}

-- where lines begin says nothing of their comments
pub same_comments : (k s t : ℕ) (lines : List Line) (last : Option Lost) → comment_after last (placed_from k s lines) ≡ comment_after last (placed_from k t lines)
same_comments k s t [] last = refl
same_comments k s t (line ∷ lines) last = same_comments (k + 1) (s + width line) (t + width line) lines (comment_past last k line.bytes)

-- a comment by its number here and by its number in the piece
behind_past : (before n k : ℕ) (last comment : Option Lost) (bytes : List ℕ) → k ≡ before + n
    → comment_past (comment_behind before last comment) k bytes ≡ comment_behind before last (comment_past comment n bytes)
behind_past before n k last comment bytes is =
    elim (is_comment bytes) as (λ b. cond b (Some (record { line = k; events = lost_in bytes })) (comment_behind before last comment)
    ≡ comment_behind before last (cond b (Some (record { line = n; events = lost_in bytes })) comment)) [
      | true ↦ ap (λ (j : ℕ). Some (record { line = j; events = lost_in bytes })) is
      | false ↦ refl
    ]

-- the last comment of a piece, and of what follows it
pub comments_on : (v : Version) (before n m k start from to : ℕ) (q t : Recording) (lines more : List Line) (last comment : Option Lost) → k ≡ before + n → AreRead v lines n q m t
    → comment_after (comment_behind before last comment) (placed_from k start (lines ++ more))
    ≡ comment_after (comment_behind before last (comment_after comment (placed_from n from lines))) (placed_from (before + m) to more)
comments_on v before n m k start from to q t [] more last comment is are =
    let number : k ≡ before + m = is ∙ ap (λ (j : ℕ). before + j) are.0 in
    ap (λ (j : ℕ). comment_after (comment_behind before last comment) (placed_from j start more)) number ∙ same_comments (before + m) start to more (comment_behind before last comment)
comments_on v before n m k start from to q t (line ∷ lines) more last comment is are =
    let next : k + 1 ≡ before + (n + 1) = omega (arith, is) in
    ap (λ (c : Option Lost). comment_after c (placed_from (k + 1) (start + width line) (lines ++ more))) (behind_past before n k last comment line.bytes is)
    ∙ comments_on v before (n + 1) m (k + 1) (start + width line) (from + width line) to are.2 t lines more last (comment_past comment n line.bytes) next are.4

-- a comment of a line before this one
abbrev pub IsAbove : ℕ → Option Lost → Type 0
IsAbove n comment = IfSome comment (λ lost. lost.line < n)

above_next : (n : ℕ) (comment : Option Lost) → IsAbove n comment → IsAbove (n + 1) comment
above_next n None above = tt
above_next n (Some lost) above = omega (arith, above)

past_above : (n : ℕ) (comment : Option Lost) (bytes : List ℕ) → IsAbove n comment → IsAbove (n + 1) (comment_past comment n bytes)
past_above n comment bytes above =
    elim (is_comment bytes) as (λ b. IsAbove (n + 1) (cond b (Some (record { line = n; events = lost_in bytes })) comment)) [ true ↦ omega arith | false ↦ above_next n comment above ]

-- the comments of a piece stand before the line behind it
pub comments_above : (v : Version) (n m from : ℕ) (q t : Recording) (lines : List Line) (comment : Option Lost) → AreRead v lines n q m t → IsAbove n comment
    → IsAbove m (comment_after comment (placed_from n from lines))
comments_above v n m from q t [] comment are above = subst (λ (j : ℕ). IsAbove j comment) are.0 above
comments_above v n m from q t (line ∷ lines) comment are above =
    comments_above v (n + 1) m (from + width line) are.2 t lines (comment_past comment n line.bytes) are.4 (past_above n comment line.bytes above)
