-- Lines that are read apart from those before them say the same behind these.
use Rattle.std.proofs.Common.{◌≡◌, ℕ, ◌+◌, ◌-◌, ◌<◌, ◌≤◌, Bool, true, List, [], ◌∷◌, append-nil, length, take, drop, Option, Ok, refl, sym, ap, ◌∙◌, subst, arith, length-take-le}
use Rattle.std.specs.List.{position_or_len}
use Rattle.std.proofs.lemmas.List.{take_all, drop_all, drop-drop, length-drop}
use Rattle.er_trace.specs.Trace.{Recording}
use Rattle.er_text.specs.declared.stages.Stage.{Stage}
use Rattle.er_text.specs.declared.stages.Stage.TheVariants.{Events}
use Rattle.er_text.specs.declared.verbs.Version.{Version}
use Rattle.er_text.specs.declared.endings.Lost.{Lost}
use Rattle.er_text.specs.Ending.{comment_past, comment_after}
use Rattle.er_lines.specs.Lines.{Line, is_end, lines_of, placed_from, width as line_width}
use Rattle.er_text.specs.Inner.Pieces.{AreRead, IsReadInFront}
use Rattle.er_text.specs.Inner.Traces.{at_line, plain_at}
use Rattle.er_text.proofs.CommentLemmas.{same_comments}
use Rattle.er_lines.proofs.LineLemmas.{lines_whole}

first_line : (bytes : List ℕ) (len : ℕ) → len ≡ position_or_len is_end bytes → len < length bytes
    → lines_of bytes ≡ record { bytes = take len bytes; ended = true } ∷ lines_of (drop (len + 1) bytes)
first_line bytes len place within =
    let inner : position_or_len is_end bytes < length bytes = omega (arith, place, within) in
    ap lines_of (sym (append-nil bytes)) ∙ (rw place (lines_whole bytes [] inner)) ∙ ap (λ (b : List ℕ). record { bytes = take len bytes; ended = true } ∷ lines_of b) (append-nil (drop (len + 1) bytes))

-- the bytes from a place on
pub rest_is : (n : ℕ) (xs : List ℕ) → n ≤ length xs → take (length xs - n) (drop n xs) ≡ drop n xs
rest_is n xs within = take_all (length xs - n) (drop n xs) (omega (arith, length-drop n xs))

-- no line is left
pub none_left : (v : Version) (n : ℕ) (bytes : List ℕ) (r : Recording) → length bytes ≤ n → (m : ℕ) → AreRead v (lines_of (drop n bytes)) m r m r
none_left v n bytes r all m = subst (λ (b : List ℕ). AreRead v (lines_of b) m r m r) (sym (drop_all n bytes all)) (refl, refl)

-- the line in front was read
pub front_read : (v : Version) (n : ℕ) (bytes : List ℕ) (len : ℕ) (old new : Stage) (idle after : List Bool) (r s : Recording)
    → len ≡ position_or_len is_end bytes → len < length bytes → len ≤ 1024 → old ≡ Events v → idle ≡ [] → new ≡ Events v → after ≡ []
    → plain_at (at_line n old idle r) n (take len bytes) ≡ Ok (at_line (n + 1) new after s) → IsReadInFront v n bytes (len + 1) r s
front_read v n bytes len old new idle after r s place within short begins none goes still read =
    let one : len + 1 - 1 ≡ len = omega arith in
    let fits : len ≤ length bytes = omega (arith, within) in
    record {
      lines = rw one (first_line bytes len place within);
      short = rw (one, length-take-le len bytes fits) short;
      read = rw one (rw (begins, none, goes, still) at read);
    }

-- and then those behind it
pub front_then : (v : Version) (n m : ℕ) (bytes : List ℕ) (width : ℕ) (r s t : Recording) → IsReadInFront v n bytes width r s
    → AreRead v (lines_of (drop width bytes)) (n + 1) s m t → AreRead v (lines_of bytes) n r m t
front_then v n m bytes width r s t front more =
    subst (λ (ls : List Line). AreRead v ls n r m t) (sym front.lines) (refl, front.short, s, front.read, more)

-- the same of the bytes from a place on
pub next_then : (v : Version) (n m at width : ℕ) (bytes : List ℕ) (r s t : Recording) → at ≤ length bytes
    → IsReadInFront v n (take (length bytes - at) (drop at bytes)) width r s
    → AreRead v (lines_of (drop (at + width) bytes)) (n + 1) s m t → AreRead v (lines_of (drop at bytes)) n r m t
next_then v n m at width bytes r s t within front more =
    let here = rw (rest_is at bytes within) at front in
    front_then v n m (drop at bytes) width r s t here (subst (λ (b : List ℕ). AreRead v (lines_of b) (n + 1) s m t) (sym (drop-drop width at bytes)) more)

-- no comment is left
pub no_comment_left : (n : ℕ) (bytes : List ℕ) → length bytes ≤ n → (k : ℕ) (last : Option Lost) → last ≡ comment_after last (placed_from k 0 (lines_of (drop n bytes)))
no_comment_left n bytes all k last = subst (λ (b : List ℕ). last ≡ comment_after last (placed_from k 0 (lines_of b))) (sym (drop_all n bytes all)) refl

-- what the last comment says behind the line in front
pub next_comment : (v : Version) (n at width : ℕ) (bytes : List ℕ) (r s : Recording) (last here : Option Lost) → at ≤ length bytes
    → IsReadInFront v n (take (length bytes - at) (drop at bytes)) width r s → here ≡ comment_past last n (take (width - 1) (drop at bytes))
    → comment_after here (placed_from (n + 1) 0 (lines_of (drop (at + width) bytes))) ≡ comment_after last (placed_from n 0 (lines_of (drop at bytes)))
next_comment v n at width bytes r s last here within front says =
    let lines : lines_of (drop at bytes) ≡ record { bytes = take (width - 1) (drop at bytes); ended = true } ∷ lines_of (drop width (drop at bytes)) =
    (rw (rest_is at bytes within) at front).lines in
    let more = lines_of (drop width (drop at bytes)) in
    let first : Line = record { bytes = take (width - 1) (drop at bytes); ended = true } in
    ap (λ (c : Option Lost). comment_after c (placed_from (n + 1) 0 (lines_of (drop (at + width) bytes)))) says
    ∙ ap (λ (b : List ℕ). comment_after (comment_past last n first.bytes) (placed_from (n + 1) 0 (lines_of b))) (sym (drop-drop width at bytes))
    ∙ same_comments (n + 1) 0 (0 + line_width first) more (comment_past last n first.bytes)
    ∙ ap (λ (ls : List Line). comment_after last (placed_from n 0 ls)) (sym lines)
