-- The LF is at the end of the first line, or there is none.
use Rattle.std.proofs.Common.{◌≤◌, ◌<◌, ◌+◌, ◌∷◌, ◌∙◌, ℕ, List, true, length, take, sym, ap, arith}
use Rattle.std.proofs.lemmas.List.{length-drop}
use Rattle.er_lines.specs.Lines.{lines_of}
use Rattle.er_merge.proofs.LineLemmas.{first_line, no_feed, rest_is}
use Rattle.er_merge.proofs.parts.first_line.Goals as goal

pub returns-then-len-text : goal.returns-then-len-text
returns-then-len-text c = no_feed c.args.text.now c.line_len-len.result c.line_len-len.ensures c.if-len-text.true

pub returns : goal.returns
returns c =
    let text = c.args.text.now in
    let len = c.line_len-len.result in
    let within : len < length text = c.if-len-text.false in
    let enough : len + 1 ≤ length text = omega (arith, within) in
    let rest = rest_is (len + 1) text enough in
    let long = ap length rest in
    let shorter = length-drop (len + 1) text in (
      first_line text len c.line_len-len.ensures within ∙ ap (λ (bytes : List ℕ). record { bytes = take len text; ended = true } ∷ lines_of bytes) (sym rest),
      omega (arith, long, shorter, within),
    )
