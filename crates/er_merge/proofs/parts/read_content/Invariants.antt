use Rattle.std.proofs.Common.{◌≡◌, ◌≤◌, ◌+◌, length}
use Rattle.er_lines.specs.Lines.{lines_of}
use Rattle.er_merge.specs.Parts.{body_from, body_view, empty_body}
use Rattle.er_merge.proofs.parts.read_content.Given as goal

abbrev pub invariant-loop-next : goal.invariant-loop-next
invariant-loop-next l = record {
  same : body_from l.line (body_view l.body) (lines_of l.rest) ≡ body_from 2 empty_body (lines_of l.text);
  room : l.line + length l.rest ≤ length l.text + 2;
}

abbrev pub decreases-loop-next : goal.decreases-loop-next
decreases-loop-next l = length l.rest
