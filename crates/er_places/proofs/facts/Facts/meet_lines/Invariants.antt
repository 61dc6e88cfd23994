-- Each line that is noted leaves fewer of the wanted ones, and leaves to be kept what was to be kept.
use Rattle.std.proofs.Common.{◌≡◌, ◌-◌, ◌&&◌, not, nat_le, ℕ, vec_len}
use Rattle.er_places.specs.Facts.{is_left, lines_behind, way_behind}
use Rattle.er_places.proofs.facts.Facts.meet_lines.Given as goal

abbrev pub invariant-loop-line : goal.invariant-loop-line
invariant-loop-line l = record {
  lines : l.self.lines ≡ lines_behind l.fn.self.lines l.text;
  wanted : l.self.wanted ≡ l.fn.self.wanted;
  ways : (line : ℕ) → way_behind l.self l.self.lines l.state line ≡ way_behind l.fn.self l.self.lines l.state line;
  left : (line : ℕ) → (is_left l.self line && not (nat_le line l.self.lines)) ≡ (is_left l.fn.self line && not (nat_le line l.self.lines));
}

abbrev pub decreases-loop-line : goal.decreases-loop-line
decreases-loop-line l = vec_len l.self.wanted - l.self.met
