-- What the lines take from the place reached on, and how many are left there.
use Rattle.std.proofs.Common.{◌≡◌, length, drop, take, ◌+◌}
use Rattle.er_lines.specs.Inner.Prefixes.{lines_behind}
use Rattle.er_lines.specs.Prefix.{first_lines}
use Rattle.er_lines.proofs.prefix.Prefix.pass.Given as goal

abbrev pub invariant-loop-place : goal.invariant-loop-place
invariant-loop-place g l = record {
  rest : l.place + length (first_lines l.self.lines (drop l.place l.bytes)) ≡ length (first_lines l.fn.self.lines l.bytes);
  left : l.self.lines ≡ lines_behind (take l.place l.bytes) l.fn.self.lines;
  inner : l.self.inner ≡ l.fn.self.inner;
}
