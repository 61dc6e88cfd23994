-- Where no line is left, none of the bytes behind belongs to one.
use Rattle.std.proofs.Common.{length, drop, ap, arith}
use Rattle.er_lines.proofs.PrefixLemmas.{feeds_within, no_lines}
use Rattle.er_lines.proofs.prefix.Prefix.pass.Goals as goal

pub returns-then-self-eq0-clause-count : goal.returns-then-self-eq0-clause-count
returns-then-self-eq0-clause-count g c =
    let none = ap length (no_lines c.loop-place.self.lines (drop c.loop-place.place c.args.bytes.now) c.if-self-eq0.true) in
    omega (arith, none, c.loop-place.invariant.rest)

pub returns-then-self-eq0-clause-lines : goal.returns-then-self-eq0-clause-lines
returns-then-self-eq0-clause-lines g c =
    omega (arith, feeds_within c.loop-place.place c.args.bytes.now, c.loop-place.invariant.left, c.if-self-eq0.true)
