-- What was read is cut to the lines that were left.
use Rattle.std.proofs.Common.{◌<◌, ◌≤◌, length, take, arith, sym}
use Rattle.std.proofs.Math.Seq.{length-take-le}
use Rattle.er_lines.specs.Prefix.{cut_off}
use Rattle.er_lines.proofs.PrefixLemmas.{first_lines_within}
use Rattle.er_lines.proofs.PrefixReads.{none_left, nothing_read, lines_read, end_read}
use Rattle.er_lines.proofs.prefix.PrefixRead.read.Goals as goal

pub returns-then-self-eq0-clause-bytes : goal.returns-then-self-eq0-clause-bytes
returns-then-self-eq0-clause-bytes g c = (
  nothing_read c.args.self.now.lines (g.R.Read.remaining (cut_off c.args.self.now)),
  (λ none room. none_left c.args.self.now.lines (g.R.Read.remaining (cut_off c.args.self.now)) c.if-self-eq0.true),
)

pub returns-clause-bound : goal.returns-clause-bound
returns-clause-bound g c =
    let count = c.in_ok-count.count in
    let buffer = c.read.new.buffer in
    let fits = c.in_ok-count.ensures.bound.0 in
    let within : c.pass.result ≤ length buffer = omega (arith, first_lines_within c.args.self.now.lines (take count buffer), length-take-le count buffer fits, c.pass.ensures.count, fits) in
    (within, sym (length-take-le c.pass.result buffer within))

pub returns-clause-bytes : goal.returns-clause-bytes
returns-clause-bytes g c =
    let count = c.in_ok-count.count in
    let buffer = c.read.new.buffer in
    let lines = c.args.self.now.lines in
    let left = c.pass.new.self.lines in
    let fits = c.in_ok-count.ensures.bound.0 in
    let some : 0 < lines = omega (arith, c.if-self-eq0.false) in (
      lines_read _ _ lines left count c.pass.result buffer (rw c.pass.ensures.inner c.in_ok-count.ensures.bytes.0) fits c.pass.ensures.count c.pass.ensures.lines,
      end_read _ lines left count c.pass.result buffer some fits (rw c.pass.ensures.inner c.in_ok-count.ensures.bytes.1) c.pass.ensures.count,
    )
