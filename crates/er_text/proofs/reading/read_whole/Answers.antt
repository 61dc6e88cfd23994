-- Each line is the next of the bytes that are left.
use Rattle.std.proofs.Common.{◌≡◌, ℕ, ◌+◌, ◌-◌, ◌<◌, ◌++◌, List, drop, take, length, refl, ap, ◌∙◌, arith}
use Rattle.std.proofs.lemmas.List.{drop-drop, length-drop}
use Rattle.std.proofs.lemmas.Result.{err_from_is_err_and}
use Rattle.er_text.specs.Inner.Traces.{at_line}
use Rattle.er_text.proofs.AheadLemmas.{ahead_ends, ahead_fails, ahead_on}
use Rattle.er_text.proofs.GrowthLemmas.{grows_not, grows_on, line_grows}
use Rattle.er_text.proofs.PieceLemmas.{rest_is}
use Rattle.er_text.proofs.reading.read_whole.Goals as goal

pub loop-count-init : goal.loop-count-init
loop-count-init c = record {
  on = λ limit start tail fits. let n : c.args.number + 0 ≡ c.args.number = omega arith in let s : start + 0 ≡ start = omega arith in rw (n, s) refl;
  ends = λ start tail. let n : c.args.number + 0 ≡ c.args.number = omega arith in let s : start + 0 ≡ start = omega arith in rw (n, s) refl;
  grows = grows_not c.args.trace.now;
  few = omega arith;
  passed = omega arith;
  within = omega arith;
}

pub returns-in_err-read_plain-clause-fault : goal.returns-in_err-read_plain-clause-fault
returns-in_err-read_plain-clause-fault c = λ limit start tail more p fits.
    let old = c.loop-count.invariant in
    let n = c.line_len-len.result in
    let xs = drop c.loop-count.at c.args.bytes.now in
    let same = rest_is c.loop-count.at c.args.bytes.now old.within in
    let inside : n < length xs = let front = rw same at c.if-len-rest.false in omega (arith, front) in
    let e = err_from_is_err_and c.from_residual.result c.from_residual.ensures.1 in
    rw (e.1, e.2) (ahead_fails limit c.args.number start n (c.args.number + c.loop-count.count) (start + c.loop-count.at) xs tail (c.args.bytes.now ++ tail) more _ p
    (at_line (c.args.number + c.from.result + 1) c.read_plain.new.self.stage c.read_plain.new.self.idle c.read_plain.new.trace) c.loop-count.header.stage c.loop-count.header.idle c.loop-count.trace c.in_err-read_plain.field-0.0
    (c.args.number + c.from.result) (take n (take (length c.args.bytes.now - c.loop-count.at) xs)) (rw same at c.line_len-len.ensures) inside (omega (arith, c.if-len-gt-LINE.false))
    (omega (arith, fits, inside, length-drop c.loop-count.at c.args.bytes.now, old.within)) (old.on limit start tail fits) (ap (λ k. c.args.number + k) c.from.ensures) (ap (λ (b : List ℕ). take n b) same) c.in_err-read_plain.ensures.read)

pub loop-count-preserved : goal.loop-count-preserved
loop-count-preserved c =
    let old = c.loop-count.invariant in
    let n = c.line_len-len.result in
    let xs = drop c.loop-count.at c.args.bytes.now in
    let same = rest_is c.loop-count.at c.args.bytes.now old.within in
    let place = rw same at c.line_len-len.ensures in
    let inside : n < length xs = let front = rw same at c.if-len-rest.false in omega (arith, front) in
    let size = length-drop c.loop-count.at c.args.bytes.now in
    let read = rw (same, c.from.ensures) at c.in_ok-read_plain.ensures.read in
    let says = rw (same, c.from.ensures) at c.in_ok-read_plain.ensures.comment in
    let next : c.args.number + c.loop-count.count + 1 ≡ c.args.number + (c.loop-count.count + 1) = omega arith in
    let behind = drop-drop (n + 1) c.loop-count.at c.args.bytes.now in
    record {
      on = λ limit start tail fits.
          let far : start + c.loop-count.at + (n + 1) ≡ start + (c.loop-count.at + (n + 1)) = omega arith in
          let step = ahead_on limit (c.args.number + c.loop-count.count) (start + c.loop-count.at) n xs tail _ _ place inside (omega (arith, c.if-len-gt-LINE.false)) (omega (arith, fits, inside, size, old.within)) read in
          old.on limit start tail fits ∙ (rw (next, far, behind) at step);
      ends = λ start tail.
          let far : start + c.loop-count.at + (n + 1) ≡ start + (c.loop-count.at + (n + 1)) = omega arith in
          let step = ahead_ends (c.args.number + c.loop-count.count) (start + c.loop-count.at) n xs tail (record { cut = c.loop-count.cut; comment = c.loop-count.header.comment }) c.read_plain.new.self.comment place inside says in
          old.ends start tail ∙ (rw (next, far, behind) at step);
      grows = grows_on _ _ _ old.grows (line_grows (c.args.number + c.loop-count.count) (take n xs) _ _ read);
      few = omega (arith, old.few, c.loop-count-test.true);
      passed = omega (arith, old.passed);
      within = omega (arith, inside, size, old.within);
    }
