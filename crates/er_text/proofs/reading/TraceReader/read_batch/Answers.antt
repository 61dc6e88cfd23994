-- The lines of a batch, one behind the other.
use Rattle.std.proofs.Common.{◌+◌, ◌<◌, ◌≤◌, ℕ, Ok, true, refl, ◌∙◌, subst, arith}
use Rattle.er_device.specs.Device.{inner_of}
use Rattle.er_text.specs.Places.{Reached}
use Rattle.er_lines.specs.Lending.{lines_left, taken_by}
use Rattle.er_lines.specs.Reading.{Turns}
use Rattle.er_text.specs.Inner.Traces.{Progress, progress, read_content}
use Rattle.er_text.proofs.GrowthLemmas.{grows_not, grows_on}
use Rattle.er_text.proofs.TailLemmas.{tail_start, tail_goes_on}
use Rattle.er_lines.proofs.TurnLemmas.{at_start, goes_on}
use Rattle.er_text.proofs.reading.TraceReader.read_batch.Goals as goal

pub loop-left-init : goal.loop-left-init
loop-left-init g c =
    let P : Reached → Type 0 = λ r. r.place.start ≤ r.place.limit in
    let Q : Reached → Type 0 = λ r. taken_by r.place ≤ r.place.limit + 1025 in
    record {
      goes_on = at_start c.args.self.now.place.limit read_content (lines_left c.args.self.now.place (g.R.Read.remaining (inner_of c.args.reader.now))) (progress c.args.self.now c.args.trace.now);
      tail = tail_start (lines_left c.args.self.now.place (g.R.Read.remaining (inner_of c.args.reader.now))) c.args.self.now.tail;
      grows = grows_not c.args.trace.now;
      limit = refl;
      within = subst P c.self.view_is c.number-line.ensures.within;
      most = subst Q c.self.view_is c.number-line.ensures.most;
      working = c.requires.open;
      right = c.requires.right;
      taken = omega arith;
      touches = λ xs is. is;
      few = omega arith;
      passed = omega arith;
    }

pub loop-left-preserved : goal.loop-left-preserved
loop-left-preserved g c =
    let old = c.loop-left.invariant in
    let step = c.in_ok-count.ensures in
    let some : 0 < c.in_ok-count.count = omega (arith, c.if-count-eq0.false) in
    let left = lines_left c.loop-left.self.place (g.R.Read.remaining (inner_of c.loop-left.reader)) in
    let rest = lines_left c.next_lines.new.self.place (g.R.Read.remaining (inner_of c.next_lines.new.reader)) in
    let t : Progress = progress c.loop-left.self c.loop-left.trace in
    let u : Progress = progress c.next_lines.new.self c.next_lines.new.trace in
    let L : ℕ → Type 0 = λ l. Turns l read_content left rest t u (Ok true) in
    let passed = step.passed some in
    record {
      goes_on = goes_on c.args.self.now.place.limit read_content _ left rest _ t u old.goes_on (subst L old.limit (step.turn some));
      tail = tail_goes_on _ left rest c.args.self.now.tail c.loop-left.self.tail c.next_lines.new.self.tail old.tail (step.tail some);
      grows = grows_on _ _ _ old.grows step.grows;
      limit = step.limit ∙ old.limit;
      within = step.within;
      most = step.most;
      working = step.failed;
      right = step.right;
      taken = omega (arith, old.taken, step.taken);
      touches = λ xs is. step.touches xs (old.touches xs is);
      few = omega (arith, old.few);
      passed = omega (arith, old.passed, passed, step.few);
    }
