-- A fault of the next line is the text's, and so is the want of a header.
use Rattle.std.proofs.Common.{ℕ, Err, refl, subst, arith, rules}
use Rattle.std.proofs.lemmas.Result.{err_from_is_err_and}
use Rattle.er_device.specs.Device.{inner_of}
use Rattle.er_lines.specs.Lending.{lines_left}
use Rattle.er_lines.specs.Reading.{Turns}
use Rattle.er_text.specs.Inner.Traces.{Progress, progress, read_content}
use Rattle.er_text.proofs.PlaceLemmas.{fault_ends}
use Rattle.er_text.proofs.reading.TraceReader.read_left.Goals as goal

pub loop-numbers-init : goal.loop-numbers-init
loop-numbers-init g c = record {
  goes_on = search rules;
  limit = refl;
  within = search rules;
  working = search rules;
  right = c.new-numbers.ensures _ _;
  taken = omega arith;
}

pub returns-in_err-next_line-clause-fault : goal.returns-in_err-next_line-clause-fault
returns-in_err-next_line-clause-fault g c =
    let e = err_from_is_err_and c.from_residual.result c.from_residual.ensures.1 in
    let old = c.loop-numbers.invariant in
    let left = lines_left c.loop-numbers.self.place (g.R.Read.remaining (inner_of c.loop-numbers.reader)) in
    let rest = lines_left c.next_line.new.self.place (g.R.Read.remaining (inner_of c.next_line.new.reader)) in
    let p : Progress = progress c.loop-numbers.self c.loop-numbers.trace in
    let q : Progress = progress c.next_line.new.self c.next_line.new.trace in
    let fault = c.in_err-next_line.field-0.0 in
    let turn : Turns c.args.self.now.place.limit read_content left rest p q (Err fault) =
    subst (λ (l : ℕ). Turns l read_content left rest p q (Err fault)) old.limit c.in_err-next_line.ensures.turn in
    rw (e.1, e.2) (fault_ends c.args.self.now.place.limit _ left rest p q fault old.goes_on turn)
