-- The bytes ahead are the first of what is left.
use Rattle.std.proofs.Common.{IfErr, None, Err, subst}
use Rattle.std.proofs.lemmas.Result.{err_from_is_err_and}
use Rattle.er_lines.specs.Lending.{lines_left}
use Rattle.er_lines.specs.Reading.{Turns}
use Rattle.er_text.specs.Inner.Traces.{progress, read_content}
use Rattle.er_text.specs.Places.{Reached}
use Rattle.er_text.proofs.AheadLemmas.{ahead_stops}
use Rattle.er_text.proofs.reading.TraceReader.read_ahead.Goals as goal

pub returns-in_err-count-clause-fault : goal.returns-in_err-count-clause-fault
returns-in_err-count-clause-fault c = λ known.
    let e = err_from_is_err_and c.from_residual.result c.from_residual.ensures.1 in
    let place = c.self.inside.lines in
    let front = c.ahead-bytes.ensures.front in
    let P : Reached → Type 0 = λ r. IfErr c.from_residual.result (λ why. Turns r.place.limit read_content (lines_left r.place known) None (progress r c.args.trace.now) (progress r c.args.trace.now) (Err why)) in
    subst P c.self.view_is (rw (e.1, e.2) (ahead_stops place known c.ahead-bytes.result.now front.0 c.number-number.result c.self.inside.header.stage c.self.inside.header.idle c.args.trace.now c.in_err-count.field-0.0
    front.1 c.number-number.ensures.value (λ tail p. c.in_err-count.ensures.fault place.limit place.start tail None p c.ahead-bytes.ensures.within)))
