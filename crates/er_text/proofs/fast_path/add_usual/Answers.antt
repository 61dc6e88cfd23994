use Rattle.std.proofs.Common.{◌<◌, length, subst, sym}
use Rattle.er_trace.specs.Trace.{Recording}
use Rattle.er_text.specs.Inner.FastPath.{AddsOperation, IsFastOperation}
use Rattle.er_text.proofs.UsualLemmas.{adds_line, ends_line, thread_below}
use Rattle.er_text.proofs.fast_path.add_usual.Goals as goal

pub add_usual_operation-requires-clause-end : goal.add_usual_operation-requires-clause-end
add_usual_operation-requires-clause-end c = ends_line _ _ _ _ c.in-Some.ensures.led

pub add_usual_operation-requires-clause-thread : goal.add_usual_operation-requires-clause-thread
add_usual_operation-requires-clause-thread c =
    let P : Recording → Type 0 = λ trace. c.in-Some.led.0 < length trace.names.threads in
    subst P (sym c.in-Some.ensures.same) (thread_below _ _ _ _ c.in-Some.ensures.led)

pub returns-in-Some : goal.returns-in-Some
returns-in-Some c =
    let led = c.in-Some.led in
    let P : Recording → Type 0 = λ trace. AddsOperation (IsFastOperation c.args.version led.1.now) c.args.line led.0 trace c.add_usual_operation.new.trace c.add_usual_operation.result in
    adds_line c.args.version c.args.line c.args.bytes.now led.0 led.1.now c.args.trace.now c.add_usual_operation.new.trace c.add_usual_operation.result c.in-Some.ensures.led
    (subst P c.in-Some.ensures.same c.add_usual_operation.ensures)
