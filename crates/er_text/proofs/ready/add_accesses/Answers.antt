-- One more access is the next of what was left.
use Rattle.std.proofs.Common.{◌+◌, ◌-◌, ℕ, ap, ◌∙◌, arith}
use Rattle.er_trace.specs.Trace.{Recording}
use Rattle.er_text.specs.Inner.Ready.{with_accesses}
use Rattle.er_text.proofs.AccessLemmas.{accesses_next}
use Rattle.er_text.proofs.ready.add_accesses.Goals as goal

pub loop-i-preserved : goal.loop-i-preserved
loop-i-preserved c =
    let i = c.loop-i.i in
    let a = c.args in
    let added = rw c.new.ensures at c.in_ok-push.ensures.ok in
    record {
      names = ap (λ (r : Recording). r.names) added ∙ c.loop-i.invariant.names;
      whole = c.loop-i.invariant.whole ∙ accesses_next a.thread a.kind (a.first + i) a.site (a.line + i) a.count i c.loop-i.trace c.push.new.self c.loop-i-test.true added
          ∙ ap (λ (w : ℕ). with_accesses a.thread a.kind w a.site (a.line + i + 1) (a.count - (i + 1)) c.push.new.self) (omega arith)
          ∙ ap (λ (l : ℕ). with_accesses a.thread a.kind (a.first + (i + 1)) a.site l (a.count - (i + 1)) c.push.new.self) (omega arith);
    }
