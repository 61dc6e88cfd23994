-- The steps up to the next one that is told are counted, and that one is added behind them.
use Rattle.std.proofs.Common.{◌≡◌, ◌∙◌, ◌+◌, ◌-◌, ◌++◌, ◌≤◌, ℕ, List, IsTrue, is_some, length, refl, sym, subst, arith}
use Rattle.er_event.specs.declared.steps.Step.{Step}
use Rattle.er_batch.specs.Inner.Answering.{Lags}
use Rattle.er_batch.specs.Inner.Items.{Holds}
use Rattle.er_report.specs.Builder.{IsReported}
use Rattle.er_text.specs.Batches.{joined}
use Rattle.er_trace.specs.Trace.{Recording}
use Rattle.er_batch.proofs.CrewLemmas.{run-keeps, run-plain}
use Rattle.er_batch.proofs.crew.add_items.Goals as goal
use Rattle.er_batch.proofs.crew.add_items.Goals.{then-explains+in_ok-pass_all, else-explains}

pub returns-then-told-steps-clause-reported : goal.returns-then-told-steps-clause-reported
returns-then-told-steps-clause-reported c = λ past lines sites long each items known before.
    let k : ℕ = c.loop-k.k in
    let told : ℕ = c.next_told-told.result in
    let trace : Recording = c.args.trace.now in
    let r : Recording = joined past lines sites trace in
    let start = c.loop-k.invariant.place items.unusual.rise in
    let end = c.next_told-told.ensures.place items.unusual.rise start in
    let within : told ≤ length trace.steps = rw c.steps-steps.ensures.value at c.next_told-told.ensures.within in
    let behind : k + (told - k) ≡ told = omega (arith, c.next_told-told.ensures.behind) in
    let all : told ≡ length trace.steps = rw c.steps-steps.ensures.value at c.if-told-steps.true in
    let whole : length past + k + (told - k) ≡ length past + length trace.steps = omega (arith, behind, all) in
    subst (IsReported c.add_plain.new.self r) whole
    (c.add_plain.ensures.reported r (length past + k) (c.loop-k.invariant.reported past lines sites long each items known before)
    (run-plain past trace.steps trace.names c.args.items.now items.unusual c.loop-k.next k told start end within (told - k) behind)
    (λ wanted.
    let asked : IsTrue (is_some c.args.builder.now.kept) = sym c.loop-k.invariant.explains ∙ wanted in
    run-keeps past trace.steps trace.names c.args.items.now items.unusual c.loop-k.next k told start end within (items.noted asked)
    (rw c.steps-steps.ensures.value at (c.next_told-told.ensures.still (c.explains-explains.ensures ∙ asked))) (told - k) behind))

pub loop-k-preserved : goal.loop-k-preserved
loop-k-preserved c =
    let k : ℕ = c.loop-k.k in
    let told : ℕ = c.next_told-told.result in
    let trace : Recording = c.args.trace.now in
    let behind : k + (told - k) ≡ told = omega (arith, c.next_told-told.ensures.behind) in
    let holds : (past : List Step) → Holds (is_some c.args.builder.now.kept) c.args.holder.now (past ++ trace.steps) (length past)
    → Holds (is_some c.args.builder.now.kept) c.if-explains.holder (past ++ trace.steps) (length past + (told + 1)) =
    λ past known.
    elim c.if-explains.branch [
      | then-explains+in_ok-pass_all w ↦ λ wanted t.
          let upto : w.min.result ≡ told + 1 = omega (arith, w.min.ensures, c.next_told-told.ensures.within, c.if-told-steps.false) in
          let passed = w.in_ok-pass_all.ensures past (rw c.steps-steps.ensures.value (λ _. c.loop-k.invariant.holds past known wanted)) in
          rw w.holder-is ((rw (c.steps-steps.ensures.value, upto) at passed) refl t)
      | else-explains w ↦ λ wanted. absurd (let asks = c.explains-explains.ensures in let clash = sym w.if-explains.false ∙ asks ∙ wanted in cc)
    ] in
    record {
      steps = let so_far = c.loop-k.invariant.steps in let added = c.in_ok-next.ensures.steps in omega (arith, behind);
      rules = c.in_ok-next.ensures.rules ∙ c.loop-k.invariant.rules;
      explains = c.in_ok-next.ensures.explains ∙ c.loop-k.invariant.explains;
      within = c.in_ok-next.ensures.next;
      inside = omega (arith, c.next_told-told.ensures.within, c.if-told-steps.false);
      place = λ rise. c.in_ok-next.ensures.place rise (c.next_told-told.ensures.place rise (c.loop-k.invariant.place rise));
      holds = holds;
      reported = λ past lines sites long each items known before.
          let r : Recording = joined past lines sites trace in
          let start = c.loop-k.invariant.place items.unusual.rise in
          let end = c.next_told-told.ensures.place items.unusual.rise start in
          let within : told ≤ length trace.steps = rw c.steps-steps.ensures.value at c.next_told-told.ensures.within in
          let one : length past + told + 1 ≡ length past + (told + 1) = omega arith in
          let lags : Lags c.loop-k.builder r (length past + told) (told - k) = record {
            start = length past + k;
            behind = omega (arith, behind);
            reported = c.loop-k.invariant.reported past lines sites long each items known before;
            answers = run-plain past trace.steps trace.names c.args.items.now items.unusual c.loop-k.next k told start end within (told - k) behind;
            keep = λ wanted.
                let asked : IsTrue (is_some c.args.builder.now.kept) = sym c.loop-k.invariant.explains ∙ wanted in
                run-keeps past trace.steps trace.names c.args.items.now items.unusual c.loop-k.next k told start end within (items.noted asked)
                (rw c.steps-steps.ensures.value at (c.next_told-told.ensures.still (c.explains-explains.ensures ∙ asked))) (told - k) behind;
          } in
          subst (IsReported c.add_next.new.builder r) one
          (c.in_ok-next.ensures.reported past lines sites long each items.unusual end
          (λ wanted. rw one (holds past known (sym c.loop-k.invariant.explains ∙ wanted))) lags);
    }
