-- A fault of the pass is one of the text, which ends as its reader knows.
use Rattle.std.proofs.Common.{ℕ, List, [], Option, subst}
use Rattle.er_batch.proofs.PassLemmas.{answered-by, ending-of}
use Rattle.er_batch.proofs.TouchLemmas.{known-first}
use Rattle.er_batch.specs.Analysts.{IsFaultOfReading}
use Rattle.er_device.specs.Device.{inner_of}
use Rattle.er_batch.proofs.passes.analyse.Goals as goal

pub returns-in-Err-clause-fault : goal.returns-in-Err-clause-fault
returns-in-Err-clause-fault g c = λ asked known stands.
    let told : Option (List ℕ) = g.D.Read.remaining (inner_of c.args.reader.now) in
    subst (λ (n : ℕ). IsFaultOfReading told n c.in-Err.why) c.in_ok-pass.ensures.limit (c.in-Err.ensures.fault asked told (known-first asked.touches _ _ _ c.in_ok-pass.ensures.touches known) (c.in_ok-pass.ensures.come asked stands told))

pub returns-in-Ok-clause-ending : goal.returns-in-Ok-clause-ending
returns-in-Ok-clause-ending g c = λ asked known stands.
    let told : Option (List ℕ) = g.D.Read.remaining (inner_of c.args.reader.now) in
    ending-of told c.run.new.self.lines c.ending-ending.result (c.in-Ok.ensures.ends asked told (known-first asked.touches _ _ _ c.in_ok-pass.ensures.touches known) (c.in_ok-pass.ensures.come asked stands told)) c.ending-ending.ensures

pub returns-in-Ok-clause-answered : goal.returns-in-Ok-clause-answered
returns-in-Ok-clause-answered g c = λ asked known stands.
    let told : Option (List ℕ) = g.D.Read.remaining (inner_of c.args.reader.now) in
    answered-by c.args.options.now.part (λ r. g.A.Analyst.stands c.run.new.self.analyst asked r []) c.run.new.self.of_pages told c.args.options.now.byte_limit c.run.new.self.trace.names
    (rw (c.in-Ok.ensures.part, c.in_ok-pass.ensures.part, c.in_ok-pass.ensures.limit) at (c.in-Ok.ensures.ended asked told (known-first asked.touches _ _ _ c.in_ok-pass.ensures.touches known) (c.in_ok-pass.ensures.come asked stands told)))
