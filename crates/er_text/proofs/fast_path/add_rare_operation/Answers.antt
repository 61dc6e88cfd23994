-- An event alone, or what stands behind the verb of a reuse.
use Rattle.std.proofs.Common.{◌∙◌, Some, None, sym}
use Rattle.er_text.specs.Events.{Reuses}
use Rattle.er_text.proofs.FastPathLaws.{reuse_led}
use Rattle.er_text.proofs.fast_path.add_rare_operation.Goals as goal

pub push-requires-clause-step : goal.push-requires-clause-step
push-requires-clause-step c = record { thread = c.requires; event = c.in-Some.ensures.named c.args.trace.now.names }

pub returns-in-Some : goal.returns-in-Some
returns-in-Some c =
    let found = c.in-Some.ensures in
    (found.operation, found.fast, c.in_ok-push.ensures.ok ∙ sym (found.adds c.args.line c.args.thread c.args.trace.now))

pub returns : goal.returns
returns c =
    let rest = c.in-Some-Reuse-default.rest.now in
    let found = c.in-Some-whole_range in
    let reused = Reuses (Some found.range) None in
    (reused, reuse_led c.args.version c.args.bytes.now rest reused (rw c.in-Some-Reuse-default.field-0-0-is at c.in-Some-Reuse-default.ensures) found.ensures, c.in_ok-add_reuse.ensures)
