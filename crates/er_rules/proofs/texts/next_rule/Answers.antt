-- A line that was read is the next of what is left.
use Rattle.std.proofs.lemmas.Result.{err_from_is_err_and}
use Rattle.er_device.specs.Device.{inner_of}
use Rattle.er_rules.specs.Rules.{targets_of}
use Rattle.er_rules.proofs.PlaceLemmas.{rule_fails, rule_reads}
use Rattle.er_rules.proofs.texts.next_rule.Goals as goal

pub returns-in_err-add_line-clause-turn : goal.returns-in_err-add_line-clause-turn
returns-in_err-add_line-clause-turn g c =
    let e = err_from_is_err_and c.from_residual-in_err-add_line.result c.from_residual-in_err-add_line.ensures.1 in
    let found = rw c.in-Some.is at c.in_ok-front.ensures.found in
    rw (e.1, e.2) (rule_fails c.args.lines.now c.find.new.self c.in-Some.front _ _ _ _ _ (c.add_line.new.is_second, targets_of c.add_line.new.rules) c.number-line.result c.bytes-bytes.result.now c.in_err-add_line.field-0.0
    found.0 found.1 c.in_ok-front.ensures.limit c.number-line.ensures.value c.bytes-bytes.ensures c.in_err-add_line.ensures.added)

pub returns-clause-turn : goal.returns-clause-turn
returns-clause-turn g c =
    let found = rw c.in-Some.is at c.in_ok-front.ensures.found in
    rule_reads c.args.lines.now c.find.new.self c.pass.new.self c.in-Some.front _ (g.R.Read.remaining (inner_of c.find.new.reader)) _ _ c.bytes-bytes.result.now
    found.0 found.1 c.in_ok-front.ensures.limit c.pass.ensures c.bytes-bytes.ensures c.in_ok-add_line.ensures.added
