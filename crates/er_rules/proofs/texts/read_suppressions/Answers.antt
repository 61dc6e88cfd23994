-- What the lines gave is what the grammar says of the text.
use Rattle.std.proofs.Common.{Err, rules}
use Rattle.std.proofs.lemmas.Result.{err_from_is_err_and}
use Rattle.er_rules.proofs.RuleTexts.{known_reads, known_tells}
use Rattle.er_rules.proofs.texts.read_suppressions.Goals as goal

pub returns-in_err-next_rule-clause-told : goal.returns-in_err-next_rule-clause-told
returns-in_err-next_rule-clause-told g c =
    let e = err_from_is_err_and c.from_residual-in_err-next_rule.result c.from_residual-in_err-next_rule.ensures.1 in
    rw (e.1, e.2) (known_tells _ c.args.byte_limit (Err c.in_err-next_rule.field-0.0) (search rules))

pub returns-clause-told : goal.returns-clause-told
returns-clause-told g c = known_reads _ c.args.byte_limit c.next_rule.new.is_second c.next_rule.new.rules (search rules)
