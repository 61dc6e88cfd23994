-- The five parts, one behind another.
use Rattle.std.proofs.Common.{codes, decimal}
use Rattle.er_print.proofs.DigitLemmas.{put_five}
use Rattle.er_print.specs.Styles.{escaped_text}
use Rattle.er_json.specs.Sarif.{rule_front, taken_text}
use Rattle.er_json.proofs.suppressed.put_taken.Goals as goal

pub returns : goal.returns
unfolding taken_text
returns c =
    put_five _ _ _ _ _ _ (rule_front c.args.of) (codes "suppressed\",\"level\":\"error\",\"message\":{\"text\":\"Races that a rule takes: ") (escaped_text c.args.rule.now)
    (codes "\"},\"occurrenceCount\":") (decimal c.args.count) (rw c.rule_front.ensures at c.in_ok-extend_from_slice.ensures.items) c.in_ok-extend_from_slice-2.ensures.items
    c.in_ok-put_escaped.ensures c.in_ok-extend_from_slice-3.ensures.items c.in_ok-put_number.ensures
