-- The counts are those of the report.
use Rattle.std.proofs.Common.{◌≡◌, ◌++◌}
use Rattle.std.proofs.lemmas.Result.{on_ok_weaker}
use Rattle.er_print.proofs.DigitLemmas.{put_three}
use Rattle.er_print.specs.Printed.{counts_text}
use Rattle.er_print.proofs.lines.put_end.Goals as goal

pub returns : goal.returns
returns c =
    let counts : c.put_rule_counts.new.out.items ≡ c.put_stop.new.out.items ++ counts_text 1 c.args.report.now.rule_counts.items = rw c.deref.ensures.value at c.in_ok-put_rule_counts.ensures in
    on_ok_weaker c.put_totals.result (put_three c.args.out.now.items _ _ _ _ _ _ c.in_ok-put_stop.ensures counts) c.put_totals.ensures
