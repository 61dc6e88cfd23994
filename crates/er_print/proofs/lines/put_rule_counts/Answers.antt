-- The next rule's line is put, and its count is no longer to come.
use Rattle.std.proofs.Common.{◌≡◌, ◌+◌, ◌++◌, slice_index, append_assoc, arith}
use Rattle.er_print.proofs.CountLemmas.{counts_more}
use Rattle.er_print.specs.Printed.{count_text}
use Rattle.er_print.proofs.lines.put_rule_counts.Goals as goal

pub loop-k-preserved : goal.loop-k-preserved
loop-k-preserved c =
    let put : c.extend_from_slice.new.self.items ≡ c.loop-k.out.items ++ count_text (c.loop-k.k + 1) (slice_index c.args.rule_counts.now c.loop-k.k) =
    rw (c.in_ok-extend_from_slice.ensures.items, c.in_ok-put_labelled-2.ensures, c.in_ok-put_labelled.ensures) (simp append_assoc) in
    counts_more c.loop-k.out.items c.extend_from_slice.new.self.items _ c.args.rule_counts.now c.loop-k.k (omega arith) put c.loop-k.invariant
