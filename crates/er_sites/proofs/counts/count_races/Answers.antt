-- One line more.
use Rattle.std.proofs.Common.{arith}
use Rattle.er_sites.proofs.CountLemmas.{counts_next, counts_room}
use Rattle.er_sites.proofs.counts.count_races.Goals as goal

pub count-requires : goal.count-requires
count-requires c = counts_room c.args.lines.now c.loop-line.line-index c.loop-line.counts c.loop-line-test.true (omega arith) c.loop-line.invariant

pub loop-line-preserved : goal.loop-line-preserved
loop-line-preserved c =
    let e = c.in_ok-count.ensures in
    counts_next c.args.lines.now c.loop-line.line-index c.line-item.result c.loop-line.counts c.count.new.self c.loop-line-test.true c.line-item.is c.loop-line.invariant e.reads e.writes e.reuses
    (e.few_reads c.loop-line.invariant.few_reads) (e.few_writes c.loop-line.invariant.few_writes) (e.few_reuses c.loop-line.invariant.few_reuses)
