use Rattle.std.proofs.Common.{arith}
use Rattle.er_sites.proofs.RowLemmas.{each_site}
use Rattle.er_sites.proofs.table.rows_of.Goals as goal

pub returns-clause-each : goal.returns-clause-each
returns-clause-each c = each_site c.args.names.now c.args.lines.now c.args.found.now.counts _ c.loop-site.site c.requires.counts c.loop-site.invariant (omega arith) (omega arith) (omega arith)
