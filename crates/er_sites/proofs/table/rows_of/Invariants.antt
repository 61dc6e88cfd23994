use Rattle.er_sites.specs.Inner.Rows.{HasRowsBelow}
use Rattle.er_sites.proofs.table.rows_of.Given as goal

abbrev pub invariant-loop-site : goal.invariant-loop-site
invariant-loop-site l = HasRowsBelow l.names l.lines l.rows.items l.site
