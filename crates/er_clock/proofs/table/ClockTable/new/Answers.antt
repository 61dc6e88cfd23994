use Rattle.er_clock.proofs.TableLemmas.{count_empty}
use Rattle.er_clock.proofs.table.ClockTable.new.Goals as goal

pub returns : goal.returns
returns c n u = count_empty c.with_hasher.result.entries n u c.with_hasher.ensures.empty
