-- Each report by itself. Of a part, and beside another report, the run hasn't stopped.
use Rattle.er_run.proofs.PassLemmas.{same-unstopped}
use Rattle.er_run.proofs.passes.reports_of.Goals as goal

pub returns-in-Err-clause-fault : goal.returns-in-Err-clause-fault
returns-in-Err-clause-fault c = λ asked told limit r trace locks orders. c.in-Err.ensures.fault c.args.options.now.part asked told limit r trace orders

pub returns-in-Ok-run_report-clause-built : goal.returns-in-Ok-run_report-clause-built
returns-in-Ok-run_report-clause-built c = λ asked r locks orders. record {
  lockset = c.in-Ok-run_report.ensures.built c.args.options.now.part asked r
      (same-unstopped c.args.options.now.part asked.analysis _ _ _ orders.there c.is_some-beside.ensures c.is_unstopped-unstopped.ensures) locks;
  unordered = c.in-Ok.ensures.built asked r orders;
}

pub returns-in-Err-run_report-clause-fault : goal.returns-in-Err-run_report-clause-fault
returns-in-Err-run_report-clause-fault c = λ asked told limit r trace locks orders.
    c.in-Err-run_report.ensures.fault c.args.options.now.part asked told limit r trace
    (same-unstopped c.args.options.now.part asked.analysis _ _ _ orders.there c.is_some-beside.ensures c.is_unstopped-unstopped.ensures) locks
