-- The steps that have nothing to say are added first, and then the step behind them, which is explained.
use Rattle.std.proofs.Common.{◌∙◌, is_some, sym, ap}
use Rattle.er_model.specs.Answers.{answer}
use Rattle.er_report.specs.Builder.{is_plain, IsBuilt, IsReported}
use Rattle.er_batch.proofs.LagLemmas.{kept-on, lags-end}
use Rattle.er_batch.proofs.answering.add_behind.Goals as goal

pub returns-then-is_plain-clause-reported : goal.returns-then-is_plain-clause-reported
returns-then-is_plain-clause-reported c r n lags at covers =
    c.add_reason.ensures.reported r n lags at.here at.line (ap is_plain (sym at.answered) ∙ (sym c.is_plain.ensures ∙ c.if-is_plain.true)) covers

pub returns-clause-reported : goal.returns-clause-reported
unfolding IsBuilt
returns-clause-reported c r n lags at covers =
    let before : IsReported c.add_plain.new.self r n = lags-end c.args.builder.now c.add_plain.new.self r n c.args.plain lags c.add_plain.ensures.reported in
    let adds = rw c.view_of.ensures at (c.in_ok-add.ensures.built_by (answer r.steps) r n) in
    c.explain.ensures.explained r n (adds before.built at) (kept-on c.add_plain.new.self c.add.new.self r n c.in_ok-add.ensures.kept c.in_ok-add.ensures.rules before.explained) at.here at.line
    (λ wanted. covers (ap (λ o. is_some o) (sym (c.in_ok-add.ensures.kept ∙ c.add_plain.ensures.kept)) ∙ wanted))
