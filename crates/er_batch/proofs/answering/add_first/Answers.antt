-- The steps that have nothing to say are added first, and then the step behind them, which begins its word's book.
use Rattle.std.proofs.Common.{◌∙◌, ◌+◌, is_some, sym, ap}
use Rattle.er_model.specs.Answers.{answer}
use Rattle.er_report.specs.Builder.{IsBuilt, IsReported}
use Rattle.er_batch.proofs.LagLemmas.{kept-on, lags-end, one-plain}
use Rattle.er_batch.proofs.answering.add_first.Goals as goal

pub returns-clause-reported : goal.returns-clause-reported
unfolding IsBuilt
returns-clause-reported c r n lags here line plain begins =
    let before : IsReported c.add_plain.new.self r n = lags-end c.args.builder.now c.add_plain.new.self r n c.args.plain lags c.add_plain.ensures.reported in
    let built : IsBuilt c.add_plain-2.new.self r (n + 1) = c.add_plain-2.ensures.built_by (answer r.steps) r n before.built (one-plain r.steps n plain) in
    c.explain_first.ensures.explained r n built (kept-on c.add_plain.new.self c.add_plain-2.new.self r n c.add_plain-2.ensures.kept c.add_plain-2.ensures.rules before.explained) here line plain
    (λ wanted. begins (ap (λ o. is_some o) (sym (c.add_plain-2.ensures.kept ∙ c.add_plain.ensures.kept)) ∙ wanted))
