use Rattle.std.proofs.Common.{◌+◌, ℕ, IsTrue, is_some, refl, sym, subst}
use Rattle.er_model.specs.Answers.{answer}
use Rattle.er_report.specs.Builder.{Built, IsBuilt, IsBuiltBy, IsReported, KeepStates}
use Rattle.er_report.specs.Report.{told}
use Rattle.er_report.specs.declared.builder.ReportBuilder.TheInside.{Inside}
use Rattle.er_rules.specs.Rules.{targets_of}
use Rattle.er_report.proofs.PlainLemmas.{built-plain, reported-plain}
use Rattle.er_report.proofs.builder.ReportBuilder.add_plain.Goals as goal

-- what contracts see of the fields, with so many steps
abbrev seen : Inside → ℕ → Built
seen inside steps =
    record { report = record (told inside.report) { steps = steps }; races = inside.races.items; rules = targets_of inside.rules.now; kept = inside.explainer }

pub returns-clause-built_by : goal.returns-clause-built_by
returns-clause-built_by c = λ a r k built plain.
    let before : Built = seen c.self.inside c.self.inside.report.steps in
    let after : Built = seen c.self.inside (c.self.inside.report.steps + c.args.count) in
    built-plain a before after r k c.args.count (subst (λ (builder : Built). IsBuiltBy a builder r k) (sym c.self.view_is) built) plain refl refl refl

pub returns-clause-reported : goal.returns-clause-reported
unfolding IsBuilt
returns-clause-reported c = λ r k reported plain keep.
    let before : Built = seen c.self.inside c.self.inside.report.steps in
    let after : Built = seen c.self.inside (c.self.inside.report.steps + c.args.count) in
    let was : IsReported before r k = subst (λ (builder : Built). IsReported builder r k) (sym c.self.view_is) reported in
    reported-plain before after r k c.args.count was plain (subst (λ (builder : Built). IsTrue (is_some builder.kept) → KeepStates r.steps k c.args.count) (sym c.self.view_is) keep) refl refl
    (built-plain (answer r.steps) before after r k c.args.count was.built plain refl refl refl)
