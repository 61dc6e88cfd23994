-- The step that was added last has no line, and begins its word's book if reasons are wanted.
use Rattle.std.proofs.Common.{◌∙◌, ◌+◌, Option, is_some, IfSome, sym, ap, subst}
use Rattle.er_report.specs.Builder.{Built, IsBuilt, IsExplained, IsReported}
use Rattle.er_report.specs.Kept.{Kept, Follows}
use Rattle.er_report.specs.Report.{told}
use Rattle.er_report.specs.declared.builder.ReportBuilder.TheInside.{Inside}
use Rattle.er_rules.specs.Rules.{targets_of}
use Rattle.er_report.proofs.KeptLemmas.{plain-unprinted}
use Rattle.er_report.proofs.builder.ReportBuilder.explain_first.Goals as goal
use Rattle.er_report.proofs.builder.ReportBuilder.explain_first.Goals.{in-Some+in_ok-begin, in_default}

-- what contracts see of the fields
abbrev seen : Inside → Built
seen inside = record { report = told inside.report; races = inside.races.items; rules = targets_of inside.rules.now; kept = inside.explainer }

pub returns-clause-explained : goal.returns-clause-explained
unfolding IsBuilt
returns-clause-explained c = λ r k built explained here number plain begins.
    let before : Built = seen c.self.inside in
    let was_built : IsBuilt before r (k + 1) = subst (λ (builder : Built). IsBuilt builder r (k + 1)) (sym c.self.view_is) built in
    let was_explained : IsExplained before r k = subst (λ (builder : Built). IsExplained builder r k) (sym c.self.view_is) explained in
    elim c.match-self.branch [
      | in-Some+in_ok-begin w ↦
          let follows : Follows w.in-Some.explainer r before.rules k = subst (λ (o : Option Kept). IfSome o (λ kept. Follows kept r before.rules k)) w.in-Some.is was_explained in
          subst (λ inside. IsReported (seen inside) r (k + 1)) (sym w.self-inside-is)
          (record {
            built = record { report = was_built.report; races = was_built.races };
            explained = w.in_ok-begin.ensures r before.rules k follows here number
                (begins (ap (λ (builder : Built). is_some builder.kept) (sym c.self.view_is) ∙ ap (λ (o : Option Kept). is_some o) w.in-Some.is)) (plain-unprinted r before.rules k plain);
          })
      | in_default w ↦
          subst (λ inside. IsReported (seen inside) r (k + 1)) (sym w.self-inside-is)
          (record {
            built = record { report = was_built.report; races = was_built.races };
            explained = subst (λ (o : Option Kept). IfSome o (λ kept. Follows kept r before.rules (k + 1))) (sym w.in_default.is) tt;
          })
    ]
