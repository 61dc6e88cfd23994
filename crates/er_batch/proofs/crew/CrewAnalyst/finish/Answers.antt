-- The report of workers that have answered all steps is that of the definitions.
use Rattle.std.proofs.Common.{◌∙◌, Bool, List, [], None, Vec, Global, is_some, map, refl, ap, sym, subst}
use Rattle.er_batch.specs.Analysts.{CrewRan, HasCrewRun}
use Rattle.er_parallel.specs.declared.worker.Unusual.{Unusual}
use Rattle.er_report.specs.Report.{report_of}
use Rattle.er_rules.specs.Rules.{Target}
use Rattle.er_batch.proofs.CrewLemmas.{stopped-may}
use Rattle.er_batch.proofs.crew.CrewAnalyst.finish.Goals as goal

abbrev items_of : Vec Unusual Global → List Unusual
items_of items = items.items

pub returns-in-Ok-clause-report : goal.returns-in-Ok-clause-report
returns-in-Ok-clause-report c = λ asked r ran.
    let inside : CrewRan = record { holder = c.self.inside.holder; crew = c.self.inside.crew; items = map items_of c.self.inside.items.items; builder = c.self.inside.builder } in
    let run : HasCrewRun inside asked r = subst (λ (ran : CrewRan). HasCrewRun ran asked r) (sym c.self.view_is) ran in
    c.finish_explained.ensures.report r None (rw c.in-Ok.is at run.answered).1 refl
    ∙ ap (λ (rules : List Target). report_of r rules (is_some inside.builder.kept) None) run.rules
    ∙ ap (λ (explain : Bool). report_of r asked.rules explain None) run.explain

pub returns-in-Err-clause-fault : goal.returns-in-Err-clause-fault
returns-in-Err-clause-fault c = λ asked r ran.
    let inside : CrewRan = record { holder = c.self.inside.holder; crew = c.self.inside.crew; items = map items_of c.self.inside.items.items; builder = c.self.inside.builder } in
    let run : HasCrewRun inside asked r = subst (λ (ran : CrewRan). HasCrewRun ran asked r) (sym c.self.view_is) ran in
    stopped-may inside asked r [] run c.in-Err.why c.in-Err.is
