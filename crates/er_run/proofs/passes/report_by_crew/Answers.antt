-- What the workers stand for at the end of the text is the text's report.
use Rattle.std.proofs.Common.{ℕ, Bool, List, Option, refl, rules, subst}
use Rattle.er_batch.specs.Analysts.{Asked}
use Rattle.er_device.specs.Device.{inner_of}
use Rattle.er_report.specs.declared.reports.Analysis.TheVariants.{Lockset}
use Rattle.er_rules.specs.Rules.{targets_of}
use Rattle.er_run.specs.Inner.Inspected.{IsInspected}
use Rattle.er_run.specs.Inner.Outcomes.{asked_by}
use Rattle.er_run.specs.declared.fault.RunFault.TheVariants.{Read}
use Rattle.er_trace.specs.Trace.{no_steps}
use Rattle.er_run.proofs.OutcomeLemmas.{failed-outcome}
use Rattle.er_run.proofs.PassLemmas.{of-reading, only-whole}
use Rattle.er_run.proofs.passes.report_by_crew.Goals as goal

pub returns-in-Ok : goal.returns-in-Ok
returns-in-Ok g c =
    let told : Option (List ℕ) = g.D.Read.remaining (inner_of c.args.reader.now) in
    let asked : Asked = asked_by c.args.options.now (targets_of c.args.suppressions.now) Lockset (g.S.Shortcut.touches (inner_of c.args.reader.now)) in
    let seen : IsInspected c.new-inspection.result.inspector asked.strict no_steps = subst (λ (b : Bool). IsInspected c.new-inspection.result.inspector b no_steps) c.looks_for_damage.ensures c.new-inspection.ensures in
    record {
      replay = record {
        outcome = c.end_crew.ensures.outcome asked told c.args.options.now.byte_limit refl (only-whole c.args.options.now) (c.in-Ok.ensures.answered asked refl (c.in_ok-crew.ensures.stands asked refl refl, seen)) (c.in-Ok.ensures.ending asked refl (c.in_ok-crew.ensures.stands asked refl refl, seen));
        failed = search rules;
        taken = search rules;
      };
      whole = c.end_crew.ensures.whole;
    }

pub returns-in-Err : goal.returns-in-Err
returns-in-Err g c =
    let told : Option (List ℕ) = g.D.Read.remaining (inner_of c.args.reader.now) in
    let asked : Asked = asked_by c.args.options.now (targets_of c.args.suppressions.now) Lockset (g.S.Shortcut.touches (inner_of c.args.reader.now)) in
    let seen : IsInspected c.new-inspection.result.inspector asked.strict no_steps = subst (λ (b : Bool). IsInspected c.new-inspection.result.inspector b no_steps) c.looks_for_damage.ensures c.new-inspection.ensures in
    record {
      replay = record {
        outcome = failed-outcome c.args.options.now.part told c.args.options.now.byte_limit asked (Read c.in-Err.why) (of-reading c.args.options.now.part Lockset told c.args.options.now.byte_limit c.in-Err.why (c.in-Err.ensures.fault asked refl (c.in_ok-crew.ensures.stands asked refl refl, seen))) (λ lenient. tt);
        failed = search rules;
        taken = search rules;
      };
      whole = tt;
    }
