-- What the pass stands for at the end of the text is the text's reports.
use Rattle.std.proofs.Common.{◌∙◌, ℕ, List, Option, refl, rules}
use Rattle.er_batch.specs.Analysts.{Asked}
use Rattle.er_device.specs.Device.{inner_of}
use Rattle.er_rules.specs.Rules.{targets_of}
use Rattle.er_run.specs.Inner.Outcomes.{asked_by}
use Rattle.er_run.specs.declared.fault.RunFault.TheVariants.{Read}
use Rattle.er_run.proofs.OutcomeLemmas.{failed-outcome}
use Rattle.er_run.proofs.PassLemmas.{alone-unordered, alone-whole, of-reading, only-whole}
use Rattle.er_run.proofs.passes.reports_by_one.Goals as goal

pub returns-in-Ok : goal.returns-in-Ok
returns-in-Ok g c =
    let told : Option (List ℕ) = g.D.Read.remaining (inner_of c.args.reader.now) in
    let asked : Asked = asked_by c.args.options.now (targets_of c.args.suppressions.now) c.args.analysis (g.S.Shortcut.touches (inner_of c.args.reader.now)) in
    let stands = c.in_ok-all.ensures.stands asked refl refl refl refl in
    let all = c.in-Ok.ensures.answered asked refl stands in
    record {
      replay = record {
        outcome = c.end.ensures.outcome asked told c.args.options.now.byte_limit (only-whole c.args.options.now) all (c.in-Ok.ensures.ending asked refl stands);
        failed = search rules;
        taken = search rules;
      };
      alone = λ none. c.end.ensures.alone (alone-whole c.args.options.now.part c.args.analysis none) (all.stands.0.0.1.there ∙ alone-unordered c.args.options.now.part c.args.analysis none);
      one = λ none. c.end.ensures.one (all.stands.0.0.1.there ∙ none);
    }

pub returns-in-Err : goal.returns-in-Err
returns-in-Err g c =
    let told : Option (List ℕ) = g.D.Read.remaining (inner_of c.args.reader.now) in
    let asked : Asked = asked_by c.args.options.now (targets_of c.args.suppressions.now) c.args.analysis (g.S.Shortcut.touches (inner_of c.args.reader.now)) in
    let stands = c.in_ok-all.ensures.stands asked refl refl refl refl in
    record {
      replay = record {
        outcome = failed-outcome c.args.options.now.part told c.args.options.now.byte_limit asked (Read c.in-Err.why) (of-reading c.args.options.now.part asked.analysis told c.args.options.now.byte_limit c.in-Err.why (c.in-Err.ensures.fault asked refl stands)) (λ lenient. tt);
        failed = search rules;
        taken = search rules;
      };
      alone = λ none. tt;
      one = λ none. tt;
    }
