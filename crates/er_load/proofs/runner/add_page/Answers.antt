use Rattle.std.proofs.Common.{◌*◌, ◌++◌, ap, ◌∙◌}
use Rattle.er_event.specs.Span.{Span}
use Rattle.er_event.specs.declared.steps.Kind.TheVariants as kind
use Rattle.er_load.specs.declared.runner.Action.TheVariants.{Reuse}
use Rattle.er_load.specs.Inner.Scripts.{events_by, events_in_all}
use Rattle.er_load.specs.Workloads.{each_word}
use Rattle.er_load.proofs.ScriptLemmas.{and-one}
use Rattle.er_load.proofs.runner.add_page.Goals as goal

pub returns : goal.returns
returns c =
    and-one c.args.script.now.items _ _ (Reuse c.whole_page.result) (each_word kind.Write (1024 * c.args.number) 8) c.in_ok-add_words.ensures c.in_ok-push.ensures.items
    ∙ ap (λ (s : Span). events_in_all c.args.script.now.items ++ (each_word kind.Write (1024 * c.args.number) 8 ++ events_by (Reuse s))) c.whole_page.ensures
