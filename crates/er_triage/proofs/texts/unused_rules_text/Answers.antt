-- The next rule's line is put, and is no longer to come.
use Rattle.std.proofs.Common.{◌≡◌, ◌<◌, ◌+◌, ◌++◌, ◌∙◌, cond, [], List, length, get_or}
use Rattle.er_rules.specs.Rules.{target_of}
use Rattle.er_rules.specs.declared.rules.Rule.{Rule}
use Rattle.er_triage.specs.Texts.{is_unused, unused_text}
use Rattle.er_triage.proofs.UnusedLemmas.{unused_more}
use Rattle.er_triage.proofs.texts.unused_rules_text.Goals as goal

pub loop-place-preserved : goal.loop-place-preserved
loop-place-preserved c =
    let rules : List Rule = c.args.suppressions.now.rules.items in
    let within : c.loop-place.place < length rules = rw c.deref-rule-items.ensures.value at c.loop-place-test.true in
    let item : c.rule-item.result ≡ get_or rules c.loop-place.place c.rule-item.result = rw c.deref-rule-items.ensures.value at c.rule-item.is in
    let put : c.put_if_unused.new.out.items ≡ c.loop-place.text.items ++ cond (is_unused c.args.reports.now c.loop-place.place) (unused_text (c.loop-place.place + 1) (target_of (get_or rules c.loop-place.place c.rule-item.result))) [] =
    c.in_ok-put_if_unused.ensures ∙ (λ i. c.loop-place.text.items ++ cond (c.is_unused.ensures i) (unused_text (c.loop-place.place + 1) (target_of (item i))) []) in
    unused_more c.loop-place.text.items c.put_if_unused.new.out.items _ c.args.reports.now rules c.loop-place.place c.rule-item.result within put c.loop-place.invariant
