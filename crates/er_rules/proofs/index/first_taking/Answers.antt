use Rattle.std.proofs.Common.{◌≡◌, ◌∙◌, [], true, false, Some, sym, ap, refl, subst, string_bytes}
use Rattle.er_rules.specs.declared.index.Pattern.{Pattern}
use Rattle.er_rules.specs.Patterns.{pattern_takes}
use Rattle.er_rules.proofs.IndexLemmas.{taking-all, taking-found, taking-more, taking-none}
use Rattle.er_rules.proofs.index.first_taking.Goals as goal

pub loop-pattern-init : goal.loop-pattern-init
loop-pattern-init c = taking-none [] (Some c.args.name.now) refl

pub returns-then-pattern_takes : goal.returns-then-pattern_takes
returns-then-pattern_takes c =
    let d = c.pattern-item.result in
    let takes : pattern_takes (string_bytes d.bytes) c.args.name.now ≡ true = sym (c.pattern_takes.ensures ∙ ap (λ b. pattern_takes b c.args.name.now) c.as_bytes.ensures.value) ∙ c.if-pattern_takes.true in
    ap (λ (p : Pattern). Some p.rule) c.pattern-item.is
    ∙ taking-found c.args.patterns.now c.loop-pattern.pattern-index (Some c.args.name.now) d c.loop-pattern-test.true c.loop-pattern.invariant
    (subst (λ (p : Pattern). pattern_takes (string_bytes p.bytes) c.args.name.now ≡ true) c.pattern-item.is takes)

pub loop-pattern-preserved : goal.loop-pattern-preserved
loop-pattern-preserved c =
    let d = c.pattern-item.result in
    let fails : pattern_takes (string_bytes d.bytes) c.args.name.now ≡ false = sym (c.pattern_takes.ensures ∙ ap (λ b. pattern_takes b c.args.name.now) c.as_bytes.ensures.value) ∙ c.if-pattern_takes.false in
    taking-more c.args.patterns.now c.loop-pattern.pattern-index (Some c.args.name.now) d c.loop-pattern-test.true c.loop-pattern.invariant
    (subst (λ (p : Pattern). pattern_takes (string_bytes p.bytes) c.args.name.now ≡ false) c.pattern-item.is fails)

pub returns : goal.returns
returns c = taking-all c.args.patterns.now c.loop-pattern.pattern-index (Some c.args.name.now) c.loop-pattern-test.false c.loop-pattern.invariant
