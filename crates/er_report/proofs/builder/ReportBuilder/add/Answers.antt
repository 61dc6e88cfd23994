use Rattle.std.proofs.Common.{◌≡◌, ◌∙◌, true, false, ◌++◌, ◌∷◌, ◌&&◌, ℕ, [], Bool, cond, is_none, List, Option, Result, Ok, Err, OnOk, refl, sym, ap, subst}
use Rattle.std.proofs.lemmas.List.{append-nil}
use Rattle.std.specs.declared.alloc.AllocError.{AllocError}
use Rattle.er_event.specs.declared.refusals.Refusal.{Refusal}
use Rattle.er_event.specs.declared.steps.Reply.{Reply}
use Rattle.er_explain.specs.Racing.{is_race}
use Rattle.er_journal.specs.AnswerList.{shown}
use Rattle.er_report.specs.Builder.{Built, IsBuiltBy}
use Rattle.er_report.specs.Inner.Adding.{with_answer}
use Rattle.er_report.specs.Report.{told}
use Rattle.er_rules.specs.Rules.{targets_of}
use Rattle.er_report.proofs.BuilderLemmas.{built-next}
use Rattle.er_report.proofs.builder.ReportBuilder.add.Goals as goal

pub returns-then-is_printed-clause-built_by : goal.returns-then-is_printed-clause-built_by
returns-then-is_printed-clause-built_by c = λ a r k built at.
    let given : Result Reply Refusal = shown c.args.answer in
    let races : List ℕ = c.self.inside.races.items in
    let place : ℕ = c.self.inside.report.steps in
    let before : Built = record { report = told c.self.inside.report; races = races; rules = targets_of c.self.inside.rules.now; kept = c.self.inside.explainer } in
    let printed : (is_race given && is_none c.first_rule-rule.result) ≡ true = sym c.is_printed.ensures ∙ c.if-is_printed.true in
    built-next a before _ r k c.args.names.now c.args.line c.args.site c.args.step.now given c.args.held.now
    (subst (λ (builder : Built). IsBuiltBy a builder r k) (sym c.self.view_is) built) at refl
    (c.in_ok-add_step.ensures.ok ∙ ap (with_answer before.report c.args.line c.args.site c.args.held.now c.args.step.now given) c.first_rule-rule.ensures.value)
    (c.push_reserved.ensures.items
    ∙ ap (λ (before : List ℕ). before ++ place ∷ []) c.in_ok-reserve.ensures.items
    ∙ ap (λ (b : Bool). races ++ cond b (place ∷ []) []) (sym printed)
    ∙ ap (λ (rule : Option ℕ). races ++ cond (is_race given && is_none rule) (place ∷ []) []) c.first_rule-rule.ensures.value)

pub returns-clause-built_by : goal.returns-clause-built_by
returns-clause-built_by c = λ a r k built at.
    let given : Result Reply Refusal = shown c.args.answer in
    let races : List ℕ = c.self.inside.races.items in
    let place : ℕ = c.self.inside.report.steps in
    let before : Built = record { report = told c.self.inside.report; races = races; rules = targets_of c.self.inside.rules.now; kept = c.self.inside.explainer } in
    let printed : (is_race given && is_none c.first_rule-rule.result) ≡ false = sym c.is_printed.ensures ∙ c.if-is_printed.false in
    built-next a before _ r k c.args.names.now c.args.line c.args.site c.args.step.now given c.args.held.now
    (subst (λ (builder : Built). IsBuiltBy a builder r k) (sym c.self.view_is) built) at refl
    (c.in_ok-add_step-2.ensures.ok ∙ ap (with_answer before.report c.args.line c.args.site c.args.held.now c.args.step.now given) c.first_rule-rule.ensures.value)
    (sym (append-nil races)
    ∙ ap (λ (b : Bool). races ++ cond b (place ∷ []) []) (sym printed)
    ∙ ap (λ (rule : Option ℕ). races ++ cond (is_race given && is_none rule) (place ∷ []) []) c.first_rule-rule.ensures.value)

on_ok : {P Q : Type 0} → (made : Result (Unit {0}) AllocError) → (P → Q) → OnOk made P → OnOk made Q
on_ok (Ok _) f p = f p
on_ok (Err _) f p = tt

pub returns-in-Refused-clause-built_by : goal.returns-in-Refused-clause-built_by
returns-in-Refused-clause-built_by c = λ a r k built at.
    let given : Result Reply Refusal = Err c.in-Refused.refusal in
    let races : List ℕ = c.self.inside.races.items in
    let before : Built = record { report = told c.self.inside.report; races = races; rules = targets_of c.self.inside.rules.now; kept = c.self.inside.explainer } in
    on_ok c.add_refused.result (λ added. built-next a before _ r k c.args.names.now c.args.line c.args.site c.args.step.now given c.args.held.now
    (subst (λ (builder : Built). IsBuiltBy a builder r k) (sym c.self.view_is) built) (rw c.in-Refused.is at at) refl added (sym (append-nil races)))
    c.add_refused.ensures.ok
