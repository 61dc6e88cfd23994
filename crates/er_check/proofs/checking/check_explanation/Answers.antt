use Rattle.std.proofs.Common.{◌≡◌, ◌<◌, length, slice_get, Some, rules, sym, ap, ◌∙◌, arith}
use Rattle.std.proofs.lemmas.Option.{slice_get-get_or}
use Rattle.std.proofs.lemmas.Result.{IfOk-weaker}
use Rattle.er_model.specs.Explanations.{Explanation, word_of}
use Rattle.er_check.proofs.ExplainLemmas.{access-within, explains-names, agreeing-explains, explains-agrees}
use Rattle.er_check.proofs.checking.check_explanation.Goals as goal

pub returns-then-not-names_accesses-clause-accepts : goal.returns-then-not-names_accesses-clause-accepts
returns-then-not-names_accesses-clause-accepts c =
    let access : word_of (slice_get c.args.steps.now c.args.k) ≡ Some c.in-Some.word = sym c.word_at.ensures ∙ c.in-Some.is in
    λ explains. absurd (let is = c.names_accesses.ensures.1 (explains-names c.args.steps.now c.in-Some.word c.args.k c.era_of-start.result c.args.explanation.now access c.era_of-start.ensures explains) in cc)

pub offset_bounds-steps-explanation-inside : goal.offset_bounds-steps-explanation-inside
offset_bounds-steps-explanation-inside c =
    let access : word_of (slice_get c.args.steps.now c.args.k) ≡ Some c.in-Some.word = sym c.word_at.ensures ∙ c.in-Some.is in
    let within : c.explanation.inside.first < length c.args.steps.now =
    omega (arith, access-within c.args.steps.now c.in-Some.word c.args.k access, (c.names_accesses.ensures.0 c.if-not-names_accesses.false).first.high, ap (λ (e : Explanation). e.first) c.explanation.view_is) in
    search rules

pub bounds-steps-explanation-inside : goal.bounds-steps-explanation-inside
bounds-steps-explanation-inside c =
    let access : word_of (slice_get c.args.steps.now c.args.k) ≡ Some c.in-Some.word = sym c.word_at.ensures ∙ c.in-Some.is in
    omega (arith, access-within c.args.steps.now c.in-Some.word c.args.k access, (c.names_accesses.ensures.0 c.if-not-names_accesses.false).first.high, ap (λ (e : Explanation). e.first) c.explanation.view_is)

pub bounds-steps-explanation-inside-else-not-names_accesses :
    goal.bounds-steps-explanation-inside-else-not-names_accesses
bounds-steps-explanation-inside-else-not-names_accesses c =
    let access : word_of (slice_get c.args.steps.now c.args.k) ≡ Some c.in-Some.word = sym c.word_at.ensures ∙ c.in-Some.is in
    omega (arith, access-within c.args.steps.now c.in-Some.word c.args.k access, (c.names_accesses.ensures.0 c.if-not-names_accesses.false).first.high, ap (λ (e : Explanation). e.first) c.explanation.view_is)

pub all_agree-requires-clause-last : goal.all_agree-requires-clause-last
all_agree-requires-clause-last c =
    access-within c.args.steps.now c.in-Some.word c.args.k (sym c.word_at.ensures ∙ c.in-Some.is)

pub returns-clause-explains : goal.returns-clause-explains
returns-clause-explains c =
    let steps = c.args.steps.now in
    let e = c.args.explanation.now in
    let access : word_of (slice_get steps c.args.k) ≡ Some c.in-Some.word = sym c.word_at.ensures ∙ c.in-Some.is in
    let named = c.names_accesses.ensures.0 c.if-not-names_accesses.false in
    let same : c.explanation.inside.first ≡ e.first = ap (λ (x : Explanation). x.first) c.explanation.view_is in
    let within : c.explanation.inside.first < length steps = omega (arith, access-within steps c.in-Some.word c.args.k access, named.first.high, same) in
    let first = ap (slice_get steps) (sym same) ∙ slice_get-get_or steps c.explanation.inside.first c.index-steps-explanation.result within in
    let ends = sym c.latest.ensures ∙ c.if-latest-k.false in
    IfOk-weaker c.all_agree.result _ _
    (λ yes agrees is. agreeing-explains steps c.in-Some.word c.args.k c.era_of-start.result e access c.era_of-start.ensures _ first named ends (agrees.0 is))
    c.all_agree.ensures

pub returns-clause-accepts : goal.returns-clause-accepts
returns-clause-accepts c =
    let steps = c.args.steps.now in
    let e = c.args.explanation.now in
    let access : word_of (slice_get steps c.args.k) ≡ Some c.in-Some.word = sym c.word_at.ensures ∙ c.in-Some.is in
    let named = c.names_accesses.ensures.0 c.if-not-names_accesses.false in
    let same : c.explanation.inside.first ≡ e.first = ap (λ (x : Explanation). x.first) c.explanation.view_is in
    let within : c.explanation.inside.first < length steps = omega (arith, access-within steps c.in-Some.word c.args.k access, named.first.high, same) in
    let first = ap (slice_get steps) (sym same) ∙ slice_get-get_or steps c.explanation.inside.first c.index-steps-explanation.result within in
    λ explains. IfOk-weaker c.all_agree.result _ _
    (λ yes agrees. agrees.1 (explains-agrees steps c.in-Some.word c.args.k c.era_of-start.result e access c.era_of-start.ensures _ first explains))
    c.all_agree.ensures
