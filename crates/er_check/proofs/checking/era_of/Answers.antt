use Rattle.std.proofs.Common.{◌≡◌, ◌-◌, suc, sym, arith, ◌∙◌}
use Rattle.std.proofs.lemmas.Option.{slice_get-get_or}
use Rattle.er_check.proofs.EraLemmas.{era-after, era-before, era-start}
use Rattle.er_check.proofs.checking.era_of.Goals as goal

pub returns-then-is_reuse : goal.returns-then-is_reuse
returns-then-is_reuse c =
    let here = slice_get-get_or c.args.steps.now (c.loop-start.start - 1) c.index-steps-start.result (omega arith) in
    let next : suc (c.loop-start.start - 1) ≡ c.loop-start.start = omega arith in
    let after = era-after c.args.steps.now c.args.word (c.loop-start.start - 1) _ here (sym c.is_reuse.ensures ∙ c.if-is_reuse.true) in
    sym (rw next at after) ∙ c.loop-start.invariant.same

pub loop-start-preserved : goal.loop-start-preserved
loop-start-preserved c =
    let here = slice_get-get_or c.args.steps.now (c.loop-start.start - 1) c.index-steps-start.result (omega arith) in
    let next : suc (c.loop-start.start - 1) ≡ c.loop-start.start = omega arith in
    let before = era-before c.args.steps.now c.args.word (c.loop-start.start - 1) _ here (sym c.is_reuse.ensures ∙ c.if-is_reuse.false) in
    record { within = omega arith; same = sym (rw next at before) ∙ c.loop-start.invariant.same }

pub returns : goal.returns
returns c =
    let none : c.loop-start.start ≡ 0 = omega (arith, c.loop-start-test.false) in
    none ∙ sym (era-start c.args.steps.now c.args.word) ∙ (rw none at c.loop-start.invariant.same)
