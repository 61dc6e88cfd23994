-- Each piece was written behind those before it.
use Rattle.std.proofs.Common.{◌∙◌, rules, refl}
use Rattle.eraser.proofs.PrintLemmas.{passed-all, passed-more, passed-none, passed-some, passed-torn}
use Rattle.eraser.proofs.traces.print_text.Goals as goal

pub loop-init : goal.loop-init
loop-init g c = record { passed = passed-none _ _; working = c.requires.output; room = refl }

pub loop-preserved : goal.loop-preserved
loop-preserved g c = record {
  passed = passed-more _ _ _ _ _ _ _ c.loop.invariant.passed c.in-Ok.ensures.bytes.0 c.in-Ok-write_all.ensures.bytes;
  working = c.in-Ok-write_all.ensures.failed ∙ c.loop.invariant.working;
  room = search rules;
}

pub returns-in_default-clause-text : goal.returns-in_default-clause-text
returns-in_default-clause-text g c = passed-some _ _ _ _ c.loop.invariant.passed

pub returns-then-count-eq0-clause-text : goal.returns-then-count-eq0-clause-text
returns-then-count-eq0-clause-text g c =
    passed-all _ _ _ _ _ c.in-Ok.count c.read.new.buffer c.loop.invariant.passed c.in-Ok.ensures.bytes.0 c.if-count-eq0.true (c.in-Ok.ensures.bytes.1 c.if-count-eq0.true (search rules))

pub returns-in_default-write_all-clause-text : goal.returns-in_default-write_all-clause-text
returns-in_default-write_all-clause-text g c = passed-torn _ _ _ _ _ _ _ c.loop.invariant.passed c.in-Ok.ensures.bytes.0 c.in_default-write_all.ensures.bytes

pub returns-clause-text : goal.returns-clause-text
returns-clause-text g c = passed-some _ _ _ _ c.loop.invariant.passed
