-- Each line that was added is one less to come, and the first that was not is the fault.
use Rattle.std.proofs.Common.{◌∙◌, refl, sym, arith}
use Rattle.er_merge.proofs.PartLemmas.{next_line, wrong_line}
use Rattle.er_merge.proofs.parts.read_content.Goals as goal

pub returns-in-Ok-Some : goal.returns-in-Ok-Some
returns-in-Ok-Some c = (refl, sym c.loop-next.invariant.same ∙ wrong_line _ _ _ _ _ _ c.in-Some.ensures.0 (rw c.in-Ok-Some.field-0-is at c.in-Ok-Some.ensures))

pub loop-next-preserved : goal.loop-next-preserved
loop-next-preserved c = record {
  same = sym (next_line _ _ _ _ _ _ c.in-Some.ensures.0 (rw c.in-Ok-None.field-0-is at c.in-Ok-None.ensures)) ∙ c.loop-next.invariant.same;
  room = let shorter = c.in-Some.ensures.1 in let before = c.loop-next.invariant.room in omega (arith, shorter, before);
}
