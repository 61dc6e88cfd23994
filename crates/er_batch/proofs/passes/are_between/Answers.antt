-- One more line is looked at.
use Rattle.std.proofs.Common.{◌≤◌, ◌<◌, ◌&&◌, ℕ, Bool, IsTrue, true, false, refl, sym, subst, arith, ⊎_elim, slice_index_or}
use Rattle.std.proofs.lemmas.Bool.{and_from, le-leb, leb-true, lt-ltb, ltb-true}
use Rattle.std.proofs.lemmas.List.{get_or_default}
use Rattle.er_model.proofs.Search.{below_or_at}
use Rattle.er_batch.proofs.passes.are_between.Goals as goal

all_three : (a b c : Bool) → IsTrue ((a && b) && c) → IsTrue a × IsTrue b × IsTrue c
all_three true true true is = (refl, refl, refl)
all_three true true false is = cc
all_three true false c is = cc
all_three false b c is = cc

pub loop-at-preserved : goal.loop-at-preserved
loop-at-preserved c = record {
  between = λ still k below.
      let parts = all_three _ _ _ still in
      ⊎_elim (λ low. c.loop-at.invariant.between parts.0 k low)
      (λ here.
      subst (λ (n : ℕ). (c.args.from ≤ slice_index_or c.args.lines.now n 0) × (slice_index_or c.args.lines.now n 0 < c.args.next)) (sym here)
      (leb-true c.args.from (slice_index_or c.args.lines.now c.loop-at.at 0) parts.1, ltb-true (slice_index_or c.args.lines.now c.loop-at.at 0) c.args.next parts.2))
      (below_or_at k c.loop-at.at (omega (arith, below)));
  only = λ within.
      let here = within c.loop-at.at (omega arith) in
      and_from _ _ (and_from _ _ (c.loop-at.invariant.only (λ k below. within k (omega (arith, below)))) (le-leb c.args.from _ here.0)) (lt-ltb _ c.args.next here.1);
}

pub returns-clause-between : goal.returns-clause-between
returns-clause-between c = λ said k d below.
    rw (get_or_default c.args.lines.now k d 0 below) (c.loop-at.invariant.between said k (omega (arith, below, c.loop-at-test.false)))

pub returns-clause-only : goal.returns-clause-only
returns-clause-only c = λ within. c.loop-at.invariant.only (λ k below. within k 0 (omega (arith, below, c.loop-at-test.false)))
