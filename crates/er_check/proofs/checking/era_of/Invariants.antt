use Rattle.std.proofs.Common.{◌≡◌, ◌≤◌, suc}
use Rattle.er_model.specs.Answers.{reading_of}
use Rattle.er_model.specs.Words.{era}
use Rattle.er_check.proofs.checking.era_of.Given as goal

abbrev pub invariant-loop-start : goal.invariant-loop-start
invariant-loop-start l = record {
  within : l.start ≤ suc l.k;
  same : era (reading_of l.steps) l.word l.start ≡ era (reading_of l.steps) l.word (suc l.k);
}

abbrev pub decreases-loop-start : goal.decreases-loop-start
decreases-loop-start l = l.start
