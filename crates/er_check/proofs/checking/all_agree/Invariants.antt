use Rattle.std.proofs.Common.{◌≡◌, ◌<◌, ℕ}
use Rattle.er_held.specs.ThreadLocks.{held_by}
use Rattle.er_model.specs.Answers.{reading_of}
use Rattle.er_model.specs.Holdings.{holdings_at}
use Rattle.er_check.specs.Claims.{Agrees}
use Rattle.er_check.proofs.checking.all_agree.Given as goal

abbrev pub invariant-loop-at : goal.invariant-loop-at
invariant-loop-at l = record {
  held : (t : ℕ) → held_by l.locks t ≡ holdings_at l.steps t l.at;
  agrees : (i : ℕ) → i < l.at → Agrees l.word l.claims.start l.claims.first_thread l.claims.explanation.now i (reading_of l.steps i);
}
