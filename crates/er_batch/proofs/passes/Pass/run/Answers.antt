-- A fault of a turn is one of the text from where the pass began.
use Rattle.std.proofs.Common.{ℕ, [], rules, subst}
use Rattle.er_batch.proofs.TouchLemmas.{tells-on}
use Rattle.er_batch.specs.Analysts.{IsFaultOfReading}
use Rattle.er_batch.specs.Inner.Passes.{HasEnded, StandsFor}
use Rattle.er_batch.proofs.passes.Pass.run.Goals as goal

pub returns-in_err-turn-clause-fault : goal.returns-in_err-turn-clause-fault
returns-in_err-turn-clause-fault g c = λ asked told tells come.
    let known : IsFaultOfReading told c.args.self.now.lines.place.limit c.in_err-turn.field-0.0 =
    rw c.loop-watcher.invariant.limit at (c.in_err-turn.ensures.fault asked told (tells-on asked.touches _ _ _ _ _ _ c.loop-watcher.invariant.tells tells) (c.loop-watcher.invariant.come asked told tells come)) in
    search rules

pub returns-clause-ends : goal.returns-clause-ends
returns-clause-ends g c = λ asked told tells come. c.in_ok-turn.ensures.ends asked told (tells-on asked.touches _ _ _ _ _ _ c.loop-watcher.invariant.tells tells) (c.loop-watcher.invariant.come asked told tells come) c.if-branch.false

pub returns-clause-ended : goal.returns-clause-ended
returns-clause-ended g c = λ asked told tells come.
    subst (λ (n : ℕ). HasEnded (StandsFor c.turn.new.self.part (λ r. g.A.Analyst.stands c.turn.new.self.analyst asked r []) c.turn.new.self.of_pages) told n c.turn.new.self.trace.names) c.loop-watcher.invariant.limit
    (c.in_ok-turn.ensures.ended asked told (tells-on asked.touches _ _ _ _ _ _ c.loop-watcher.invariant.tells tells) (c.loop-watcher.invariant.come asked told tells come) c.if-branch.false)

pub loop-watcher-preserved : goal.loop-watcher-preserved
loop-watcher-preserved g c = record {
  part = search rules;
  unfailed = search rules;
  limit = search rules;
  taken = search rules;
  tells = λ all tells. c.in_ok-turn.ensures.touches all (c.loop-watcher.invariant.tells all tells);
  come = λ asked told tells come.
      c.in_ok-turn.ensures.come asked told (tells-on asked.touches _ _ _ _ _ _ c.loop-watcher.invariant.tells tells) (c.loop-watcher.invariant.come asked told tells come) c.if-branch.true;
  formed = c.in_ok-turn.ensures.formed;
}
