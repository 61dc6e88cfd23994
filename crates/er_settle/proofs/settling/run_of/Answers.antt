-- One step and one reply more in each turn.
use Rattle.std.proofs.Common.{◌∙◌, ap}
use Rattle.er_journal.specs.Entries.{Call}
use Rattle.er_settle.specs.Runs.{TurnShown}
use Rattle.er_settle.proofs.ListLemmas.{map_one_more, map_no_more}
use Rattle.er_settle.proofs.settling.run_of.Goals as goal

pub loop-turn-preserved : goal.loop-turn-preserved
loop-turn-preserved c = record {
  steps = map_one_more (λ (a : TurnShown). record { thread = a.thread; event = a.call.event }) _ _ c.args.turns.now _ c.turn-item.result _ c.loop-turn-test.true c.turn-item.is
      c.loop-turn.invariant.steps c.in_ok-push.ensures.items
      (λ i. record { thread = ap (λ (a : TurnShown). a.thread) c.turn.view_is i; event = (c.event.ensures ∙ ap (λ (call : Call). call.event) (ap (λ (a : TurnShown). a.call) c.turn.view_is)) i });
  replies = map_one_more (λ (a : TurnShown). a.call.reply) _ _ c.args.turns.now _ c.turn-item.result _ c.loop-turn-test.true c.turn-item.is
      c.loop-turn.invariant.replies c.in_ok-push-2.ensures.items
      (cc (c.reply-in-loop-turn.ensures, c.reply.ensures, ap (λ (a : TurnShown). a.call) c.turn.view_is));
}

pub returns-clause-steps : goal.returns-clause-steps
returns-clause-steps c = map_no_more (λ (a : TurnShown). record { thread = a.thread; event = a.call.event }) _ c.args.turns.now _ c.loop-turn-test.false c.loop-turn.invariant.steps

pub returns-clause-replies : goal.returns-clause-replies
returns-clause-replies c = map_no_more (λ (a : TurnShown). a.call.reply) _ c.args.turns.now _ c.loop-turn-test.false c.loop-turn.invariant.replies
