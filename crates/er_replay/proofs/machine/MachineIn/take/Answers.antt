use Rattle.std.proofs.Common.{◌∙◌, sym}
use Rattle.er_model.proofs.Prefixes.{stands-answer}
use Rattle.er_replay.specs.Standing.{holding, states}
use Rattle.er_replay.proofs.MachineLemmas.{stands-next}
use Rattle.er_replay.proofs.machine.MachineIn.take.Goals as goal

pub returns-clause-answer : goal.returns-clause-answer
returns-clause-answer g c past stands room =
    c.follow.ensures.answer room ∙ sym (stands-answer (holding c.args.self.now) (states c.args.self.now) past c.args.step stands)

pub returns-clause-goes_on : goal.returns-clause-goes_on
returns-clause-goes_on g c past stands room =
    stands-next (holding c.args.self.now) (holding c.follow.new.self) (states c.args.self.now) (states c.follow.new.self) past c.args.step
    (c.follow.ensures.holdings room) (c.follow.ensures.states room) stands

pub returns-clause-unchanged : goal.returns-clause-unchanged
returns-clause-unchanged g c past stands room same w =
    let next = stands-next (holding c.args.self.now) (holding c.follow.new.self) (states c.args.self.now) (states c.follow.new.self) past c.args.step
    (c.follow.ensures.holdings room) (c.follow.ensures.states room) stands in
    sym (next.1 w) ∙ (c.follow.ensures.same same w ∙ stands.1 w)
