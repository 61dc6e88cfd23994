use Rattle.std.proofs.Common.{◌∙◌, is_some, ap, sym}
use Rattle.er_event.proofs.Results.{on_ok}
use Rattle.er_explain.specs.Racing.{is_race}
use Rattle.er_unordered.specs.declared.machine.OrderAnswer.{OrderAnswer}
use Rattle.er_unordered.proofs.StandingLemmas.{stands-on, answer-stands, rival-stands, names-race, beyond-after, room-after, once_ok, if_ok}
use Rattle.er_unordered.proofs.machine.OrderMachine.step.Goals as goal

pub returns-clause-answer : goal.returns-clause-answer
returns-clause-answer g c past tags touched stands here =
    if_ok c.take.result _ _ c.take.ensures.answered (λ answer is. ap (λ (a : OrderAnswer g.row.A.Denot). a.reply) is ∙ answer-stands tags touched c.args.self.now past c.args.step.now stands c.args.bytes here)

pub returns-clause-named : goal.returns-clause-named
returns-clause-named g c past tags touched stands here =
    if_ok c.take.result _ _ c.take.ensures.answered (λ answer is race. ap (λ (a : OrderAnswer g.row.A.Denot). a.rival) is
    ∙ rival-stands tags touched c.args.self.now past c.args.step.now stands c.args.bytes here (sym (ap (λ (a : OrderAnswer g.row.A.Denot). a.reply) is) ∙ race))

pub returns-clause-names : goal.returns-clause-names
returns-clause-names g c =
    if_ok c.take.result _ _ c.take.ensures.answered (λ answer is. ap (λ (a : OrderAnswer g.row.A.Denot). is_some a.rival) is
    ∙ names-race c.args.self.now c.args.step.now c.args.bytes ∙ sym (ap (λ (a : OrderAnswer g.row.A.Denot). is_race a.reply) is))

pub returns-clause-goes_on : goal.returns-clause-goes_on
returns-clause-goes_on g c past tags touched stands last here =
    on_ok c.take.result _ _ c.take.ensures.changes (λ changed. stands-on tags touched c.args.self.now past c.args.step.now stands c.args.bytes c.args.tag c.take.new.self last here changed)

pub returns-clause-limit : goal.returns-clause-limit
returns-clause-limit g c past tags touched stands limit is = beyond-after tags touched c.args.self.now past c.args.step.now stands limit (c.take.ensures.limit limit is)

pub returns-clause-room : goal.returns-clause-room
returns-clause-room g c past tags touched stands = once_ok c.take.result _ _ c.take.ensures.changes (λ changed. room-after tags touched c.args.self.now past c.args.step.now stands changed.room)
