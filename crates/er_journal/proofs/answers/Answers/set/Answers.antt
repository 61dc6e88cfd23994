use Rattle.std.proofs.Common.{◌∙◌, ap, set, arith, length}
use Rattle.er_journal.proofs.AnswerListLemmas.{answers-set, length-answers}
use Rattle.er_journal.proofs.answers.Answers.set.Goals as goal

pub index_mut-requires : goal.index_mut-requires
index_mut-requires c = omega (arith, c.requires, length-answers c.self.inside.states.items c.self.inside.briefs.items, ap length c.self.view_is)

pub returns-clause-ok : goal.returns-clause-ok
returns-clause-ok c =
    answers-set c.self.inside.states.items c.brief_of.new.states.items c.self.inside.briefs.items c.in_ok-self-inside.ensures.kept c.self.invariant c.args.at c.args.answer c.in_ok-self-inside.field-0 c.in_ok-self-inside.ensures.ok
    ∙ ap (λ answers. set answers c.args.at c.args.answer) c.self.view_is
