use Rattle.std.proofs.Common.{◌∙◌, ap, ◌++◌, ◌∷◌, []}
use Rattle.er_journal.specs.Inner.Briefs.{answers_of}
use Rattle.er_journal.proofs.AnswerListLemmas.{answers-push}
use Rattle.er_journal.proofs.answers.Answers.push.Goals as goal

pub returns-clause-ok : goal.returns-clause-ok
returns-clause-ok c =
    ap (answers_of c.brief_of.new.states.items) (c.push_reserved.ensures.items ∙ ap (λ bs. bs ++ c.in_ok-brief.brief ∷ []) c.in_ok-reserve.ensures.items)
    ∙ answers-push c.self.inside.states.items c.brief_of.new.states.items c.self.inside.briefs.items c.in_ok-brief.ensures.kept c.self.invariant c.args.answer c.in_ok-brief.brief c.in_ok-brief.ensures.ok
    ∙ ap (λ answers. answers ++ c.args.answer ∷ []) c.self.view_is
