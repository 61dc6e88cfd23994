use Rattle.std.proofs.Common.{◌∙◌, ap, take}
use Rattle.er_journal.specs.Inner.Briefs.{answers_of}
use Rattle.er_journal.proofs.AnswerListLemmas.{answers-take}
use Rattle.er_journal.proofs.answers.Answers.truncate.Goals as goal

pub returns : goal.returns
returns c =
    ap (answers_of c.self.inside.states.items) c.truncate.ensures.items
    ∙ answers-take c.self.inside.states.items c.self.inside.briefs.items c.args.len ∙ ap (take c.args.len) c.self.view_is
