use Rattle.er_journal.proofs.AnswerListLemmas.{answers-replicate}
use Rattle.er_journal.proofs.answers.Answers.of_len.Goals as goal

pub returns : goal.returns
returns c = rw (c.in_ok-vec.ensures.items_if_clones_equal (λ y same. same), c.new.ensures.items) (answers-replicate c.args.len)
