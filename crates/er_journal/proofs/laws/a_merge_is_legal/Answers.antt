use Rattle.er_journal.proofs.Merges.{merge-reply, merge-state}
use Rattle.er_journal.proofs.laws.a_merge_is_legal.Goals as goal

pub returns-clause-replies : goal.returns-clause-replies
returns-clause-replies c = λ shards steps replies calls journals some merge legal seats. merge-reply shards steps replies calls journals some merge legal seats

pub returns-clause-states : goal.returns-clause-states
returns-clause-states c = λ shards steps replies calls journals some merge. merge-state shards steps replies calls journals some merge
