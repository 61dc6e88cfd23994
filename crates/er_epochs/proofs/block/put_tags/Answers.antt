use Rattle.std.proofs.Common.{arith}
use Rattle.er_epochs.proofs.Places.{tags_at, put_beside}
use Rattle.er_epochs.proofs.block.put_tags.Goals as goal

pub returns-clause-here : goal.returns-clause-here
returns-clause-here g c = λ old there same. tags_at c.args.words.now.items c.args.place old c.index_mut-slot.result.now c.args.word (omega (arith, c.requires.place, c.requires.long)) there c.index_mut-slot.ensures.value same

pub returns-clause-others : goal.returns-clause-others
returns-clause-others g c = λ i apart. put_beside c.args.words.now.items c.args.place i _ apart
