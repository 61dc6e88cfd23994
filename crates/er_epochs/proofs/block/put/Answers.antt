use Rattle.std.proofs.Common.{arith}
use Rattle.er_epochs.proofs.Places.{put_at, put_beside}
use Rattle.er_epochs.proofs.block.put.Goals as goal

pub returns-clause-here : goal.returns-clause-here
returns-clause-here g c = put_at c.args.words.now.items c.args.place c.args.word (omega (arith, c.requires.place, c.requires.long))

pub returns-clause-others : goal.returns-clause-others
returns-clause-others g c = λ i apart. put_beside c.args.words.now.items c.args.place i c.args.word apart
