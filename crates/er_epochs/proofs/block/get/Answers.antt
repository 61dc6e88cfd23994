use Rattle.std.proofs.Common.{arith}
use Rattle.er_epochs.proofs.Places.{said_at}
use Rattle.er_epochs.proofs.block.get.Goals as goal

pub returns-clause-said : goal.returns-clause-said
returns-clause-said g c = said_at c.args.words.now.items c.args.place c.index.result.now (omega (arith, c.requires.place, c.requires.long)) c.index.ensures
