use Rattle.er_clock.specs.Counts.{count_by}
use Rattle.er_epochs.specs.Epochs.{tagged}
use Rattle.er_epochs.specs.Words.{list_of, said, stored_beside}
use Rattle.er_epochs.proofs.Noted.{stored_exactly}
use Rattle.er_epochs.proofs.reads.ReadLists.access.Goals as goal

pub returns-in-Some-clause-kept : goal.returns-in-Some-clause-kept
returns-in-Some-clause-kept g c =
    stored_exactly (count_by c.args.clock.now) (stored_beside c.args.self.now c.args.number (said c.args.word)) (stored_beside c.args.self.now c.args.number (said c.in-Some.after.0))
    (tagged c.args.clock.now.0 (count_by c.args.clock.now c.args.clock.now.0) c.args.tag) c.args.kind
    (c.in-Some.ensures.kept (list_of c.args.self.now c.args.number))
