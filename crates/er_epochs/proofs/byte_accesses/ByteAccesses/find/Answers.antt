use Rattle.std.proofs.Common.{◌∙◌, reverse}
use Rattle.er_model.specs.Words.{is_writing}
use Rattle.er_clock.specs.Counts.{count_by}
use Rattle.er_epochs.proofs.KnownLemmas.{found-view}
use Rattle.er_epochs.proofs.byte_accesses.ByteAccesses.find.Goals as goal

pub returns : goal.returns
returns g c =
    c.find.ensures
    ∙ found-view (count_by c.args.clock.now) c.self.inside.is_told (reverse c.self.inside.accesses.items) c.args.self.now (record { is_write = is_writing c.args.kind; bytes = c.args.bytes }) c.self.view_is c.if-self.false
