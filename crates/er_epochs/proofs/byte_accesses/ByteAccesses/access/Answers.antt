use Rattle.std.proofs.Common.{◌≡◌, ◌∙◌, false, is_some, ap, sym}
use Rattle.er_clock.specs.Counts.{count_by}
use Rattle.er_epochs.specs.Epochs.{tagged}
use Rattle.er_epochs.specs.Known.{finds, query_of}
use Rattle.er_epochs.proofs.KnownLemmas.{known-noted}
use Rattle.er_epochs.proofs.byte_accesses.ByteAccesses.access.Goals as goal

pub returns-clause-ok : goal.returns-clause-ok
returns-clause-ok g c =
    let quiet : is_some (finds (count_by c.args.clock.now) c.args.self.now (query_of c.args.kind c.args.bytes)) ≡ false =
    ap is_some (sym c.find-rival.ensures) ∙ (sym c.is_some.ensures ∙ c.if-is_some.false) in
    known-noted (count_by c.args.clock.now) c.self.inside.is_told c.self.inside.accesses.items c.note.new.accesses.items c.args.self.now c.access_by-access.result
    (tagged c.args.clock.now.0 (count_by c.args.clock.now c.args.clock.now.0) c.args.tag) c.args.kind c.args.bytes c.self.view_is c.if-self.false c.access_by-access.ensures quiet c.in_ok-note.ensures.ok
