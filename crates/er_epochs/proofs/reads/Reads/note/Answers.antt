use Rattle.std.proofs.Common.{reverse, List, subst}
use Rattle.er_event.proofs.Results.{on_ok}
use Rattle.er_order.specs.Keeping.{IsNoted}
use Rattle.er_clock.specs.Counts.{count_by}
use Rattle.er_epochs.specs.declared.reads.Tagged.{Tagged}
use Rattle.er_epochs.specs.Epochs.{pair_of, tagged}
use Rattle.er_epochs.proofs.Noted.{noted_few}
use Rattle.er_epochs.proofs.reads.Reads.note.Goals as goal

pub returns-then-len-lt-FEW-clause-ok : goal.returns-then-len-lt-FEW-clause-ok
returns-then-len-lt-FEW-clause-ok g c =
    on_ok c.note_among_few.result _ _ c.note_among_few.ensures.ok (λ is.
    subst (λ (before : List (Tagged g.row.A.Denot)). IsNoted pair_of (count_by c.args.clock.now) before (tagged c.args.clock.now.0 (count_by c.args.clock.now c.args.clock.now.0) c.args.tag) (reverse c.note_among_few.new.reads.items)) c.self.view_is
    (noted_few (count_by c.args.clock.now) c.put_over_last.new.reads.items (tagged c.args.clock.now.0 (count_by c.args.clock.now c.args.clock.now.0) c.args.tag) c.self.inside.reads.items c.note_among_few.new.reads.items
    (c.put_over_last.ensures.same c.if-put_over_last.false) is))
