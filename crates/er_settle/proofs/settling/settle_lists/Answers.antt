use Rattle.er_journal.proofs.Merges.{merge-reply, merge-state}
use Rattle.er_settle.specs.Seats.{calls_by}
use Rattle.er_settle.specs.Runs.{journal_at}
use Rattle.std.proofs.Common.{length}
use Rattle.er_settle.proofs.MergeLemmas.{run-merge, seats-legal, journals-legal}
use Rattle.er_settle.proofs.settling.settle_lists.Goals as goal

pub returns-clause-merge : goal.returns-clause-merge
returns-clause-merge c =
    let l = c.in_ok-lists.ensures in
    let k = l.checked in
    let t = c.in_ok-turns.ensures in
    run-merge c.args.seats.now c.args.journals.now c.in_ok-lists.lists.order.items c.as_slice.result.now c.in_ok-turns.turns.items c.as_slice-2.result.now c.in_ok-run.run'.steps.items c.in_ok-run.run'.replies.items
    k.rises l.turn l.settled.answered k.legal.lists l.settled.once t.calls t.told c.as_slice.ensures.value c.as_slice-2.ensures.value c.in_ok-run.ensures.steps c.in_ok-run.ensures.replies

pub returns-clause-replies : goal.returns-clause-replies
returns-clause-replies c =
    let l = c.in_ok-lists.ensures in
    let k = l.checked in
    let t = c.in_ok-turns.ensures in
    let merge = run-merge c.args.seats.now c.args.journals.now c.in_ok-lists.lists.order.items c.as_slice.result.now c.in_ok-turns.turns.items c.as_slice-2.result.now c.in_ok-run.run'.steps.items c.in_ok-run.run'.replies.items
    k.rises l.turn l.settled.answered k.legal.lists l.settled.once t.calls t.told c.as_slice.ensures.value c.as_slice-2.ensures.value c.in_ok-run.ensures.steps c.in_ok-run.ensures.replies in
    merge-reply (length c.args.journals.now) c.in_ok-run.run'.steps.items c.in_ok-run.run'.replies.items (calls_by c.args.seats.now) (journal_at c.args.journals.now) c.requires merge (journals-legal c.args.journals.now k.legal.legal) (seats-legal c.args.seats.now k.legal.lists l.settled.once)

pub returns-clause-states : goal.returns-clause-states
returns-clause-states c =
    let l = c.in_ok-lists.ensures in
    let k = l.checked in
    let t = c.in_ok-turns.ensures in
    let merge = run-merge c.args.seats.now c.args.journals.now c.in_ok-lists.lists.order.items c.as_slice.result.now c.in_ok-turns.turns.items c.as_slice-2.result.now c.in_ok-run.run'.steps.items c.in_ok-run.run'.replies.items
    k.rises l.turn l.settled.answered k.legal.lists l.settled.once t.calls t.told c.as_slice.ensures.value c.as_slice-2.ensures.value c.in_ok-run.ensures.steps c.in_ok-run.ensures.replies in
    merge-state (length c.args.journals.now) c.in_ok-run.run'.steps.items c.in_ok-run.run'.replies.items (calls_by c.args.seats.now) (journal_at c.args.journals.now) c.requires merge
