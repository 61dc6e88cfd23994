use Rattle.std.proofs.Common.{◌≡◌, ◌∙◌, ◌^◌, ap, arith}
use Rattle.er_detector.specs.Settlement.{journals_of}
use Rattle.er_detector.proofs.OpenedLemmas.{first_opened, settled_opened}
use Rattle.er_detector.proofs.settlement.settle_parts.Goals as goal

pub returns-clause-first : goal.returns-clause-first
returns-clause-first c =
    let seats : c.as_slice-seats.result.now ≡ c.args.seats.items = c.as_slice-seats.ensures.value ∙ (c.in_ok-views.ensures.views ∙ c.as_slice.ensures.value) in
    let journals : c.as_slice-journals.result.now ≡ journals_of c.args.parts.shards.items = c.as_slice-journals.ensures.value ∙ (c.in_ok-journals.ensures ∙ ap journals_of c.as_slice-2.ensures.value) in
    rw (← seats, ← journals) (first_opened (2 ^ 30) c.from.result c.args.parts.name c.args.parts.opened c.min-opened.result c.as_slice-seats.result.now c.as_slice-journals.result.now (rw (seats, ← c.as_slice.ensures.value) c.in_ok-views.ensures.small) c.min-opened.ensures (omega (arith, c.from.ensures)) c.settle_lists.result c.settle_lists.ensures.first)

pub returns-clause-settled : goal.returns-clause-settled
returns-clause-settled c =
    let seats : c.as_slice-seats.result.now ≡ c.args.seats.items = c.as_slice-seats.ensures.value ∙ (c.in_ok-views.ensures.views ∙ c.as_slice.ensures.value) in
    let journals : c.as_slice-journals.result.now ≡ journals_of c.args.parts.shards.items = c.as_slice-journals.ensures.value ∙ (c.in_ok-journals.ensures ∙ ap journals_of c.as_slice-2.ensures.value) in
    rw (← seats, ← journals) (settled_opened (2 ^ 30) c.from.result c.args.parts.name c.args.parts.opened c.min-opened.result c.as_slice-seats.result.now c.as_slice-journals.result.now (rw (seats, ← c.as_slice.ensures.value) c.in_ok-views.ensures.small) c.min-opened.ensures (omega (arith, c.from.ensures)) c.settle_lists.result c.settle_lists.ensures.settled)
