-- Two ranges are one where both of their ends are.
use Rattle.std.proofs.Common.{◌∙◌, sym, ap}
use Rattle.std.proofs.lemmas.Bool.{and_parts, and_from, eqb-true, eq-eqb}
use Rattle.er_event.specs.declared.addresses.PageRange.{PageRange}
use Rattle.er_event.specs.declared.steps.Event.TheVariants.{Reuse}
use Rattle.er_event.proofs.SpanLemmas.{same_range}
use Rattle.er_journal.proofs.RangeLemmas.{reuse-parts}
use Rattle.er_journal.proofs.entries.Entry.records.Goals as goal

pub returns-in-Reuse-Reuse : goal.returns-in-Reuse-Reuse
returns-in-Reuse-Reuse c =
    let range = c.in-Reuse-Reuse.range in
    let reused = c.in-Reuse-Reuse.reused in
    rw (← c.event-own.ensures, c.in-Reuse-Reuse.is-0, c.in-Reuse-Reuse.is-1) (
      λ yes. (let both = and_parts _ _ (sym c.eq-in-Reuse-Reuse.ensures ∙ yes) in
          ap Reuse (same_range reused range (eqb-true reused.lo range.lo both.0) (eqb-true reused.hi range.hi both.1))),
      λ same. (let parts = reuse-parts reused range same in
          c.eq-in-Reuse-Reuse.ensures
          ∙ and_from _ _ (eq-eqb reused.lo range.lo (ap (λ (r : PageRange). r.lo) parts)) (eq-eqb reused.hi range.hi (ap (λ (r : PageRange). r.hi) parts))),
    )
