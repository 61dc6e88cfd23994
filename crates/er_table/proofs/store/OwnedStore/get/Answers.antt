-- The set at this place rises.
use Rattle.std.proofs.Common.{◌∙◌, ℕ, List, ap, sym, subst}
use Rattle.std.specs.List.{slice_range}
use Rattle.std.specs.List.Sorted.{IsStrictlyIncreasing}
use Rattle.er_table.proofs.OwnedLemmas.{cut-at, cut-within}
use Rattle.er_table.proofs.store.OwnedStore.get.Goals as goal

pub returns-clause-rising : goal.returns-clause-rising
returns-clause-rising c =
    let locks = c.self.inside.locks.items in
    let spans = c.self.inside.spans.items in
    let span = c.index-span.result.now in
    let within = cut-within locks spans c.args.self.now.sets c.args.place (ap (λ v. v.sets) c.self.view_is) c.requires in
    subst IsStrictlyIncreasing (sym (ap (λ (ls : List ℕ). slice_range ls span.start span.end) c.deref.ensures.value ∙ cut-at locks spans c.args.place span within c.index-span.ensures))
    (c.self.invariant.rising c.args.place within)
