use Rattle.std.proofs.Common.{◌∙◌, sym, subst, MatchResult}
use Rattle.std.specs.List.Sorted.{IsStrictlyIncreasing}
use Rattle.er_event.specs.Inner.Places.{StandsAt, BelongsAt}
use Rattle.er_event.proofs.LocksetLemmas.{has_place, insert_missing, place_from_search}
use Rattle.er_event.proofs.locks.Lockset.find.Goals as goal
use Rattle.er_event.proofs.locks.Lockset.find.Goals.{After-binary_search}

-- where the search ends
place : (c : After-binary_search) → MatchResult c.binary_search.result (StandsAt c.args.self.now c.args.lock) (BelongsAt c.args.self.now c.args.lock)
place c =
    let items = c.as_slice.ensures ∙ c.self.view_is in
    subst (λ xs. MatchResult c.binary_search.result (StandsAt xs c.args.lock) (BelongsAt xs c.args.lock)) items
    (place_from_search c.as_slice.result.now c.args.lock c.binary_search.result (subst IsStrictlyIncreasing (sym c.as_slice.ensures) c.self.invariant.0) c.binary_search.ensures.position)

pub returns-clause-found : goal.returns-clause-found
returns-clause-found c = has_place c.args.self.now c.args.lock c.binary_search.result (place c)

pub returns-clause-belongs : goal.returns-clause-belongs
returns-clause-belongs c = insert_missing c.args.self.now c.args.lock c.binary_search.result (place c)
