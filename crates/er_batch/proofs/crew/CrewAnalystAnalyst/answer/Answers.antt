-- Workers that have stopped stay so, and of the others the first items are added.
use Rattle.std.proofs.Common.{◌≡◌, ◌∷◌, List, Vec, Global, map, ap, sym, subst}
use Rattle.er_batch.specs.Analysts.{CrewRan, IsCrewReady}
use Rattle.er_batch.specs.Runs.{IsWellFormed, recorded}
use Rattle.er_parallel.specs.declared.worker.Unusual.{Unusual}
use Rattle.er_text.specs.Batches.{joined}
use Rattle.er_trace.specs.Trace.{Recording}
use Rattle.er_batch.proofs.CrewLemmas.{goes, holds, items-of, on-done, reported, stays}
use Rattle.er_batch.proofs.crew.CrewAnalystAnalyst.answer.Goals as goal

abbrev items_of : Vec Unusual Global → List Unusual
items_of items = items.items

pub returns-in_default : goal.returns-in_default
returns-in_default g c = record {
  goes_on = λ asked past lines sites names more kept ran agree.
      let trace : Recording = c.args.trace.now in
      let fits : IsWellFormed trace = record { named = c.steps-steps.ensures.named; long = c.lines.ensures.one_per_step; known = c.sites.ensures.named; one_each = c.sites.ensures.one_per_step } in
      let inside : CrewRan = record { holder = c.self.inside.holder; crew = c.self.inside.crew; items = map items_of c.self.inside.items.items; builder = c.self.inside.builder } in
      let run : IsCrewReady inside asked (recorded past lines sites names) (trace.steps ∷ more) = subst (λ (ran : CrewRan). IsCrewReady ran asked (recorded past lines sites names) (trace.steps ∷ more)) (sym c.self.view_is) ran in
      subst (λ (ran : CrewRan). IsCrewReady ran asked (joined past lines sites trace) more) c.self.view_is (stays past lines sites names trace more kept fits inside asked run _ c.in_default.is);
}

pub returns : goal.returns
returns g c = record {
  goes_on = λ asked past lines sites names more kept ran agree.
      let trace : Recording = c.args.trace.now in
      let fits : IsWellFormed trace = record { named = c.steps-steps.ensures.named; long = c.lines.ensures.one_per_step; known = c.sites.ensures.named; one_each = c.sites.ensures.one_per_step } in
      let inside : CrewRan = record { holder = c.self.inside.holder; crew = c.self.inside.crew; items = map items_of c.self.inside.items.items; builder = c.self.inside.builder } in
      let run : IsCrewReady inside asked (recorded past lines sites names) (trace.steps ∷ more) = subst (λ (ran : CrewRan). IsCrewReady ran asked (recorded past lines sites names) (trace.steps ∷ more)) (sym c.self.view_is) ran in
      let others : List (List Unusual) = map items_of c.pop_front.new.self.items in
      let first : inside.items ≡ c.in-Some.items.items ∷ others = ap (map items_of) c.in-Some.ensures.items in
      let holding = holds past lines sites names trace more kept fits inside asked run _ c.in-Ok.is in
      on-done _ _ c.add_items.result _ _ _ _ _ c.add_items.ensures.rules c.add_items.ensures.explains
      ((rw c.as_slice-items.ensures.value at c.add_items.ensures.reported) past lines sites run.formed.long run.formed.one_each
      (items-of past lines sites names trace more kept fits inside asked run _ c.in-Ok.is c.in-Some.items.items others first) holding
      (reported past lines sites names trace more kept fits inside asked run _ c.in-Ok.is))
      (c.add_items.ensures.holds past holding)
      (λ rules explains added held. goes past lines sites names trace more kept fits inside asked run _ c.in-Ok.is c.in-Some.items.items others first c.add_items.new.builder c.add_items.new.holder rules explains added held);
}
