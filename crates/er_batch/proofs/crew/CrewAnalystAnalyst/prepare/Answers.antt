-- Workers that have stopped stay so, and others go on to the end of the steps or stop in them.
use Rattle.std.proofs.Common.{◌≡◌, List, [], Result, OnOk, Vec, Global, map, ap, sym, subst}
use Rattle.er_batch.specs.Analysts.{CrewRan, HasCrewRun}
use Rattle.er_batch.specs.Inner.Items.{HaveTaken}
use Rattle.er_parallel.specs.declared.config.ReplayFault.{ReplayFault}
use Rattle.er_parallel.specs.declared.worker.Unusual.{Unusual}
use Rattle.er_reading.specs.Chunks.{step_lists}
use Rattle.er_batch.proofs.CrewLemmas.{answered, ready-on, ready-stopped}
use Rattle.er_batch.proofs.crew.CrewAnalystAnalyst.prepare.Goals as goal

abbrev items_of : Vec Unusual Global → List Unusual
items_of items = items.items

pub returns-in_default-clause-ready : goal.returns-in_default-clause-ready
returns-in_default-clause-ready g c = λ asked r ran.
    let inside : CrewRan = record { holder = c.self.inside.holder; crew = c.self.inside.crew; items = map items_of c.self.inside.items.items; builder = c.self.inside.builder } in
    let run : HasCrewRun inside asked r = subst (λ (ran : CrewRan). HasCrewRun ran asked r) (sym c.self.view_is) ran in
    ready-stopped inside asked r (step_lists c.args.chunks.now) run _ c.in_default.is

pub returns-in-Ok-taken-clause-ready : goal.returns-in-Ok-taken-clause-ready
returns-in-Ok-taken-clause-ready g c = λ asked r ran.
    let inside : CrewRan = record { holder = c.self.inside.holder; crew = c.self.inside.crew; items = map items_of c.self.inside.items.items; builder = c.self.inside.builder } in
    let run : HasCrewRun inside asked r = subst (λ (ran : CrewRan). HasCrewRun ran asked r) (sym c.self.view_is) ran in
    let before = answered inside asked r (step_lists c.args.chunks.now) run _ c.in-Ok.is in
    let new : List (List Unusual) = map items_of c.take_beside-taken.new.items.items in
    let none : map items_of c.clear.new.self.items ≡ [] = ap (map items_of) c.clear.ensures.items in
    let taken : HaveTaken c.explains-noting.result r.steps (step_lists c.args.chunks.now) c.take_beside-taken.new.crew (map items_of c.clear.new.self.items) new =
    subst (λ (o : Result _ ReplayFault). OnOk o (HaveTaken c.explains-noting.result r.steps (step_lists c.args.chunks.now) c.take_beside-taken.new.crew (map items_of c.clear.new.self.items) new))
    c.in-Ok-taken.is (c.take_beside-taken.ensures.taken r.steps before) in
    ready-on inside asked r (step_lists c.args.chunks.now) run c.take_beside-taken.new.crew _ c.in-Ok.is new (rw (c.explains-noting.ensures, none) at taken)
