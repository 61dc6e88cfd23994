-- If no worker has a fault, the items of all are merged.
use Rattle.std.proofs.Common.{◌≡◌, ◌≤◌, ◌++◌, ◌∙◌, List, OnOk, ap, arith, length, sym, subst}
use Rattle.std.proofs.lemmas.List.{length-map}
use Rattle.er_parallel.specs.Crews.{Crewed, HaveAnswered}
use Rattle.er_parallel.specs.Inner.Crewing.{crewed}
use Rattle.er_parallel.specs.Inner.Merging.{machines_of}
use Rattle.er_parallel.specs.declared.worker.Worker.{Worker}
use Rattle.er_parallel.proofs.CrewLemmas.{if-err, if-ok, on-ok, done-answered, done-apart, done-noted, done-unusual, same-long, taken-fault, whole-back}
use Rattle.er_parallel.proofs.crew.Crew.take.Goals as goal

pub returns-clause-count : goal.returns-clause-count
returns-clause-count g c =
    let count : length c.merge.new.workers ≡ length c.as_mut_slice-workers.result.now = same-long c.merge.new.workers c.answer_each.new.workers c.merge.ensures.machines ∙ c.answer_each.ensures.count in
    subst (λ (ws : List Worker). length (machines_of ws) ≡ length c.args.self.now.machines)
    (sym (whole-back c.self.inside.workers.len c.merge.new.workers c.self.inside.workers.items (count ∙ ap length c.as_mut_slice-workers.ensures.value) c.self.inside.workers.ok.0))
    (length-map c.merge.new.workers (λ (w : Worker). w.machine) ∙ count ∙ ap length c.as_mut_slice-workers.ensures.value ∙ sym (length-map c.self.inside.workers.items (λ (w : Worker). w.machine)) ∙ ap (λ (s : Crewed). length s.machines) c.self.view_is)

pub returns-clause-goes_on : goal.returns-clause-goes_on
returns-clause-goes_on g c past before =
    let began : HaveAnswered (crewed c.self.inside.shards c.as_mut_slice-workers.result.now) past =
    subst (λ (ws : List Worker). HaveAnswered (crewed c.self.inside.shards ws) past) (sym c.as_mut_slice-workers.ensures.value) (subst (λ (s : Crewed). HaveAnswered s past) (sym c.self.view_is) before) in
    let count : length c.merge.new.workers ≡ length c.as_mut_slice-workers.result.now = same-long c.merge.new.workers c.answer_each.new.workers c.merge.ensures.machines ∙ c.answer_each.ensures.count in
    subst (λ (ws : List Worker). OnOk c.merge.result (HaveAnswered (crewed c.self.inside.shards ws) (past ++ c.args.steps.now)))
    (sym (whole-back c.self.inside.workers.len c.merge.new.workers c.self.inside.workers.items (count ∙ ap length c.as_mut_slice-workers.ensures.value) c.self.inside.workers.ok.0))
    (on-ok _ c.merge.result
    (λ items is.
    done-answered past c.args.steps.now c.self.inside.shards c.args.noting c.as_mut_slice-workers.result.now c.answer_each.new.workers c.answer_each.ensures.count c.answer_each.ensures.taken began
    (rw is at c.merge.ensures.none_fails) c.merge.new.workers c.merge.ensures.machines))

pub returns-clause-answers : goal.returns-clause-answers
returns-clause-answers g c past before =
    let began : HaveAnswered (crewed c.self.inside.shards c.as_mut_slice-workers.result.now) past =
    subst (λ (ws : List Worker). HaveAnswered (crewed c.self.inside.shards ws) past) (sym c.as_mut_slice-workers.ensures.value) (subst (λ (s : Crewed). HaveAnswered s past) (sym c.self.view_is) before) in
    let some : 1 ≤ length c.as_mut_slice-workers.result.now = (let long = ap length c.as_mut_slice-workers.ensures.value in omega arith) in
    if-ok _ c.merge.result
    (λ items is.
    let none = rw is at c.merge.ensures.none_fails in
    let apart = done-apart past c.args.steps.now c.self.inside.shards c.args.noting c.as_mut_slice-workers.result.now c.answer_each.new.workers c.answer_each.ensures.count c.answer_each.ensures.taken began none in
    done-unusual past c.args.steps.now c.self.inside.shards c.args.noting c.as_mut_slice-workers.result.now c.answer_each.new.workers c.answer_each.ensures.count c.answer_each.ensures.taken began none
    c.merge.new.workers items.items (rw is at (c.merge.ensures.merged apart)) (rw is at c.merge.ensures.none_left) some)

pub returns-clause-noted : goal.returns-clause-noted
returns-clause-noted g c past before notes =
    let began : HaveAnswered (crewed c.self.inside.shards c.as_mut_slice-workers.result.now) past =
    subst (λ (ws : List Worker). HaveAnswered (crewed c.self.inside.shards ws) past) (sym c.as_mut_slice-workers.ensures.value) (subst (λ (s : Crewed). HaveAnswered s past) (sym c.self.view_is) before) in
    let some : 1 ≤ length c.as_mut_slice-workers.result.now = (let long = ap length c.as_mut_slice-workers.ensures.value in omega arith) in
    if-ok _ c.merge.result
    (λ items is.
    let none = rw is at c.merge.ensures.none_fails in
    let apart = done-apart past c.args.steps.now c.self.inside.shards c.args.noting c.as_mut_slice-workers.result.now c.answer_each.new.workers c.answer_each.ensures.count c.answer_each.ensures.taken began none in
    done-noted past c.args.steps.now c.self.inside.shards c.args.noting c.as_mut_slice-workers.result.now c.answer_each.new.workers c.answer_each.ensures.count c.answer_each.ensures.taken began none
    c.merge.new.workers items.items (rw is at (c.merge.ensures.merged apart)) (rw is at c.merge.ensures.none_left) some notes)

pub returns-clause-fault : goal.returns-clause-fault
returns-clause-fault g c past before =
    let began : HaveAnswered (crewed c.self.inside.shards c.as_mut_slice-workers.result.now) past =
    subst (λ (ws : List Worker). HaveAnswered (crewed c.self.inside.shards ws) past) (sym c.as_mut_slice-workers.ensures.value) (subst (λ (s : Crewed). HaveAnswered s past) (sym c.self.view_is) before) in
    if-err _ c.merge.result
    (λ why is.
    taken-fault past c.args.steps.now c.self.inside.shards c.args.noting c.as_mut_slice-workers.result.now c.answer_each.new.workers c.answer_each.ensures.count c.answer_each.ensures.taken began
    why (rw is at c.merge.ensures.fault))
