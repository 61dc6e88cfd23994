-- The first chunk is answered, what is unusual of it comes behind what was there, and then the others are.
use Rattle.std.proofs.Common.{◌≡◌, ◌++◌, ◌∷◌, [], List}
use Rattle.er_batch.specs.Inner.Items.{AreItems}
use Rattle.er_event.specs.declared.steps.Step.{Step}
use Rattle.er_parallel.specs.Crews.{HaveAnswered}
use Rattle.er_batch.proofs.CrewLemmas.{fault-first, fault-later, taken-first}
use Rattle.er_batch.proofs.crew.+take_each.Goals as goal

pub returns-in_err-found-clause-fault : goal.returns-in_err-found-clause-fault
returns-in_err-found-clause-fault g t c = λ past before.
    fault-first c.from_residual.result past c.args.chunks.now c.in-Some.first.now c.in-Some.others.now c.in_err-found.field-0.0 c.in-Some.ensures.cases.0
    (rw c.as_slice.ensures.value at (c.in_err-found.ensures.fault past before)) c.from_residual.ensures.1

pub returns-clause-taken : goal.returns-clause-taken
returns-clause-taken g t c = λ past before.
    let batch : List Step = c.in-Some.first.now.steps.items in
    let on : HaveAnswered c.take.new.self (past ++ batch) = rw c.as_slice.ensures.value at (c.in_ok-found.ensures.goes_on past before) in
    let behind : c.push_back.new.self.items ≡ c.args.items.now.items ++ c.in_ok-found.found ∷ [] = rw c.if-is_err.ensures.negation at c.push_back.ensures.items in
    let are : AreItems c.args.noting past batch c.in_ok-found.found.items = record {
      unusual = rw c.as_slice.ensures.value at (c.in_ok-found.ensures.answers past before);
      noted = λ wanted. rw c.as_slice.ensures.value at (c.in_ok-found.ensures.noted past before wanted);
    } in
    taken-first c.take_each.result c.args.noting past c.args.chunks.now c.in-Some.first.now c.in-Some.others.now c.take_each.new.crew c.args.items.now.items c.push_back.new.self.items c.take_each.new.items.items
    c.in_ok-found.found c.in-Some.ensures.cases.0 behind are (c.take_each.ensures.taken (past ++ batch) on)

pub returns-clause-fault : goal.returns-clause-fault
returns-clause-fault g t c = λ past before.
    let batch : List Step = c.in-Some.first.now.steps.items in
    let on : HaveAnswered c.take.new.self (past ++ batch) = rw c.as_slice.ensures.value at (c.in_ok-found.ensures.goes_on past before) in
    fault-later c.take_each.result past c.args.chunks.now c.in-Some.first.now c.in-Some.others.now c.in-Some.ensures.cases.0 (c.take_each.ensures.fault (past ++ batch) on)
