-- An access and a show are told by the past of their word, and other steps have none.
use Rattle.std.proofs.Common.{◌∙◌, Ok, Some, cond, nat_lt, ap, sym}
use Rattle.er_event.specs.declared.steps.Event.{Event}
use Rattle.er_event.specs.declared.steps.Reply.TheVariants.{State}
use Rattle.er_event.specs.declared.steps.Step.{Step}
use Rattle.er_event.specs.declared.steps.WordState.{WordState}
use Rattle.er_model.specs.Following.{locks_for}
use Rattle.er_model.specs.Table.{advanced}
use Rattle.er_story.specs.Inner.Past.{PastView}
use Rattle.er_story.specs.Story.{tale_in}
use Rattle.er_story.specs.Tale.{WordTale}
use Rattle.er_story.proofs.StoryLemmas.{access-answer, access-tale, other-answer, other-tale, reply-counted, show-answer, show-tale}
use Rattle.er_story.proofs.telling.tell_of.Goals as goal

-- a step of this event
abbrev step_of : Step → Event → Step
step_of step event = record { thread = step.thread; event = event }

pub returns-in_ok-after-in-Access-clause-answer : goal.returns-in_ok-after-in-Access-clause-answer
returns-in_ok-after-in-Access-clause-answer c =
    let past : PastView = record { state = c.past.inside.state; accesses = c.past.inside.accesses; turns = c.past.inside.turns.items } in
    let thread = c.args.step.now.thread in
    access-answer c.args.trace.now c.args.place thread c.in-Access.kind c.in-Access.word c.in-Access.field-2 c.args.holding.now past
    _ (c.requires.step ∙ ap (λ (e : Event). Some (step_of c.args.step.now e)) c.in-Access.is) c.requires.holding (c.past.view_is ∙ c.in_ok-past-in-Access.ensures)
    (ap Ok (rw c.in_ok-after-in-Access.ensures at c.reply_between-reply.ensures
    ∙ reply-counted (nat_lt 0 c.args.holding.now.depth) past.state (advanced past.state thread c.in-Access.kind (locks_for c.args.holding.now c.in-Access.kind))))

pub returns-in_ok-after-in-Access-clause-word : goal.returns-in_ok-after-in-Access-clause-word
returns-in_ok-after-in-Access-clause-word c =
    let past : PastView = c.in_ok-past-in-Access.past in
    let after = λ (q : PastView). cond (nat_lt 0 c.args.holding.now.depth) q.state (advanced q.state c.args.step.now.thread c.in-Access.kind (locks_for c.args.holding.now c.in-Access.kind)) in
    access-tale c.args.trace.now c.args.place c.args.step.now.thread c.in-Access.kind c.in-Access.word c.in-Access.field-2 c.args.holding.now past
    _ (c.requires.step ∙ ap (λ (e : Event). Some (step_of c.args.step.now e)) c.in-Access.is) c.requires.holding c.in_ok-past-in-Access.ensures
    (ap (λ (tale : WordTale). Some tale) c.told.ensures
    ∙ ap (λ (s : WordState). Some (record { word = c.in-Access.word; before = past.state; after = s; accesses = past.accesses; turns = past.turns })) (c.in_ok-after-in-Access.ensures ∙ ap after c.past.view_is))
    ∙ ap (tale_in c.args.trace.now c.args.place) (sym c.in-Access.is)

pub returns-in_ok-after-in-Show-clause-answer : goal.returns-in_ok-after-in-Show-clause-answer
returns-in_ok-after-in-Show-clause-answer c =
    let past : PastView = record { state = c.past-in-Show.inside.state; accesses = c.past-in-Show.inside.accesses; turns = c.past-in-Show.inside.turns.items } in
    show-answer c.args.trace.now c.args.place c.args.step.now.thread c.in-Show.word past _
    (c.requires.step ∙ ap (λ (e : Event). Some (step_of c.args.step.now e)) c.in-Show.is) (c.past-in-Show.view_is ∙ c.in_ok-past-in-Show.ensures)
    (ap (λ (s : WordState). Ok (State s)) c.in_ok-copy-in-Show.ensures)

pub returns-in_ok-after-in-Show-clause-word : goal.returns-in_ok-after-in-Show-clause-word
returns-in_ok-after-in-Show-clause-word c =
    let past : PastView = c.in_ok-past-in-Show.past in
    show-tale c.args.trace.now c.args.place c.args.step.now.thread c.in-Show.word past _
    (c.requires.step ∙ ap (λ (e : Event). Some (step_of c.args.step.now e)) c.in-Show.is) c.in_ok-past-in-Show.ensures
    (ap (λ (tale : WordTale). Some tale) c.told-in-Show.ensures
    ∙ ap (λ (s : WordState). Some (record { word = c.in-Show.word; before = past.state; after = s; accesses = past.accesses; turns = past.turns }))
    (c.in_ok-after-in-Show.ensures ∙ ap (λ (q : PastView). q.state) c.past-in-Show.view_is))
    ∙ ap (tale_in c.args.trace.now c.args.place) (sym c.in-Show.is)

pub returns-in_ok-told-in_default : goal.returns-in_ok-told-in_default
returns-in_ok-told-in_default c =
    record {
      answer = other-answer c.args.trace.now c.args.place c.args.step.now c.args.holding.now c.in_ok-told-in_default.told.0 c.requires.step c.requires.holding
          c.in_ok-told-in_default.ensures.other c.in_ok-told-in_default.ensures.answer;
      word = other-tale c.args.trace.now c.args.place c.args.step.now.event c.in_ok-told-in_default.told.1 c.in_ok-told-in_default.ensures.other c.in_ok-told-in_default.ensures.word;
    }
