use Rattle.std.proofs.Common.{◌≡◌, ◌∙◌, ℕ, ◌<◌, List, Some, slice_get, slice_index_or, length, refl, subst, sym}
use Rattle.std.proofs.lemmas.Option.{slice_get_read}
use Rattle.er_event.specs.declared.steps.Step.{Step}
use Rattle.er_story.proofs.StoryLemmas.{story-found, story-made, story-named}
use Rattle.er_story.specs.Names.{HasStoryNames}
use Rattle.er_story.proofs.telling.tell.Goals as goal

-- the step stands there
here : (steps read : List Step) (place : ℕ) (step : Step) → place < length steps → read ≡ steps → step ≡ slice_index_or read place step → slice_get steps place ≡ Some step
here steps read place step within same is = slice_get_read steps (length steps) place step refl within (subst (λ (all : List Step). step ≡ slice_index_or all place step) same is)

pub returns-clause-story : goal.returns-clause-story
returns-clause-story c =
    story-found c.args.trace.now c.args.place c.index-steps-place.result _
    (here c.args.trace.now.steps _ c.args.place c.index-steps-place.result c.requires c.steps-steps.ensures.value c.index-steps-place.is)
    (story-made c.args.trace.now c.args.place _ _ c.index-steps-place.result c.in_ok-holding.holding c.steps-steps.ensures.value c.lines-lines.ensures.value c.in_ok-holding.ensures
    _ (c.in_ok-held.ensures.ok ∙ c.held.ensures.locks) _ (c.in_ok-write_held.ensures.ok ∙ c.write_held.ensures) _ c.in_ok-answer.ensures.answer _ c.in_ok-answer.ensures.word)

pub returns-clause-named : goal.returns-clause-named
returns-clause-named c =
    subst (HasStoryNames c.args.trace.now.names)
    (sym (story-made c.args.trace.now c.args.place _ _ c.index-steps-place.result c.in_ok-holding.holding c.steps-steps.ensures.value c.lines-lines.ensures.value c.in_ok-holding.ensures
    _ (c.in_ok-held.ensures.ok ∙ c.held.ensures.locks) _ (c.in_ok-write_held.ensures.ok ∙ c.write_held.ensures) _ c.in_ok-answer.ensures.answer _ c.in_ok-answer.ensures.word))
    (story-named c.args.trace.now c.steps-steps.ensures.named c.args.place c.index-steps-place.result
    (here c.args.trace.now.steps _ c.args.place c.index-steps-place.result c.requires c.steps-steps.ensures.value c.index-steps-place.is))
