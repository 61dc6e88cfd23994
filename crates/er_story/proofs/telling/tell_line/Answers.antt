use Rattle.std.proofs.Common.{◌≡◌, ◌==◌, ◌<◌, ℕ, List, Some, None, length, subst, arith}
use Rattle.std.specs.List.{position}
use Rattle.er_story.proofs.StoryLemmas.{none-found, one-found, place-within}
use Rattle.er_story.proofs.telling.tell_line.Goals as goal

pub tell-requires : goal.tell-requires
tell-requires c =
    let here : c.in-Some.place < length c.args.trace.now.lines =
    place-within c.args.line c.in-Some.place c.args.trace.now.lines
    (subst (λ (all : List ℕ). Some c.in-Some.place ≡ position (λ (l : ℕ). l == c.args.line) all) c.lines-lines.ensures.value c.in-Some.ensures) in
    let each : length c.args.trace.now.lines ≡ length c.args.trace.now.steps = c.lines-lines.ensures.one_per_step in
    omega arith

pub returns-in_default-clause-story : goal.returns-in_default-clause-story
returns-in_default-clause-story c =
    none-found c.args.trace.now c.args.line
    (subst (λ (all : List ℕ). None ≡ position (λ (l : ℕ). l == c.args.line) all) c.lines-lines.ensures.value c.in_default.ensures)

pub returns-clause-story : goal.returns-clause-story
returns-clause-story c =
    one-found c.args.trace.now c.args.line c.in-Some.place c.in_ok-story.story
    (subst (λ (all : List ℕ). Some c.in-Some.place ≡ position (λ (l : ℕ). l == c.args.line) all) c.lines-lines.ensures.value c.in-Some.ensures)
    c.in_ok-story.ensures.story
