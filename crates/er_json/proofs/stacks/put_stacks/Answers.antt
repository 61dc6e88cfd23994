-- The stacks are those of the access and of the reasons.
use Rattle.std.proofs.Common.{◌≡◌, ◌∙◌, ℕ, List, ◌++◌, flat_map, option_copied, ap}
use Rattle.std.proofs.lemmas.Result.{on_ok_weaker}
use Rattle.er_places.specs.Reasons.{race_place}
use Rattle.er_report.specs.Lines.{RaceView}
use Rattle.er_json.specs.Sarif.{reason_stack, stack_if, stacks_member, stacks_text}
use Rattle.er_json.proofs.stacks.put_stacks.Goals as goal

pub returns : goal.returns
returns c =
    let own : c.put_stack.new.out.items ≡ stack_if c.args.places.now (race_place c.args.places.now c.args.race.now) =
    c.in_ok-put_stack.ensures ∙ ap (λ (start : List ℕ). start ++ stack_if c.args.places.now (option_copied c.of_race.result)) c.new-stacks.ensures.items ∙ ap (stack_if c.args.places.now) c.of_race.ensures.place in
    let all : c.deref.result.now ≡ stacks_text c.args.places.now c.args.race.now =
    c.deref.ensures.value ∙ c.in_ok-put_reason_stacks.ensures
    ∙ ap (λ (race : RaceView). c.put_stack.new.out.items ++ flat_map (reason_stack c.args.places.now race.line) race.explained) c.race.view_is
    ∙ ap (λ (own : List ℕ). own ++ flat_map (reason_stack c.args.places.now c.args.race.now.line) c.args.race.now.explained) own in
    on_ok_weaker c.put_list.result (λ put. put ∙ ap (λ (stacks : List ℕ). c.args.out.now.items ++ stacks_member stacks) all) c.put_list.ensures
