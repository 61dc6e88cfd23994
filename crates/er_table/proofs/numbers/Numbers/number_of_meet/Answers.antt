-- What is said of the set that was found is said of the locks in common.
use Rattle.std.proofs.Common.{◌≡◌, ℕ, List, subst, ◌∙◌}
use Rattle.er_event.specs.Lockset.{meet}
use Rattle.er_table.specs.Sets.{set_at}
use Rattle.er_table.specs.Numbers.{IsNumbered}
use Rattle.er_table.proofs.numbers.Numbers.number_of_meet.Goals as goal

pub returns : goal.returns
returns g c =
    let Says : List ℕ → Type 0 = λ set. IsNumbered c.args.self.now set c.number_of.result c.number_of.new.self in
    let both : c.become_meet.new.self ≡ meet (set_at c.args.self.now c.args.first) (set_at c.args.self.now c.args.second) =
    c.in_ok-become_meet.ensures.ok ∙ (λ i. meet (c.set.ensures.set i) (c.set-2.ensures.set i)) in
    subst Says both c.number_of.ensures.numbered
