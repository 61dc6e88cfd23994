use Rattle.std.specs.List.{range_with_len}
use Rattle.er_parts.proofs.Reasons.{same-reasons}
use Rattle.er_parts.proofs.Whole.{each-in-turn, merged-is}
use Rattle.er_parts.specs.Parts.{part_at}
use Rattle.er_parts.proofs.laws.parts_make_the_whole.Goals as goal

pub returns-clause-any_order : goal.returns-clause-any_order
returns-clause-any_order c = λ r rules explain n parts ordered some each.
    merged-is r rules explain n parts each some ordered (λ i. same-reasons (part_at n i) r rules explain)

pub returns-clause-in_turn : goal.returns-clause-in_turn
returns-clause-in_turn c = λ r rules explain n ordered some.
    merged-is r rules explain n (range_with_len 1 n) (each-in-turn n) some ordered (λ i. same-reasons (part_at n i) r rules explain)
