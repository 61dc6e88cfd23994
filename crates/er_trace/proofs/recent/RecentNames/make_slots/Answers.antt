-- A new slot has no name.
use Rattle.std.proofs.Common.{◌≡◌, ◌<◌, List, arith, rules, sym, subst}
use Rattle.std.specs.List.{All}
use Rattle.std.proofs.lemmas.List.Elements.{All-replicate}
use Rattle.er_trace.specs.declared.recent.Slot.{Slot}
use Rattle.er_trace.specs.Inner.Recent.{bytes_of, IsRight}
use Rattle.er_trace.proofs.recent.RecentNames.make_slots.Goals as goal

pub returns-in-Ok : goal.returns-in-Ok
returns-in-Ok c = λ names right.
    let none = c.default-none.result in
    let empty : none.name.len ≡ 0 = search rules in
    let P : Slot → Type 0 = λ slot. 0 < slot.name.len → IsRight names (bytes_of slot.name) slot.number in
    let Q : List Slot → Type 0 = λ slots. All P slots in
    subst Q (sym (c.in-Ok.ensures.items_if_clones_equal (λ y same. same))) (All-replicate P 4096 none (λ some. absurd (omega (arith, empty))))

pub returns-in_default : goal.returns-in_default
returns-in_default c = λ names right. right
