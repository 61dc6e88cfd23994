use Rattle.std.proofs.Common.{◌≡◌, List, refl, sym, subst}
use Rattle.std.specs.List.{All}
use Rattle.std.proofs.lemmas.List.Elements.{All-replicate}
use Rattle.er_text.specs.declared.numbers.Slot.{Slot}
use Rattle.er_text.proofs.numbers.empty_slots.Goals as goal

pub returns-in-Ok : goal.returns-in-Ok
returns-in-Ok c =
    let P : Slot → Type 0 = λ slot. slot.turn ≡ 0 in
    let Q : List Slot → Type 0 = λ slots. All P slots in
    subst Q (sym (c.in-Ok.ensures.items_if_clones_equal (λ y same. same))) (All-replicate P 12288 (record { turn = 0; kind = c.args.kind; name = 0; number = 0 }) refl)
