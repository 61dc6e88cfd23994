-- The slots are right before the name is put into its own.
use Rattle.std.proofs.Common.{◌<◌, sym, subst}
use Rattle.std.proofs.lemmas.List.Elements.{All-set}
use Rattle.er_trace.specs.declared.recent.Slot.{Slot}
use Rattle.er_trace.specs.declared.recent.RecentNames.{RecentNames}
use Rattle.er_trace.specs.Inner.Recent.{bytes_of, IsRight, AreRight}
use Rattle.er_trace.proofs.recent.RecentNames.remember.Goals as goal
use Rattle.er_trace.proofs.recent.RecentNames.remember.Goals.{then-is_empty, else-is_empty}

pub returns-then-place-len : goal.returns-then-place-len
returns-then-place-len c = λ names right knows.
    let P : RecentNames → Type 0 = λ recent. AreRight names recent in
    let Q : Slot → Type 0 = λ slot. 0 < slot.name.len → IsRight names (bytes_of slot.name) slot.number in
    let before : AreRight names c.if-is_empty.self = elim c.if-is_empty.branch [
      | then-is_empty w ↦ subst P (sym w.self-is) (w.make_slots.ensures names right)
      | else-is_empty w ↦ subst P (sym w.self-is) right
    ] in
    All-set Q c.if-is_empty.self.slots.items c.place_for-place.result (record { name = c.args.name; number = c.args.number }) (λ some. knows) before

pub returns-else-place-len : goal.returns-else-place-len
returns-else-place-len c = λ names right knows.
    let P : RecentNames → Type 0 = λ recent. AreRight names recent in
    elim c.if-is_empty.branch [
      | then-is_empty w ↦ subst P (sym w.self-is) (w.make_slots.ensures names right)
      | else-is_empty w ↦ subst P (sym w.self-is) right
    ]
