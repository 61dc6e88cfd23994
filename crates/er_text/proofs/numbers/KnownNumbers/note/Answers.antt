-- The number that is put is right, and those that were there stay.
use Rattle.std.proofs.Common.{◌≡◌}
use Rattle.er_text.specs.declared.numbers.Slot.{Slot}
use Rattle.er_text.specs.Inner.Numbers.{IsNumber}
use Rattle.er_text.proofs.KnownLemmas.{put_all}
use Rattle.er_text.proofs.numbers.KnownNumbers.note.Goals as goal

pub returns : goal.returns
returns c = λ names table right is.
    let P : Slot → Type 0 = λ slot. slot.turn ≡ c.make_slots.new.self.turn → IsNumber names table slot.kind slot.name slot.number in
    put_all P _ c.make_slots.new.self.slots.items c.put.new.slots.items c.slot_of.result (record { turn = c.make_slots.new.self.turn; kind = c.args.kind; name = c.args.name; number = c.args.number }) c.put.ensures (λ now. is) (c.make_slots.ensures.right names table right)
