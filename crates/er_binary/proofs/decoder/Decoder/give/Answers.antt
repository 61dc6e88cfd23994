use Rattle.std.proofs.Common.{List, ℕ, take, drop, ap, ◌∙◌, refl}
use Rattle.er_binary.specs.Meaning.{as_text}
use Rattle.er_binary.specs.Inner.Decoders.{still, undecoded, to_note}
use Rattle.er_binary.proofs.DecoderLaws.{piece_given}
use Rattle.er_binary.proofs.decoder.Decoder.give.Goals as goal

pub returns-clause-gives : goal.returns-clause-gives
unfolding still
returns-clause-gives c = λ rest.
    let d = c.args.self.now in
    let n = c.copy_front-count.result in
    let copied = c.copy_front-count.ensures.bytes ∙ ap (λ (t : List ℕ). take n t) (c.split_at.ensures.back ∙ ap (λ (t : List ℕ). drop d.given t) c.deref.ensures.value) in
    piece_given d.text.items c.copy_front-count.new.to (undecoded as_text d.phase d rest) d.given n copied

pub returns-clause-noted : goal.returns-clause-noted
unfolding to_note
returns-clause-noted c = record { on = refl; same = λ is rest. refl }
