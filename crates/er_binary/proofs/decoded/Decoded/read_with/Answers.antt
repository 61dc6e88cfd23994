-- Once the first bytes are read, the rest is read as a text or by the decoder.
use Rattle.std.proofs.Common.{refl, sym, ◌∙◌}
use Rattle.er_binary.specs.Decoded.{to_come, to_touch}
use Rattle.er_binary.specs.Inner.Decoders.{still, to_note}
use Rattle.er_binary.proofs.DecodedLaws.{binary_is, read_as, read_kept, binary_noting, binary_touch, stays_as}
use Rattle.er_binary.proofs.decoded.Decoded.read_with.Goals as goal
use Rattle.er_binary.proofs.NotesLaws.{stays_trans}
use Rattle.er_binary.proofs.WordsLaws.{kept_on}

pub returns-in-Binary-clause-bytes : goal.returns-in-Binary-clause-bytes
returns-in-Binary-clause-bytes g c =
    let d = c.begin.new.self in
    read_kept _ _ _ _ _ c.begin.ensures.same
    (read_as (to_come d) (to_come _) (still c.in-Binary.decoder) (still c.read.new.self) _ _ _ _ (λ rest. binary_is d c.in-Binary.decoder rest c.in-Binary.is)
    (λ rest. binary_is _ c.read.new.self rest refl) c.read.ensures.bytes)

pub returns-in_default : goal.returns-in_default
unfolding to_come to_touch
returns-in_default g c = record {
  bound = c.read_text.ensures.bound;
  bytes = read_kept _ _ _ _ _ c.begin.ensures.same c.read_text.ensures.bytes;
  noting = c.read_text.ensures.noting ∙ c.begin.ensures.noting;
  names = kept_on _ _ _ c.begin.ensures.names c.read_text.ensures.names;
  touches = λ on. stays_trans _ _ _ (c.begin.ensures.touches on) (c.read_text.ensures.touches (c.begin.ensures.noting ∙ on));
}

pub returns-in-Binary-clause-noting : goal.returns-in-Binary-clause-noting
returns-in-Binary-clause-noting g c = c.read.ensures.on ∙ sym (binary_noting c.begin.new.self c.in-Binary.decoder c.in-Binary.is) ∙ c.begin.ensures.noting

pub returns-in-Binary-clause-touches : goal.returns-in-Binary-clause-touches
returns-in-Binary-clause-touches g c = λ on.
    let d = c.begin.new.self in
    stays_trans _ _ _ (c.begin.ensures.touches on)
    (stays_as (to_touch d) (to_touch _) (to_note c.in-Binary.decoder) (to_note c.read.new.self) _ _ (λ rest. binary_touch d c.in-Binary.decoder rest c.in-Binary.is)
    (λ rest. binary_touch _ c.read.new.self rest refl) (c.read.ensures.noted (sym (binary_noting d c.in-Binary.decoder c.in-Binary.is) ∙ c.begin.ensures.noting ∙ on)))
