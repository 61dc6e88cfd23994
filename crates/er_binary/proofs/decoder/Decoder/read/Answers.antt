-- Behind the last line nothing is left.
use Rattle.std.proofs.Common.{◌≡◌, ◌++◌, [], ℕ, take, ap, ◌∙◌, arith, refl}
use Rattle.er_binary.specs.Meaning.{as_text}
use Rattle.er_binary.specs.Inner.Decoders.{still, undecoded, to_note}
use Rattle.er_binary.specs.declared.decoder.Phase.{Phase}
use Rattle.er_binary.proofs.DecoderLaws.{ends_at, given_is, gives_by}
use Rattle.er_binary.proofs.decoder.Decoder.read.Goals as goal
use Rattle.er_binary.proofs.NotesLaws.{stays_same}

pub returns-in-Nothing-clause-bytes : goal.returns-in-Nothing-clause-bytes
returns-in-Nothing-clause-bytes g c =
    let e = c.give_all.new.self in
    let none : c.in_ok-count.count ≡ 0 = omega (arith, c.if-count-gt0.false) in (
      gives_by (still c.args.self.now) (still c.loop.self) (still e) _ _ [] c.loop.invariant.same
          (λ rest. c.in_ok-count.ensures.gives rest ∙ ap (λ (k : ℕ). take k c.give_all.new.buffer ++ still e rest) none),
      λ zero room. ends_at (still e) _ (λ rest. given_is e rest (c.in_ok-count.ensures.given none room) ∙ ap (λ (p : Phase). undecoded as_text p e rest) c.in-Nothing.is),
    )

pub returns-then-is_empty-clause-noted : goal.returns-then-is_empty-clause-noted
returns-then-is_empty-clause-noted g c = λ is. stays_same (to_note c.args.self.now) (to_note c.args.self.now) _ (λ rest. refl)
