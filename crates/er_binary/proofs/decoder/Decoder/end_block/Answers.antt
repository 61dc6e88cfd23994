use Rattle.std.proofs.Common.{◌≡◌, ◌==◌, ◌+◌, true, false, ℕ, refl, sym, ap, ◌∙◌, arith, ◌++◌, append-nil}
use Rattle.std.proofs.lemmas.Bool.Decides.{nat_tests}
use Rattle.er_binary.specs.Meaning.{as_text, as_touches}
use Rattle.er_binary.specs.Inner.Decoders.{all_blocks}
use Rattle.er_binary.specs.Numbers.{plus}
use Rattle.er_binary.proofs.DecoderLaws.{end_is, given_is}
use Rattle.er_binary.proofs.TextLemmas.{either_way}
use Rattle.er_binary.proofs.decoder.Decoder.end_block.Goals as goal
use Rattle.er_binary.proofs.NotesLaws.{noted_blocks, noted_end}

pub returns-then-self-from-clause-same : goal.returns-then-self-from-clause-same
returns-then-self-from-clause-same c = λ rest.
    let d = c.args.self.now in
    let other : (d.spot.found == d.spot.count) ≡ false = grind (arith, nat_tests, c.if-self-from.true) in
    either_way c.stop.result c.stop.ensures.ok c.stop.ensures.err
    (λ ok. end_is d rest c.requires.given c.requires.phase c.requires.next ∙ rw other refl ∙ sym (ok rest)) (λ err. err rest)

pub returns-clause-same : goal.returns-clause-same
returns-clause-same c = λ rest.
    let d = c.args.self.now in
    let equal : (d.spot.found == d.spot.count) ≡ true = grind (arith, nat_tests, c.if-self-from.false) in
    end_is d rest c.requires.given c.requires.phase c.requires.next ∙ rw equal refl
    ∙ ap (λ (k : ℕ). all_blocks as_text (plus d.spot.block 1) (plus d.spot.start (16 + k)) d.state rest) (sym c.len.ensures) ∙ sym (given_is _ rest c.requires.given)

pub returns-then-self-from-clause-noted : goal.returns-then-self-from-clause-noted
returns-then-self-from-clause-noted c =
    let d = c.args.self.now in
    let other : (d.spot.found == d.spot.count) ≡ false = grind (arith, nat_tests, c.if-self-from.true) in
    either_way c.stop.result c.stop.ensures.touches c.stop.ensures.same
    (λ ok. record { on = c.stop.ensures.on; same = λ is rest. noted_end d rest c.requires.phase c.requires.next ∙ rw other (append-nil _) ∙ sym (ok rest) })
    (λ err. err)

pub returns-clause-noted : goal.returns-clause-noted
returns-clause-noted c =
    let d = c.args.self.now in
    let equal : (d.spot.found == d.spot.count) ≡ true = grind (arith, nat_tests, c.if-self-from.false) in
    record {
      on = refl;
      same = λ is rest. noted_end d rest c.requires.phase c.requires.next ∙ rw equal refl
          ∙ ap (λ (k : ℕ). d.notes.touches.items ++ all_blocks as_touches (plus d.spot.block 1) (plus d.spot.start (16 + k)) d.state rest d.notes.line) (sym c.len.ensures)
          ∙ sym (noted_blocks _ rest refl);
    }
