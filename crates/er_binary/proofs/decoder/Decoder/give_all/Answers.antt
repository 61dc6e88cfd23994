-- One record more: its text goes behind what was given.
use Rattle.std.proofs.Common.{◌≡◌, ◌-◌, ◌++◌, List, ℕ, length, take, sym, ap, ◌∙◌, arith, rules, append_assoc}
use borrow.Rule.Slice.PartMut.{post_of, put_mid}
use Rattle.er_binary.specs.Inner.Decoders.{still}
use Rattle.er_binary.proofs.FillLemmas.{filled}
use Rattle.er_binary.proofs.decoder.Decoder.give_all.Goals as goal
use Rattle.er_binary.proofs.NotesLaws.{notes_trans}
use Rattle.er_binary.proofs.WordsLaws.{kept_alike, kept_on}

pub loop-count-preserved : goal.loop-count-preserved
loop-count-preserved g c =
    let count = c.loop-count.count in
    let n = c.give.result in
    let buffer = c.loop-count.buffer in
    let buf = c.give.new.buffer in
    let tail = post_of count (length buffer - count) buffer in
    let len : length (put_mid count (length buffer - count) buffer buf) ≡ length buffer = search rules in
    let room : length buf ≡ length buffer - count = search rules in record {
      within = omega arith;
      gives = λ rest. c.loop-count.invariant.gives rest
          ∙ ap (λ (t : List ℕ). take count buffer ++ t) (c.next_record.ensures.same rest ∙ c.give.ensures.gives rest)
          ∙ sym (append_assoc (take count buffer) (take n buf) _)
          ∙ ap (λ (t : List ℕ). t ++ still c.give.new.self rest) (sym (filled buffer buf tail count n c.loop-count.invariant.within c.give.ensures.bound));
      given = λ less. c.give.ensures.given (omega arith);
      kept = kept_on _ _ _ c.loop-count.invariant.kept (kept_on _ _ _ c.next_record.ensures.kept (kept_alike _ _ c.give.ensures.state));
      noted = notes_trans _ _ _ c.loop-count.invariant.noted (notes_trans _ _ _ c.next_record.ensures.noted c.give.ensures.noted);
    }

pub loop-count-init : goal.loop-count-init
loop-count-init g c = record {
  within = c.give-count.ensures.bound;
  gives = λ rest. c.give-count.ensures.gives rest;
  given = λ less. c.give-count.ensures.given less;
  kept = kept_alike _ _ c.give-count.ensures.state;
  noted = c.give-count.ensures.noted;
}
