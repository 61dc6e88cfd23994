use Rattle.std.proofs.Common.{◌∙◌, cond, map, inl, inr, refl, sym, ap, arith}
use Rattle.er_epochs.specs.Words.{blank, said, word_at}
use Rattle.er_epochs.proofs.Places.{emptied_next, emptied_none, emptied_all}
use Rattle.er_epochs.proofs.block.empty.Goals as goal
use Rattle.er_epochs.proofs.block.empty.Goals.{then-not-is_blank, else-not-is_blank}

pub loop-place-preserved : goal.loop-place-preserved
loop-place-preserved g c = elim c.if-not-is_blank.branch [
  | then-not-is_blank w ↦ rw w.words-is (record {
    long = w.put.ensures.long;
    words = emptied_next _ _ _ c.args.start c.loop-place.place c.loop-place.invariant.place c.loop-place.invariant.words (w.put.ensures.here ∙ w.emptied.ensures) w.put.ensures.others;
    place = omega (arith, c.loop-place.invariant.place);
    end = inr (omega (arith, c.loop-place-test.true));
  })
  | else-not-is_blank w ↦ rw w.words-is (record {
    long = c.loop-place.invariant.long;
    words = emptied_next _ _ _ c.args.start c.loop-place.place c.loop-place.invariant.place c.loop-place.invariant.words (sym c.get-word.ensures.said ∙ c.is_blank.ensures w.if-not-is_blank.false) (λ i apart. refl);
    place = omega (arith, c.loop-place.invariant.place);
    end = inr (omega (arith, c.loop-place-test.true));
  })
]

pub loop-place-init : goal.loop-place-init
loop-place-init g c = record {
  long = c.requires.long;
  words = emptied_none _ c.args.start;
  place = omega arith;
  end = inl (omega arith);
}

pub returns-clause-emptied : goal.returns-clause-emptied
returns-clause-emptied g c = λ i.
    c.loop-place.invariant.words i
    ∙ ap (λ b. cond b blank (word_at (map said c.args.words.now.items) i))
    (emptied_all c.args.start c.args.end c.loop-place.place i c.loop-place.invariant.place c.loop-place.invariant.end (omega (arith, c.loop-place-test.false)))
