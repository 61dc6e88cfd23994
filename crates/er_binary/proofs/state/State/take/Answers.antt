use Rattle.std.proofs.Common.{◌++◌, refl, sym, ap, ◌∙◌}
use Rattle.er_binary.specs.Inner.Words.{passed, words_at, words_text}
use Rattle.er_binary.specs.States.{is_access}
use Rattle.er_binary.specs.declared.state.Words.{Words}
use Rattle.er_binary.proofs.MeaningLaws.{take_none, take_some}
use Rattle.er_binary.proofs.WordsLaws.{words_by, words_no}
use Rattle.er_binary.proofs.state.State.take.Goals as goal

pub returns-in_default-clause-taken : goal.returns-in_default-clause-taken
returns-in_default-clause-taken c = rw (take_none c.args.self.now c.args.bytes.now (sym c.record_at.ensures.value ∙ c.in_default.is)) (refl, refl, refl)

pub returns-in_default-words_of-clause-taken : goal.returns-in_default-words_of-clause-taken
returns-in_default-words_of-clause-taken c =
    let s = c.args.self.now in
    let a = c.in-Access.access in
    let none = words_no (is_access s a) (words_at s a) _ c.words_of.ensures.words c.in_default-words_of.is in
    rw (take_some s c.args.bytes.now c.in-Some.head (sym c.in-Some.ensures.value), ← c.split_at.ensures.back, c.in-Access.is, none) (refl, refl, refl)

pub returns-in_ok-put_words-in-Access-clause-taken : goal.returns-in_ok-put_words-in-Access-clause-taken
returns-in_ok-put_words-in-Access-clause-taken c =
    let s = c.args.self.now in
    let a = c.in-Access.access in
    let h = words_by (is_access s a) (words_at s a) c.in-Some-words_of.words _ c.words_of.ensures.words c.in-Some-words_of.is in
    rw (take_some s c.args.bytes.now c.in-Some.head (sym c.in-Some.ensures.value), ← c.split_at.ensures.back, c.in-Access.is, h.0)
    (refl, c.in_ok-put_words-in-Access.ensures ∙ ap (λ (w : Words). c.args.out.now.items ++ words_text s w) h.1, c.pass.ensures ∙ ap (λ (w : Words). passed s w) h.1)

pub returns-in-Other-clause-taken : goal.returns-in-Other-clause-taken
returns-in-Other-clause-taken c =
    rw (take_some c.args.self.now c.args.bytes.now c.in-Some.head (sym c.in-Some.ensures.value), ← c.split_at.ensures.back, c.in-Other.is) c.take_other.ensures.taken
