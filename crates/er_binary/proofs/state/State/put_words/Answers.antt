-- One line more, and none behind the last.
use Rattle.std.proofs.Common.{◌≡◌, ◌-◌, ◌/◌, ◌+◌, codes, if◌then◌else◌, ◌*◌, ◌++◌, ℕ, List, sym, ap, ◌∙◌, arith, append_assoc}
use Rattle.std.proofs.lemmas.List.{append-nil}
use Rattle.er_binary.specs.Numbers.{address_word}
use Rattle.er_binary.specs.Texts.{access_lines, feed, site, thread_does}
use Rattle.er_binary.proofs.LineLemmas.{lines_step, lines_none}
use Rattle.er_binary.proofs.TextLemmas.{put_four}
use Rattle.er_binary.proofs.state.State.put_words.Goals.{then-words, else-words}
use Rattle.er_binary.proofs.state.State.put_words.Goals as goal

pub loop-word-preserved : goal.loop-word-preserved
loop-word-preserved c =
    let s = c.args.self.now in
    let verb = c.if-words.verb.now in
    let node = c.args.words.now.node in
    let word = c.loop-word.word in
    let line = thread_does s verb ++ address_word (4 * word) ++ site s node ++ feed in
    let put = put_four _ _ _ _ _ _ _ _ _ c.in_ok-put_thread.ensures c.in_ok-put_address.ensures c.in_ok-put_site.ensures c.in_ok-extend_from_slice.ensures.items in
    let rest = access_lines s verb node (word + 1) (c.args.words.now.end - (word + 1)) in record {
      text = ap (λ (t : List ℕ). t ++ rest) put ∙ append_assoc c.loop-word.out.items line rest
          ∙ ap (λ (t : List ℕ). c.loop-word.out.items ++ t) (sym (lines_step s verb node word c.args.words.now.end (omega arith))) ∙ c.loop-word.invariant.text;
    }

pub returns : goal.returns
returns c =
    let s = c.args.self.now in
    let verb = c.if-words.verb.now in
    let node = c.args.words.now.node in
    let is : verb ≡ (if c.args.words.now.writes then codes "write" else codes "read") =
    elim c.if-words.branch [ then-words w ↦ rw (w.if-words.true, w.verb-is) w.as_slice-verb.ensures | else-words w ↦ rw (w.if-words.false, w.verb-is) w.as_slice-verb-else-words.ensures ] in
    sym (append-nil c.loop-word.out.items) ∙ ap (λ (t : List ℕ). c.loop-word.out.items ++ t) (sym (lines_none s verb node c.loop-word.word (c.args.words.now.end - c.loop-word.word) (omega arith)))
    ∙ c.loop-word.invariant.text
    ∙ ap (λ (v : List ℕ). c.args.out.now.items ++ access_lines s v node (c.args.words.now.at / 4) (c.args.words.now.end - c.args.words.now.at / 4)) is
