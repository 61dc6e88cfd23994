use Rattle.std.proofs.Common.{◌≡◌, ◌++◌, ℕ, ap, ◌∙◌, arith}
use Rattle.er_binary.specs.Touches.{touches_below, touches_said}
use Rattle.er_binary.proofs.NotesLaws.{one_more}
use Rattle.er_binary.proofs.touches.Notes.follow.Goals as goal

pub loop-k-preserved : goal.loop-k-preserved
loop-k-preserved c =
    let line = c.loop-k.invariant.line in
    record {
      on = c.note_word.ensures.on ∙ c.loop-k.invariant.on;
      line = c.note_word.ensures.line ∙ line;
      room = omega (arith, c.note_word.ensures.len, c.note_word.ensures.capacity, c.loop-k.invariant.room);
      noted = one_more c.args.self.now.line c.loop-k.k c.args.said c.args.self.now.touches.items c.loop-k.self.touches.items c.note_word.new.self.touches.items c.loop-k.invariant.noted
          (rw line at c.note_word.ensures.touches);
    }

pub returns-clause-touches : goal.returns-clause-touches
unfolding touches_said
returns-clause-touches c = λ on.
    let end : c.loop-k.k ≡ c.args.said.words = omega arith in
    c.loop-k.invariant.noted ∙ ap (λ (k : ℕ). c.args.self.now.touches.items ++ touches_below c.args.self.now.line c.args.said k) end
