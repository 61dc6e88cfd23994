use Rattle.std.proofs.Common.{ℕ, sym, ap, ◌∙◌}
use Rattle.er_binary.specs.Touches.{touch_at}
use Rattle.er_binary.proofs.NotesLaws.{word_part, word_whole}
use Rattle.er_binary.proofs.touches.Notes.note_word.Goals as goal

pub returns-then-is_whole-clause-touches : goal.returns-then-is_whole-clause-touches
returns-then-is_whole-clause-touches c = word_whole c.args.self.now.touches.items c.touch_at-touch.result _ (c.touch_at-touch.ensures ∙ ap (λ (line : ℕ). touch_at line c.args.said c.args.k) c.saturating_add.ensures) (sym c.is_whole.ensures ∙ c.if-is_whole.true)

pub returns-clause-touches : goal.returns-clause-touches
returns-clause-touches c = word_part c.args.self.now.touches.items _ c.touch_at-touch.result _ (c.touch_at-touch.ensures ∙ ap (λ (line : ℕ). touch_at line c.args.said c.args.k) c.saturating_add.ensures) (sym c.is_whole.ensures ∙ c.if-is_whole.false) c.push_reserved.ensures.items
