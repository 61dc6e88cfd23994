-- Each part is plain.
use Rattle.std.proofs.Common.{ap, codes, refl}
use Rattle.er_exit.specs.Plain.{is_plain}
use Rattle.er_exit.specs.Written.{line_text, part_text}
use Rattle.er_exit.proofs.PlainLemmas.{plain_line, plain_more, plain_part}
use Rattle.er_exit.proofs.advice.text_of.Goals as goal

pub returns : goal.returns
returns c =
    plain_more c.put_quote.new.out.items (part_text c.args.label.now c.args.note.now 18446744073709551615 (codes "\n")) _
    (plain_more c.put_part.new.out.items (line_text c.args.line.now c.args.place) _
    (plain_more c.new-text.result.items (part_text (codes "  in ") c.args.path.now 100 (codes ":\n")) _ (ap is_plain c.new-text.ensures.items)
    (plain_part (codes "  in ") c.args.path.now 100 (codes ":\n") refl refl) c.in_ok-put_part.ensures)
    (plain_line c.args.line.now c.args.place) c.in_ok-put_quote.ensures)
    (plain_part c.args.label.now c.args.note.now 18446744073709551615 (codes "\n") c.requires.label refl) c.in_ok-put_part-2.ensures
