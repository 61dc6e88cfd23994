use Rattle.std.proofs.Common.{drop, sym, ap, ◌∙◌}
use Rattle.std.proofs.lemmas.List.{take-append-drop}
use Rattle.er_lines.specs.Places.{Place}
use Rattle.er_lines.proofs.lines.LineReader.ahead.Goals as goal

pub returns-clause-front : goal.returns-clause-front
returns-clause-front c =
    let bytes = c.as_slice-bytes.result.now in
    let len = c.whole_len-len.result in
    (drop len bytes, sym (ap (λ (p : Place). p.ahead) c.self.view_is) ∙ sym c.as_slice-bytes.ensures.value ∙ sym (take-append-drop len bytes))
