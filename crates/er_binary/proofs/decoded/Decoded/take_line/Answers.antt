-- The decoder takes a line, or nothing changes.
use Rattle.std.proofs.Common.{◌++◌, List, ℕ, refl, sym, ap, ◌∙◌}
use Rattle.er_binary.specs.Decoded.{to_come}
use Rattle.er_lines.specs.Ready.{line_text}
use Rattle.er_binary.specs.States.{names_in}
use Rattle.er_binary.proofs.DecodedLaws.{binary_is, taken_as, binary_noting, binary_touch}
use Rattle.er_binary.proofs.TextLemmas.{none_then, some_then}
use Rattle.er_binary.proofs.decoded.Decoded.take_line.Goals as goal

pub returns-in-Binary-clause-taken : goal.returns-in-Binary-clause-taken
returns-in-Binary-clause-taken g c =
    let d = c.args.self.now in
    let old = c.in-Binary.decoder in
    let new = c.take.new.self in
    taken_as (to_come d) (to_come _) (λ line. line_text (names_in new.state) line) _ c.take.result
    (none_then c.take.result c.take.ensures.none (λ same rest. binary_is d old rest c.in-Binary.is ∙ same rest ∙ sym (binary_is _ new rest refl)))
    (some_then c.take.result c.take.ensures.some
    (λ line gives rest. binary_is d old rest c.in-Binary.is ∙ gives rest ∙ ap (λ (t : List ℕ). line_text (names_in new.state) line ++ t) (sym (binary_is _ new rest refl))))

pub returns-in-Binary-clause-noting : goal.returns-in-Binary-clause-noting
returns-in-Binary-clause-noting g c = c.take.ensures.noted.on ∙ sym (binary_noting c.args.self.now c.in-Binary.decoder c.in-Binary.is)

pub returns-in-Binary-clause-touches : goal.returns-in-Binary-clause-touches
returns-in-Binary-clause-touches g c = λ on bytes.
    let d = c.args.self.now in
    let old = c.in-Binary.decoder in
    binary_touch d old bytes c.in-Binary.is ∙ c.take.ensures.noted.same (sym (binary_noting d old c.in-Binary.is) ∙ on) bytes ∙ sym (binary_touch _ c.take.new.self bytes refl)
