-- The first bytes are given, and then what is read.
use Rattle.std.proofs.Common.{◌<◌, ◌≤◌, ◌++◌, List, ℕ, length, take, drop, sym, ap, ◌∙◌, arith, rules, length-drop}
use Rattle.std.proofs.KnownBytes.{Keeps-refl}
use Rattle.std.proofs.lemmas.List.{length-take-le}
use Rattle.er_binary.specs.Decoded.{to_come, to_touch}
use Rattle.er_binary.proofs.DecodedLaws.{read_through, text_is, text_read, stays_none, text_touch}
use Rattle.er_binary.proofs.DecoderLaws.{gives_by, piece_given}
use Rattle.er_binary.proofs.decoded.Decoded.read_text.Goals as goal
use Rattle.er_binary.proofs.NotesLaws.{stays_same}

pub returns-then-self-clause-bytes : goal.returns-then-self-clause-bytes
returns-then-self-clause-bytes g c =
    let d = c.args.self.now in
    let fits : d.held ≤ length d.first = search rules in
    read_through (to_come d) (to_come _) _ _ _ _ (λ rest. text_read d rest c.requires fits c.if-self.true) (λ rest. text_read _ rest c.requires fits c.if-self.true) c.read.ensures.bytes

pub returns-clause-bytes : goal.returns-clause-bytes
returns-clause-bytes g c =
    let d = c.args.self.now in
    let n = c.copy_front-count.result in
    let to = c.copy_front-count.new.to in
    let text = take d.held d.first in
    let fits : d.held ≤ length d.first = search rules in
    let copied = c.copy_front-count.ensures.bytes ∙ ap (λ (t : List ℕ). take n t) c.split_at.ensures.back in
    let some : 0 < length (drop d.given text) = omega (arith, length-drop d.given text, length-take-le d.held d.first fits, d.behind, c.if-self.false) in (
      gives_by (to_come d) (to_come d) (to_come _) _ _ (take n to) (Keeps-refl _)
          (λ rest. text_is d rest c.requires ∙ piece_given text to rest d.given n copied ∙ ap (λ (t : List ℕ). take n to ++ t) (sym (text_is _ rest c.requires))),
      λ none room. absurd (omega (arith, none, room, some, c.copy_front-count.ensures.count, ap length c.split_at.ensures.back)),
    )

pub returns-then-self-clause-touches : goal.returns-then-self-clause-touches
returns-then-self-clause-touches g c = λ on.
    stays_none (to_touch c.args.self.now) (to_touch _) _ _ _ _ (λ rest. text_touch c.args.self.now rest c.requires) (λ rest. text_touch _ rest c.requires) c.read.ensures.bytes

pub returns-clause-touches : goal.returns-clause-touches
returns-clause-touches g c = λ on.
    stays_same (to_touch c.args.self.now) (to_touch _) _ (λ rest. text_touch c.args.self.now rest c.requires ∙ sym (text_touch _ rest c.requires))
