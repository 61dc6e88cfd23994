use Rattle.std.proofs.Common.{ℕ, ◌/◌, ◌-◌, List, [], ◌∷◌, ◌++◌, sym, ap, ◌∙◌, append_assoc}
use Rattle.std.proofs.lemmas.List.{append-nil}
use Rattle.er_lines.specs.Number.{hex_digits}
use Rattle.er_lines.proofs.DigitLemmas.{hex_none, hex_more}
use Rattle.er_lines.proofs.numbers.+put_hex.Goals as goal

pub returns-then-count-eq0 : goal.returns-then-count-eq0
returns-then-count-eq0 t c = sym (ap (λ (h : List ℕ). c.args.out.now.items ++ h) (hex_none c.args.count c.args.n c.if-count-eq0.true) ∙ append-nil _)

pub returns : goal.returns
returns t c =
    let front = hex_digits (c.args.count - 1) (c.args.n / 16) in
    c.in_ok-push.ensures.items
    ∙ ap (λ (h : List ℕ). h ++ c.hex_digit.result ∷ []) c.in_ok-put_hex.ensures
    ∙ append_assoc c.args.out.now.items front (c.hex_digit.result ∷ [])
    ∙ ap (λ (d : ℕ). c.args.out.now.items ++ (front ++ d ∷ [])) c.hex_digit.ensures
    ∙ sym (ap (λ (h : List ℕ). c.args.out.now.items ++ h) (hex_more c.args.count c.args.n c.if-count-eq0.false))
