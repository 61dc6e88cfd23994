use Rattle.std.proofs.Common.{◌≡◌, ℕ, ◌++◌, List, length, sym, ap, ◌∙◌, arith}
use Rattle.std.specs.List.{position_or_len}
use Rattle.std.proofs.lemmas.List.{nil_from_length, append-nil}
use Rattle.er_lines.specs.Lines.{is_end}
use Rattle.er_lines.specs.Inner.Windows.{items}
use Rattle.er_lines.proofs.WordLemmas.{place_le}
use Rattle.er_lines.proofs.windows.Window.find.Goals as goal

pub returns-then-branch-eq0-clause-front : goal.returns-then-branch-eq0-clause-front
returns-then-branch-eq0-clause-front g c =
    let read = c.in_ok-read.ensures.bytes in
    let none = nil_from_length read.0 (read.1 ∙ c.if-branch-eq0.true) in
    let moved : items c.move_to_front.new.self ≡ items c.loop-bytes.self = c.move_to_front.ensures.items in
    let same : items c.read.new.self ≡ items c.loop-bytes.self = read.2 ∙ ap (λ (t : List ℕ). items c.move_to_front.new.self ++ t) none ∙ append-nil _ ∙ moved in
    let bytes = c.as_slice-bytes.result.now in
    let shown : bytes ≡ items c.read.new.self = c.as_slice-bytes.ensures.value ∙ sym same in
    let whole : c.line_len-len.result ≡ length bytes = omega (arith, c.line_len-len.ensures, place_le is_end bytes, c.if-len-bytes.false) in (
      c.line_len-len.ensures ∙ ap (position_or_len is_end) shown,
      whole ∙ ap length shown,
      omega arith,
      c.in_ok-read.ensures.end c.if-branch-eq0.true,
    )
