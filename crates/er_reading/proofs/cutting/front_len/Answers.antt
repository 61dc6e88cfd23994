use Rattle.std.proofs.Common.{◌≡◌, ℕ, ◌+◌, ◌-◌, ◌<◌, List, ap, take, drop, get_or, length, sym, subst, ◌∙◌, arith}
use Rattle.std.proofs.lemmas.Bool.{eqb-true}
use Rattle.std.proofs.lemmas.List.{get_or-drop, length-drop, take_all, take-append-drop}
use Rattle.er_lines.specs.Lines.{AreWhole}
use Rattle.er_lines.proofs.WholeLemmas.{whole_front, whole_rest}
use Rattle.er_reading.proofs.cutting.front_len.Goals as goal

pub returns-in-Some-clause-front : goal.returns-in-Some-clause-front
returns-in-Some-clause-front c =
    let bytes = c.args.bytes.now in
    let least = c.args.least in
    let at = c.in-Some.at in
    let inside : least + at < length bytes = omega (arith, c.in-Some.ensures.0.high, length-drop least bytes) in
    let rest = take (length bytes - least) (drop least bytes) in
    let all : rest ≡ drop least bytes = take_all (length bytes - least) (drop least bytes) (omega (arith, length-drop least bytes)) in
    let ends : get_or rest at 0 ≡ 10 = eqb-true (get_or rest at 0) 10 c.in-Some.ensures.1 in
    whole_front (least + at) bytes inside (sym (get_or-drop least bytes at 0) ∙ ap (λ (l : List ℕ). get_or l at 0) (sym all) ∙ ends)

pub returns-in-Some-clause-back : goal.returns-in-Some-clause-back
returns-in-Some-clause-back c =
    let bytes = c.args.bytes.now in
    let n = c.args.least + c.in-Some.at + 1 in
    whole_rest (take n bytes) (drop n bytes) (returns-in-Some-clause-front c) (subst AreWhole (sym (take-append-drop n bytes)) c.requires.whole)
