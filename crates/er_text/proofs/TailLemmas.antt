-- What one line does to how the lines before end.
use Rattle.std.proofs.Common.{◌≡◌, List, [], Option, Some, None, refl, sym, ap, ◌∙◌}
use Rattle.er_lines.specs.Lines.{Placed}
use Rattle.er_text.specs.Places.{Tail}
use Rattle.er_text.specs.Inner.Endings.{tail_after, tail_past, KeepsTail}
use Rattle.er_lines.specs.Lending.{LineThen, IsNothing}

-- a line that is passed over
pub tail_on : (left rest : Option (List Placed)) (p : Placed) (before after_it : Tail) → LineThen left p rest → after_it ≡ tail_past before p → KeepsTail left rest before after_it
tail_on None rest p before after_it first is = tt
tail_on (Some left) None p before after_it first is = first
tail_on (Some left) (Some rest) p before after_it first is =
    ap (λ (ls : List Placed). tail_after before ls) first ∙ ap (λ (t : Tail). tail_after t rest) (sym is)

-- no line is left
pub tail_end : (left : Option (List Placed)) (before : Tail) → IsNothing left → KeepsTail left (Some []) before before
tail_end None before none = tt
tail_end (Some left) before none = ap (λ (ls : List Placed). tail_after before ls) none

-- lines, one behind the other
pub tail_start : (all : Option (List Placed)) (before : Tail) → KeepsTail all all before before
tail_start None before = tt
tail_start (Some all) before = refl

pub tail_goes_on : (all left rest : Option (List Placed)) (first before after_it : Tail) → KeepsTail all left first before → KeepsTail left rest before after_it
    → KeepsTail all rest first after_it
tail_goes_on None left rest first before after_it on turn = tt
tail_goes_on (Some all) None rest first before after_it on turn = absurd on
tail_goes_on (Some all) (Some left) None first before after_it on turn = turn
tail_goes_on (Some all) (Some left) (Some rest) first before after_it on turn = on ∙ turn
