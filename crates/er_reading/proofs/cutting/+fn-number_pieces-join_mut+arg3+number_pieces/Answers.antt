use Rattle.std.proofs.Common.{rules, ◌≡◌, List, All, ◌∷◌, subst}
use Rattle.std.proofs.lemmas.List.Elements.{All-head, All-tail}
use Rattle.er_text.specs.Pieces.{ReadPiece, CanBeNumbered}
use Rattle.er_reading.proofs.cutting.+fn-number_pieces-join_mut+arg3+number_pieces.Goals as goal

pub join_mut-requires-after_bounds : goal.join_mut-requires-after_bounds
join_mut-requires-after_bounds g t c κs within =
    let first = c.in-Some.first.now in
    let others = c.in-Some.others.now in
    let whole : c.args.pieces.now ≡ first ∷ others = search rules in
    let all : All CanBeNumbered (first ∷ others) = subst (λ (pieces : List ReadPiece). All CanBeNumbered pieces) whole c.requires in
    let one = All-head CanBeNumbered first others all in
    let more = All-tail CanBeNumbered first others all in
    search rules
