-- One part more, which has a name. Behind the last one stands nothing.
use Rattle.std.proofs.Common.{ℕ, List, ◌++◌, ◌∙◌, ap, subst, sym}
use Rattle.std.proofs.lemmas.List.{append-nil}
use Rattle.er_print.proofs.LineLemmas.{one_more, no_more}
use Rattle.er_print.proofs.PieceLemmas.{has_name, joined}
use Rattle.er_print.specs.Pieces.{HasPieceName, piece_text}
use Rattle.er_print.proofs.pieces.put_all.Goals as goal

pub loop-piece-init : goal.loop-piece-init
loop-piece-init c = sym (append-nil _)

pub put_piece-requires : goal.put_piece-requires
put_piece-requires c =
    subst (HasPieceName c.args.names.now) (sym c.piece-item.is) (has_name c.args.names.now c.args.pieces.now c.loop-piece.piece-index c.piece-item.result c.loop-piece-test.true c.requires)

pub loop-piece-preserved : goal.loop-piece-preserved
loop-piece-preserved c =
    one_more (piece_text c.args.style c.args.names.now) c.args.pieces.now _ _ c.piece-item.result _ _ _ c.loop-piece-test.true c.piece-item.is
    c.loop-piece.invariant c.in_ok-put_piece.ensures

pub returns-clause-text : goal.returns-clause-text
returns-clause-text c = no_more (piece_text c.args.style c.args.names.now) _ _ c.args.pieces.now _ c.loop-piece-test.false c.loop-piece.invariant

pub returns-clause-joined : goal.returns-clause-joined
returns-clause-joined c =
    no_more (piece_text c.args.style c.args.names.now) _ _ c.args.pieces.now _ c.loop-piece-test.false c.loop-piece.invariant
    ∙ ap (λ (text : List ℕ). c.args.out.now.items ++ text) (joined c.args.style c.args.names.now c.args.pieces.now)
