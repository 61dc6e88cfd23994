use Rattle.std.proofs.Common.{◌≡◌, ℕ, ◌-◌, List, ◌∷◌, [], ◌++◌, sym, ap, ◌∙◌, append_assoc}
use Rattle.std.proofs.lemmas.List.{append-nil}
use Rattle.std.proofs.lemmas.Result.{on_ok_weaker}
use Rattle.er_binary.specs.Nodes.{way_out}
use Rattle.er_binary.specs.declared.nodes.Node.{Node}
use Rattle.er_binary.proofs.NodeLemmas.{way_end, way_more, way_none}
use Rattle.er_binary.proofs.nodes.+put_way.Goals.{then-count-eq0-via-then-count-eq0, then-count-eq0-via-else-count-eq0+then-node-eq0}
use Rattle.er_binary.proofs.nodes.+put_way.Goals as goal

pub returns-then-count-eq0 : goal.returns-then-count-eq0
returns-then-count-eq0 t c =
    let nodes = c.args.nodes.now in
    let none : way_out nodes c.args.count c.args.node ≡ [] = elim c.then-count-eq0.branch [
      | then-count-eq0-via-then-count-eq0 w ↦ way_none nodes c.args.count c.args.node w.if-count-eq0.true
      | then-count-eq0-via-else-count-eq0+then-node-eq0 w ↦ way_end nodes c.args.count c.args.node w.if-node-eq0.true
    ] in
    sym (ap (λ (w : List ℕ). c.args.places.now.items ++ w) none ∙ append-nil _)

pub returns : goal.returns
returns t c =
    let nodes = c.args.nodes.now in
    let at = c.get-at.result in
    let rest = way_out nodes (c.args.count - 1) at.caller in
    on_ok_weaker c.put_way.result
    (λ more. more ∙ ap (λ (w : List ℕ). w ++ rest) c.in_ok-push.ensures.items ∙ append_assoc c.args.places.now.items (at.place ∷ []) rest
    ∙ ap (λ (w : List ℕ). c.args.places.now.items ++ w)
    (ap (λ (m : Node). m.place ∷ way_out nodes (c.args.count - 1) m.caller) c.get-at.ensures ∙ sym (way_more nodes c.args.count c.args.node c.if-count-eq0.false c.if-node-eq0.false)))
    c.put_way.ensures
