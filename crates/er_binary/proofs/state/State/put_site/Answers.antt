use Rattle.std.proofs.Common.{◌≡◌, ◌==◌, ◌++◌, true, false, ℕ, List, sym, ap, ◌∙◌, arith}
use Rattle.std.proofs.lemmas.Bool.Decides.{nat_tests}
use Rattle.std.proofs.lemmas.List.{append-nil}
use Rattle.std.proofs.lemmas.Result.{on_ok_weaker}
use Rattle.er_binary.specs.Nodes.{node_at}
use Rattle.er_binary.specs.Numbers.{name_at}
use Rattle.er_binary.specs.declared.nodes.Node.{Node}
use Rattle.er_binary.specs.Texts.{word}
use Rattle.er_binary.proofs.state.State.put_site.Goals as goal

pub returns-then-node-eq0 : goal.returns-then-node-eq0
returns-then-node-eq0 c =
    let none : (c.args.node == 0) ≡ true = grind (arith, nat_tests, c.if-node-eq0.true) in rw none (sym (append-nil c.args.out.now.items))

pub returns : goal.returns
returns c =
    let some : (c.args.node == 0) ≡ false = grind (arith, nat_tests, c.if-node-eq0.false) in
    let s = c.args.self.now in
    let shown = c.get-shown.ensures ∙ ap (λ (m : Node). node_at s.nodes m.shown) c.get.ensures in
    let name = c.get-name.ensures ∙ ap (λ (n : ℕ). name_at s.places n) (c.from.ensures ∙ ap (λ (m : Node). m.place) shown) in
    rw some (on_ok_weaker c.put_word.result (λ put. put ∙ ap (λ (w : List ℕ). c.args.out.now.items ++ word w) name) c.put_word.ensures)
