use Rattle.std.proofs.Common.{◌++◌, ℕ, List, ap, ◌∙◌}
use Rattle.std.proofs.lemmas.Result.{on_ok_weaker}
use Rattle.er_binary.proofs.TextLemmas.{put_two}
use Rattle.er_binary.specs.Numbers.{name_at}
use Rattle.er_binary.proofs.state.State.put_thread.Goals as goal

pub returns : goal.returns
returns c =
    let name = c.get-name.ensures ∙ ap (λ (n : ℕ). name_at c.args.self.now.threads n) c.unwrap_or.ensures in
    let put = c.in_ok-extend_from_slice.ensures.items ∙ ap (λ (w : List ℕ). c.args.out.now.items ++ w) name in
    on_ok_weaker c.put_word.result (λ more. put_two _ _ _ _ _ put more) c.put_word.ensures
