use Rattle.std.proofs.Common.{◌∙◌, ℕ, List, ap}
use Rattle.std.specs.Borrow.{Bor}
use Rattle.std.proofs.lemmas.Result.{IfOk-at_ok}
use Rattle.er_table.specs.Numbers.{behind}
use Rattle.er_table.proofs.NumbersLemmas.{added_among}
use Rattle.er_table.proofs.store.SharedGrow.push.Goals as goal

pub returns-clause-ok : goal.returns-clause-ok
returns-clause-ok g c =
    added_among (λ (s : Bor (List ℕ)). s.now) c.get.result c.reserve.new.self.keys c.insert.new.self.keys (behind c.args.self.now.sets.keys) c.args.set.now
    (ap behind c.reserve.ensures.keys) (c.get.ensures ∙ c.in_ok-set_ref.ensures.named.1) c.requires.new (IfOk-at_ok _ c.unwrap.ensures c.insert.ensures.keys)
