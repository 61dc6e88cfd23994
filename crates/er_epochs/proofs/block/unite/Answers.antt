use Rattle.std.proofs.Common.{◌≡◌, ◌∙◌, ℕ, ◌||◌, nat_eq, nat_lt, filter, ap, rules, tests}
use Rattle.std.specs.Map.{lookup}
use Rattle.er_epochs.specs.Known.{Known}
use Rattle.er_epochs.proofs.Epochs.{retained}
use Rattle.er_epochs.proofs.Split.{split-left}
use Rattle.er_epochs.proofs.block.unite.Goals as goal

pub returns : goal.returns
returns g c = λ i.
    let kept : c.retain.new.self.items ≡ filter (λ (word : ℕ × Known g.row.A.Denot). nat_lt word.0 c.args.lo || nat_lt c.args.hi word.0) c.args.split.now.items =
    retained _ (λ (word : ℕ × Known g.row.A.Denot). nat_lt word.0 c.args.lo || nat_lt c.args.hi word.0) _ (λ x b q k. search (rules, tests)) _ _ c.retain.ensures.filtered in
    ap (lookup (nat_eq i)) kept ∙ split-left c.args.split.now.items c.args.lo c.args.hi i
