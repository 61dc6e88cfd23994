use Rattle.std.proofs.Common.{◌≡◌, ◌∷◌, ◌++◌, ◌∙◌, ◌-◌, suc, length, [], ap, sym, arith, rules}
use Rattle.std.proofs.lemmas.Bool.Decides.{nat_tests}
use Rattle.er_clock.specs.Counts.{count_by}
use Rattle.er_epochs.specs.Epochs.{tagged}
use Rattle.er_epochs.proofs.Noted.{last_over, noted_over}
use Rattle.er_epochs.proofs.reads.put_over_last.Goals as goal

pub returns-clause-put : goal.returns-clause-put
returns-clause-put g c = λ put.
    let some : length c.args.reads.now.items ≡ suc (c.len-last.result - 1) = grind (arith, nat_tests, c.len-last.ensures, c.is_empty.ensures, c.if-is_empty.false) in
    let same : c.index.result.now.epoch ≡ c.epoch.result = search rules in
    let found = last_over c.args.reads.now.items (c.len-last.result - 1) c.index.result.now c.access_by.result some in
    noted_over (count_by c.args.clock.now) found.0 c.index.result.now (tagged c.args.clock.now.0 (count_by c.args.clock.now c.args.clock.now.0) c.args.tag) c.args.reads.now.items _
    (ap (λ e. (e.thread, e.count)) (same ∙ c.epoch.ensures))
    (found.1 ∙ ap (λ last. found.0 ++ last ∷ []) (sym c.index.ensures))
    (found.2 ∙ ap (λ last. found.0 ++ last ∷ []) c.access_by.ensures)
