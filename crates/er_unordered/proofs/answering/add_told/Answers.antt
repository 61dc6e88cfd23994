use Rattle.std.proofs.Common.{◌≡◌, ◌∙◌, nat_lt, true, false, append-nil, ap₂, sym, rules, tests}
use Rattle.er_order.specs.ByBytes.{answer_by_bytes}
use Rattle.er_report.specs.Report.{is_printed_by}
use Rattle.er_unordered.proofs.PassLemmas.{printed-here}
use Rattle.er_unordered.proofs.answering.add_told.Goals as goal

pub returns-in_ok-tell-clause-told : goal.returns-in_ok-tell-clause-told
returns-in_ok-tell-clause-told g c touched r k built given =
    let more : nat_lt c.races-before.result c.races.result ≡ true = search (rules, tests) in
    let printed : is_printed_by (answer_by_bytes touched r.steps) r c.args.builder.now.rules k ≡ true =
    sym (ap₂ nat_lt c.races-before.ensures c.races.ensures ∙ printed-here (answer_by_bytes touched r.steps) c.args.builder.now c.add.new.self r k built ((rw c.view_of.ensures at c.in_ok-add.ensures.built_by (answer_by_bytes touched r.steps) r k) built given) c.in_ok-add.ensures.rules) ∙ more in
    rw printed c.in_ok-tell.ensures

pub returns-else-races-before-clause-told : goal.returns-else-races-before-clause-told
returns-else-races-before-clause-told g c touched r k built given =
    let more : nat_lt c.races-before.result c.races.result ≡ false = search (rules, tests) in
    let printed : is_printed_by (answer_by_bytes touched r.steps) r c.args.builder.now.rules k ≡ false =
    sym (ap₂ nat_lt c.races-before.ensures c.races.ensures ∙ printed-here (answer_by_bytes touched r.steps) c.args.builder.now c.add.new.self r k built ((rw c.view_of.ensures at c.in_ok-add.ensures.built_by (answer_by_bytes touched r.steps) r k) built given) c.in_ok-add.ensures.rules) ∙ more in
    rw printed (sym (append-nil c.args.told.now))
