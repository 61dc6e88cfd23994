-- What is found among its accesses is asked for only at a race.
use Rattle.std.proofs.Common.{◌≡◌, ◌∙◌, [], refl, ap, rules, tests}
use Rattle.er_clock.specs.Counts.{count_by}
use Rattle.er_epochs.specs.Epochs.{Alone, access_in, tag_found}
use Rattle.er_epochs.specs.Words.{said}
use Rattle.er_epochs.proofs.FoundLemmas.{alone_any}
use Rattle.er_epochs.proofs.word.OrderWord.access.Goals as goal

pub returns-then-not-is_ordered-clause-found : goal.returns-then-not-is_ordered-clause-found
returns-then-not-is_ordered-clause-found g c listed =
    let alone : (said c.args.self).readers ≡ Alone (access_in c.args.self.reader c.args.self.read_count c.args.self.read_tag) = search (rules, tests) in
    c.find.ensures [] refl ∙ ap (λ stored. tag_found (count_by c.args.clock.now) stored c.args.kind) (alone_any (count_by c.args.clock.now) (said c.args.self) _ [] listed alone)
