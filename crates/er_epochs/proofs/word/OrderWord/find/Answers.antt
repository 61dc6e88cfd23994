use Rattle.std.proofs.Common.{◌≡◌, ◌∙◌, false, sym, rules, tests}
use Rattle.er_clock.specs.Counts.{count_by}
use Rattle.er_epochs.specs.Words.{said}
use Rattle.er_epochs.proofs.FoundLemmas.{found-read, found-write, untold_found}
use Rattle.er_epochs.proofs.word.OrderWord.find.Goals as goal

pub returns-in-Some : goal.returns-in-Some
returns-in-Some g c = λ reads listed.
    let told : (said c.args.self).told ≡ false = search (rules, tests) in
    found-read (count_by c.args.clock.now) _ _ c.in-Some.tag (sym (c.find_read.ensures reads listed) ∙ c.in-Some.is)
    ∙ untold_found (count_by c.args.clock.now) (said c.args.self) reads c.args.kind told

pub returns-in-None : goal.returns-in-None
returns-in-None g c = λ reads listed.
    let told : (said c.args.self).told ≡ false = search (rules, tests) in
    c.unordered.ensures
    ∙ (found-write (count_by c.args.clock.now) _ _ (sym (c.find_read.ensures reads listed) ∙ c.in-None.is)
    ∙ untold_found (count_by c.args.clock.now) (said c.args.self) reads c.args.kind told)
