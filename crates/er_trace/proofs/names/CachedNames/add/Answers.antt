use Rattle.std.proofs.Common.{◌≡◌, ℕ, ◌+◌, List, Some, slice_get, subst, take, ◌∙◌}
use Rattle.er_trace.proofs.RenumberingLemmas.{names_on, numbers_on, no_fewer}
use Rattle.er_trace.proofs.names.CachedNames.add.Goals as goal

pub returns-in_err-number-clause-more : goal.returns-in_err-number-clause-more
returns-in_err-number-clause-more c =
    no_fewer c.args.self.now (take c.loop-at.at c.args.others.now) c.number_near.new.self (c.in_err-number.ensures.err ∙ c.loop-at.invariant.names)

pub returns-in_err-push-clause-more : goal.returns-in_err-push-clause-more
returns-in_err-push-clause-more c =
    no_fewer c.args.self.now (take (c.loop-at.at + 1) c.args.others.now) c.number_near.new.self
    (names_on c.args.self.now c.args.others.now c.loop-at.self c.number_near.new.self c.loop-at.at c.name.result.now
    (subst (λ (names : List (List ℕ)). slice_get names c.loop-at.at ≡ Some c.name.result.now) c.others.view_is c.name.ensures) c.loop-at.invariant.names c.in_ok-number.ensures.ok)

pub loop-at-preserved : goal.loop-at-preserved
loop-at-preserved c =
    let so_far = c.loop-at.invariant in
    let done = c.in_ok-number.ensures in
    let name = subst (λ (names : List (List ℕ)). slice_get names c.loop-at.at ≡ Some c.name.result.now) c.others.view_is c.name.ensures in
    record {
      names = names_on c.args.self.now c.args.others.now c.loop-at.self c.number_near.new.self c.loop-at.at c.name.result.now name so_far.names done.ok;
      numbers =
          numbers_on c.args.self.now c.args.others.now c.loop-at.self c.number_near.new.self c.loop-at.at c.name.result.now name so_far.names done.ok
          c.loop-at.numbers c.push.new.self c.in_ok-number.number so_far.numbers done.number c.in_ok-push.ensures.ok;
    }

pub returns-clause-more : goal.returns-clause-more
returns-clause-more c = no_fewer c.args.self.now (take c.loop-at.at c.args.others.now) c.loop-at.self c.loop-at.invariant.names
