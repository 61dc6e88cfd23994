use Rattle.std.proofs.Common.{◌≡◌, ap, rules, Some}
use Rattle.er_check.proofs.AccessLemmas.{accessed-marked}
use Rattle.er_check.proofs.checking.step_agrees.Goals as goal

pub returns-in-Access : goal.returns-in-Access
returns-in-Access c =
    let s = c.args.step.now in
    let word : c.in-Access.accessed ≡ c.args.word = search rules in
    let same = accessed-marked c.args.held.now s.thread c.in-Access.kind c.args.word _ _ s.event c.in-Access.is word in (
      (λ is low access. rw same (c.agree.ensures.0 is)),
      (λ holds. c.agree.ensures.1 (rw same at (holds c.if-at-claims.false (rw c.in-Access.is (ap Some word))))),
    )
