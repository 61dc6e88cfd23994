use Rattle.std.proofs.Common.{◌<◌, arith}
use Rattle.er_exit.proofs.LineLemmas.{with_skipped, with_passed, with_ended, with_gone_on}
use Rattle.er_exit.proofs.advice.Excerpt.take.Goals as goal

pub returns-in-0-eq10 : goal.returns-in-0-eq10
returns-in-0-eq10 c = λ rest.
    with_ended c.args.self.now.before c.args.byte c.args.self.now.ended c.args.self.now.line.items rest c.in-0-eq10.is-0 c.in-0-eq10.is-1 c.if-self.false

pub returns-in_ok-push-in-0-default : goal.returns-in_ok-push-in-0-default
returns-in_ok-push-in-0-default c = λ rest.
    with_gone_on c.args.self.now.before c.args.byte c.args.self.now.ended c.args.self.now.line.items c.push.new.self.items rest c.in-0-default.is-0 c.in-0-default.is-1.1 c.if-self.false c.in_ok-push-in-0-default.ensures.items

pub returns-in_default-eq10 : goal.returns-in_default-eq10
returns-in_default-eq10 c = λ rest.
    let some : 0 < c.args.self.now.before = (let other = c.in_default-eq10.is-0.1 in omega arith) in
    with_skipped c.args.self.now.before c.args.byte c.args.self.now.ended c.args.self.now.line.items rest some c.in_default-eq10.is-1

pub returns-in_default-2 : goal.returns-in_default-2
returns-in_default-2 c = λ rest.
    let some : 0 < c.args.self.now.before = (let other = c.in_default-2.is-0.1 in omega arith) in
    with_passed c.args.self.now.before c.args.byte c.args.self.now.ended c.args.self.now.line.items rest some c.in_default-2.is-1.1
