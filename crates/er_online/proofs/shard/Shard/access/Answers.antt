use Rattle.std.proofs.Common.{subst}
use Rattle.er_model.specs.Parts.{FitsEnd}
use Rattle.er_model.specs.Words.{Counted}
use Rattle.er_online.specs.Taken.{HasSameStates, notes_of}
use Rattle.er_shadow.specs.Replies.{reply_if}
use Rattle.er_online.specs.declared.calls.ShardCall.TheVariants.{Access}
use Rattle.er_online.proofs.Growing.{replay-grows, access-fits}
use Rattle.er_online.proofs.Settled.{same-states, same-quiet}
use Rattle.er_online.proofs.shard.Shard.access.Goals as goal

pub invariant_of-self-2 : goal.invariant_of-self-2
invariant_of-self-2 c =
    let race = c.in_ok-noted.noted.is_race in
    replay-grows c.self.inside.history.calls _ _ _ (Access c.args.thread c.args.kind c.args.word race) c.args.locks.now c.self.invariant c.and-self-inside.ensures
    (access-fits c.self.inside.history.calls _ c.args.thread c.args.kind c.args.word c.args.locks.now race c.self.invariant c.in_ok-noted.ensures.race) c.in_ok-noted.ensures.ok

pub returns-clause-reply : goal.returns-clause-reply
returns-clause-reply c =
    let race = c.in_ok-noted.noted.is_race in
    subst (λ calls. FitsEnd (notes_of calls) (Counted c.args.thread c.args.kind c.args.word c.args.locks.now) (reply_if race)) c.self.view_is
    (access-fits c.self.inside.history.calls _ c.args.thread c.args.kind c.args.word c.args.locks.now race c.self.invariant c.in_ok-noted.ensures.race)

pub returns-clause-quiet : goal.returns-clause-quiet
returns-clause-quiet c = λ same. same-quiet _ _ c.args.thread c.args.kind c.args.word c.args.locks.now _ c.in_ok-noted.ensures.ok (c.in_ok-noted.ensures.unchanged same) c.in_ok-noted.ensures.race

pub returns-clause-settled : goal.returns-clause-settled
returns-clause-settled c = λ same.
    let calls = c.self.inside.history.calls in let race = c.in_ok-noted.noted.is_race in
    let grown = replay-grows calls _ _ _ (Access c.args.thread c.args.kind c.args.word race) c.args.locks.now c.self.invariant c.and-self-inside.ensures
    (access-fits calls _ c.args.thread c.args.kind c.args.word c.args.locks.now race c.self.invariant c.in_ok-noted.ensures.race) c.in_ok-noted.ensures.ok in
    subst (λ before. HasSameStates before c.and-self-inside.result.calls) c.self.view_is (same-states calls _ _ _ c.self.invariant grown (c.in_ok-noted.ensures.unchanged same))
